-- The makers, test by test, answer as the plain book does and keep what a book keeps.
use Rattle.std.proofs.Common.{◌≡◌, ℕ, List, refl}
use Rattle.book.specs.Plain.{Answer, Call, Limits, call}
use Rattle.book.specs.Plain
use Rattle.book.specs.Nodes.{Node, texts_of, tails_of}
use Rattle.book.specs.Nodes
use Rattle.book.specs.Makers
use Rattle.book.specs.Agree.{Good, Room}
use Rattle.book.proofs.Agree.{agrees}
use Rattle.book.proofs.MakersAgree.{array_same, maybe_same, dict_same, structure_same, room_kept}

-- what a call on nodes came to
pub record Told (limits : Limits) (ns : List Node) (c : Call) (r : Answer × List Node) : Type 0 where
  pub good : Good r.1
  pub room : Room limits r.1
  pub answer : r.0 ≡ (call limits (texts_of ns) c).0
  pub texts : texts_of r.1 ≡ (call limits (texts_of ns) c).1

pub told : (limits : Limits) (ns : List Node) → Good ns → Room limits ns → (c : Call) → Told limits ns c (Nodes.call limits ns c)
told limits ns g room c = let a = agrees limits ns g c in record { good = a.good; room = room_kept limits ns room c; answer = a.answer; texts = a.texts }

module _ (limits : Limits) (ns : List Node) (g : Good ns) (room : Room limits ns) where
  pub array_told : (n : ℕ) → Told limits ns (Plain.array n) (Makers.array_call limits.types ns n)
  array_told n = rw (array_same limits ns room n) (told limits ns g room (Plain.array n))

  pub maybe_told : (n : ℕ) → Told limits ns (Plain.maybe n) (Makers.maybe_call limits.types ns n)
  maybe_told n = rw (maybe_same limits ns room n) (told limits ns g room (Plain.maybe n))

  pub dict_told : (k v : ℕ) → Told limits ns (Plain.dict k v) (Makers.dict_call limits.types ns k v)
  dict_told k v = rw (dict_same limits ns room k v) (told limits ns g room (Plain.dict k v))

  -- with the tails after it
  pub structure_told : (fs : List ℕ) → let r : Answer × List Node × List (List ℕ) = Makers.structure_call limits.types limits.fields ns (tails_of ns) fs in Told limits ns (Plain.structure fs) (r.0, r.1) × (r.2 ≡ tails_of r.1)
  structure_told fs = rw (structure_same limits ns room fs) (told limits ns g room (Plain.structure fs), refl)
