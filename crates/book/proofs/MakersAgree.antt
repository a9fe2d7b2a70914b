-- The makers, test by test, make the calls of the book over numbers.
use Rattle.std.proofs.Common.{◌≡◌, ℕ, ◌+◌, ◌≤◌, cond, eqb, ltb, List, [], ◌∷◌, ◌++◌, length, sym, refl, ap, ◌∙◌, inl, inr, arith}
use mathlib.Core.Option.{none, some}
use Rattle.std.proofs.lemmas.List.{length_push}
use Rattle.std.proofs.lemmas.Bool.Decides.{nat_tests}
use Rattle.std.proofs.lemmas.Bool.{cases_Bool}
use Rattle.grammar.specs.Lists.{same_list, has, add, add_all, tails}
use Rattle.book.specs.Plain.{Call, Answer, Limits, Refusing, longest_form, early, late, ◌else◌, first_at, when, empty_list}
use Rattle.book.specs.Plain
use Rattle.book.specs.Agree.{Room}
use Rattle.book.specs.Nodes.{Node, array, maybe, dict, structure, same_node, enter, size_of, fields_of, tails_from, tails_of, answered, call}
use Rattle.book.specs.Nodes
use Rattle.book.specs.Makers
use Rattle.std.specs.List.{flat_map}
use Rattle.book.proofs.Lists.{in_flat, numbers, same_lists, has_in, not_in, add_old, add_new, add_all_old, add_all_append, add_all_in, place_in, place_out}
use Rattle.book.proofs.NodeShapes.{same_nodes}
use Rattle.book.proofs.Calls.{else_none, late_none}

-- the tails of one list of nodes and then of another
pub tails_append : (T : List (List ℕ)) (b r : List Node) → tails_from T (b ++ r) ≡ tails_from (tails_from T b) r
tails_append T [] r = refl
tails_append T (x ∷ b) r = tails_append (add_all (same_list eqb) T (tails (fields_of x))) b r

add_tails_is : (T : List (List ℕ)) (fs : List ℕ) → Makers.add_tails T fs ≡ add_all (same_list eqb) T (tails fs)
add_tails_is T [] = refl
add_tails_is T (f ∷ fs) = ap (λ (z : List (List ℕ)). add (same_list eqb) z (f ∷ fs)) (add_tails_is T fs) ∙ sym (add_all_append (same_lists numbers) T (tails fs) ((f ∷ fs) ∷ []))

-- all tails, one list of fields after another
tails_are : (T : List (List ℕ)) (b : List Node) → tails_from T b ≡ add_all (same_list eqb) T (flat_map (λ x. tails (fields_of x)) b)
tails_are T [] = refl
tails_are T (x ∷ b) =
    tails_are (add_all (same_list eqb) T (tails (fields_of x))) b ∙ sym (add_all_append (same_lists numbers) T (tails (fields_of x)) (flat_map (λ x. tails (fields_of x)) b))

abbrev after : Limits → List Node → Node → Answer × List Node
after limits b x = answered b (enter b x) (late limits (record { size = size_of b x; types = length (add same_node b x); fields = length (tails_of (add same_node b x)) }))

-- the tails with x
tails_with : (b : List Node) (x : Node) → tails_of (add same_node b x) ≡ add_all (same_list eqb) (tails_of b) (tails (fields_of x))
tails_with b x = elim (cases_Bool (has same_node b x)) [
  | inl h ↦ let i = has_in same_nodes b x h in rw (add_old same_nodes b x i, add_all_old (same_lists numbers) (tails_of b) (tails (fields_of x)) (λ t j. rw (tails_are [] b) (add_all_in (same_lists numbers) [] (flat_map (λ x. tails (fields_of x)) b) t (inr (in_flat (λ x. tails (fields_of x)) t x b i j)))))
  | inr h ↦ rw (add_new same_nodes b x (not_in same_nodes b x h)) (tails_append [] b (x ∷ []))
]

module _ (limits : Limits) (b : List Node) (x : Node) (room : Room limits b) where
  -- where the tails fit
  entered : length (tails_of (add same_node b x)) ≤ limits.fields → Makers.sized limits.types b x ≡ after limits b x
  unfolding Makers.placed
  entered f = elim (cases_Bool (has same_node b x)) [
    | inl h ↦ let i = has_in same_nodes b x h in grind (arith, nat_tests, place_in same_nodes b x x i, add_old same_nodes b x i, room.types)
    | inr h ↦ let n = not_in same_nodes b x h in grind (arith, nat_tests, place_out same_nodes b x n, add_new same_nodes b x n, length_push b x)
  ]

bare_fits : (limits : Limits) (b : List Node) (x : Node) → Room limits b → fields_of x ≡ [] → length (tails_of (add same_node b x)) ≤ limits.fields
bare_fits limits b x room e = let r = room.fields in omega (arith, ap length (tails_with b x ∙ ap (λ (z : List ℕ). add_all (same_list eqb) (tails_of b) (tails z)) e))

module _ (limits : Limits) (b : List Node) (room : Room limits b) where
  pub array_same : (n : ℕ) → Makers.array_call limits.types b n ≡ call limits b (Plain.array n)
  unfolding call
  array_same n = grind (arith, nat_tests, entered limits b (array n) room (bare_fits limits b (array n) room refl))

  pub maybe_same : (n : ℕ) → Makers.maybe_call limits.types b n ≡ call limits b (Plain.maybe n)
  unfolding call
  maybe_same n = grind (arith, nat_tests, entered limits b (maybe n) room (bare_fits limits b (maybe n) room refl))

  pub dict_same : (n m : ℕ) → Makers.dict_call limits.types b n m ≡ call limits b (Plain.dict n m)
  unfolding call
  dict_same n m = grind (arith, nat_tests, entered limits b (dict n m) room (bare_fits limits b (dict n m) room refl))

-- positions
first_unknown : (m : ℕ) (fs : List ℕ) → first_at (λ n. ltb (14 + m) n) fs ≡ cond (ltb (Makers.unknown_at (15 + m) fs) (length fs)) (some (Makers.unknown_at (15 + m) fs)) none
first_unknown m [] = refl
first_unknown m (f ∷ fs) = grind (arith, nat_tests, first_unknown m fs)

first_unit : (fs : List ℕ) → first_at (λ n. eqb n 0) fs ≡ cond (ltb (Makers.unit_at fs) (length fs)) (some (Makers.unit_at fs)) none
first_unit [] = refl
first_unit (f ∷ fs) = grind (arith, nat_tests, first_unit fs)

-- a call with the tails after it
abbrev pub triple : Answer × List Node → Answer × List Node × List (List ℕ)
triple r = (r.0, r.1, tails_of r.1)

module _ (limits : Limits) (b : List Node) (room : Room limits b) where
  same_tails : (fs : List ℕ) → Makers.add_tails (tails_of b) fs ≡ tails_of (add same_node b (structure fs))
  same_tails fs = add_tails_is (tails_of b) fs ∙ sym (tails_with b (structure fs))

  pub structure_same : (fs : List ℕ) → Makers.structure_call limits.types limits.fields b (tails_of b) fs ≡ triple (call limits b (Plain.structure fs))
  unfolding call
  structure_same [] = refl
  structure_same (f ∷ fs) =
      grind (arith, nat_tests, first_unknown (length b) (f ∷ fs), first_unit (f ∷ fs), same_tails (f ∷ fs), entered limits b (structure (f ∷ fs)) room)

-- a book within its room stays so
pub room_kept : (limits : Limits) (b : List Node) → Room limits b → (c : Call) → Room limits (call limits b c).1
unfolding call
room_kept limits b room c = go (early c (length b) else late limits (Nodes.needed b c)) refl
  where
    go : (o : Refusing) → (early c (length b) else late limits (Nodes.needed b c)) ≡ o → Room limits (answered b (Nodes.grown b c) o).1
    go (some e) h = room
    go none h = let p = late_none limits (Nodes.needed b c) (else_none _ _ h).1 in record { types = p.0; fields = p.1 }
