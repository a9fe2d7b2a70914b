-- Books that grow by the containers of shapes.
use Rattle.std.proofs.Common.{◌≡◌, ℕ, zero, suc, ◌+◌, ◌≤◌, List, [], ◌∷◌, ◌++◌, map, length, sym, refl, ap, ◌∙◌, subst, inr, append_assoc, append-nil, arith, length-append}
use mathlib.Core.Option.{Option}
use Rattle.grammar.specs.Lists.{same_list, add_all, tails}
use Rattle.grammar.specs.Shape.{Text, basic_codes, Shape, Shapes, array, maybe, dict, structure, nil, more, printed, printed_all}
use Rattle.grammar.specs.Parts.{containers, containers_all}
use Rattle.grammar.specs.Read.{reading}
use Rattle.grammar.proofs.ReadBack.{reading_printed}
use Rattle.book.specs.Plain.{Limits, same_text, single, known, containers_of, fields_of, grown, tails_from, tails_of}
use Rattle.book.proofs.Lists.{add_all_old, add_all_append, add_all_in, add_all_longer, same_lists}
use Rattle.book.proofs.NodeShapes.{same_texts}
use Rattle.book.proofs.Backed.{known_keeps}
use Rattle.building.specs.Building.{Fits, with, with_all, Filed, FiledAll, joined, maybes}

map_append : {A B : Type 0} (f : A → B) (xs ys : List A) → map f (xs ++ ys) ≡ map f xs ++ map f ys
map_append f [] ys = refl
map_append f (x ∷ xs) ys = ap (λ (z : List _). f x ∷ z) (map_append f xs ys)

-- a whole text's growth is its shape's
pub grown_with : (b : List Text) (t : Shape) → grown b (printed t) ≡ with b t
grown_with b t = ap (λ (o : Option Shape). add_all same_text b (containers_of o)) (reading_printed t)

-- what was added already is not added again
pub again : (b xs ys : List Text) → add_all same_text (add_all same_text b xs) (xs ++ ys) ≡ add_all same_text b (xs ++ ys)
again b xs ys =
    add_all_append same_texts (add_all same_text b xs) xs ys
    ∙ ap (λ (c : List Text). add_all same_text c ys) (add_all_old same_texts (add_all same_text b xs) xs (λ x i. add_all_in same_texts b xs x (inr i)))
    ∙ sym (add_all_append same_texts b xs ys)

pub with_array : (b : List Text) (t : Shape) → with (with b t) (array t) ≡ with b (array t)
with_array b t = let e = map_append printed (containers t) (array t ∷ []) in
    ap (add_all same_text (with b t)) e ∙ again b (map printed (containers t)) (printed (array t) ∷ []) ∙ ap (add_all same_text b) (sym e)

pub with_maybe : (b : List Text) (t : Shape) → with (with b t) (maybe t) ≡ with b (maybe t)
with_maybe b t = let e = map_append printed (containers t) (maybe t ∷ []) in
    ap (add_all same_text (with b t)) e ∙ again b (map printed (containers t)) (printed (maybe t) ∷ []) ∙ ap (add_all same_text b) (sym e)

-- two lists of containers, and what is added after both
two : (b : List Text) (xs ys zs : List Shape) → add_all same_text (add_all same_text (add_all same_text b (map printed xs)) (map printed ys)) (map printed (xs ++ (ys ++ zs))) ≡ add_all same_text b (map printed (xs ++ (ys ++ zs)))
two b xs ys zs =
    let e : map printed (xs ++ (ys ++ zs)) ≡ (map printed xs ++ map printed ys) ++ map printed zs =
    map_append printed xs (ys ++ zs) ∙ ap (λ (z : List Text). map printed xs ++ z) (map_append printed ys zs) ∙ sym (append_assoc (map printed xs) (map printed ys) (map printed zs)) in
    ap (add_all same_text (add_all same_text (add_all same_text b (map printed xs)) (map printed ys))) e
    ∙ ap (λ (c : List Text). add_all same_text c ((map printed xs ++ map printed ys) ++ map printed zs)) (sym (add_all_append same_texts b (map printed xs) (map printed ys)))
    ∙ again b (map printed xs ++ map printed ys) (map printed zs)
    ∙ ap (add_all same_text b) (sym e)

pub with_dict : (b : List Text) (k v : Shape) → with (with (with b k) v) (dict k v) ≡ with b (dict k v)
with_dict b k v = two b (containers k) (containers v) (dict k v ∷ [])

pub with_all_more : (b : List Text) (t : Shape) (ts : Shapes) → with_all b (more t ts) ≡ with_all (with b t) ts
with_all_more b t ts = ap (add_all same_text b) (map_append printed (containers t) (containers_all ts)) ∙ add_all_append same_texts b (map printed (containers t)) (map printed (containers_all ts))

pub with_structure : (b : List Text) (t : Shape) (ts : Shapes) → with (with_all b (more t ts)) (structure t ts) ≡ with b (structure t ts)
with_structure b t ts = ap (λ (c : List Text). with c (structure t ts)) (with_all_more b t ts) ∙ two b (containers t) (containers_all ts) (structure t ts ∷ [])

-- a longer book has no fewer tails
tails_append : (T : List (List Text)) (b r : List Text) → tails_from T (b ++ r) ≡ tails_from (tails_from T b) r
tails_append T [] r = refl
tails_append T (w ∷ b) r = tails_append (add_all (same_list same_text) T (tails (fields_of (reading w)))) b r

tails_long : (T : List (List Text)) (r : List Text) → length T ≤ length (tails_from T r)
tails_long T [] = omega arith
tails_long T (w ∷ r) =
    let p = add_all_longer (same_lists same_texts) T (tails (fields_of (reading w))) in
    omega (arith, tails_long (add_all (same_list same_text) T (tails (fields_of (reading w)))) r, ap length p.1, length-append T p.0)

pub fits_less : (limits : Limits) (b r : List Text) → Fits limits (b ++ r) → Fits limits b
fits_less limits b r f = record {
  types = omega (arith, f.types, length-append b r);
  fields = omega (arith, f.fields, ap length (tails_append [] b r), tails_long (tails_of b) r);
}

pub fits_add : (limits : Limits) (b xs : List Text) → Fits limits (add_all same_text b xs) → Fits limits b
fits_add limits b xs f = let p = add_all_longer same_texts b xs in fits_less limits b p.0 (subst (Fits limits) p.1 f)

-- a part's growth fits where the whole's does
pub fits_part : (limits : Limits) (b c : List Text) (t : Shape) → with c t ≡ with b t → Fits limits (with b t) → Fits limits c
fits_part limits b c t e f = fits_add limits c (map printed (containers t)) (subst (Fits limits) (sym e) f)

-- a number keeps its shape in a longer book
known_longer : (b r : List Text) → length (known (b ++ r)) ≡ length (known b) + length r
known_longer b r = ap (λ (z : List Text). length ([] ∷ z)) (sym (append_assoc (map single basic_codes) b r)) ∙ length-append (known b) r

pub filed_add : (b xs : List Text) (n : ℕ) (t : Shape) → Filed b n t → Filed (add_all same_text b xs) n t
filed_add b xs n t f =
    let p = add_all_longer same_texts b xs in
    subst (λ (c : List Text). Filed c n t) (sym p.1)
    (record { within = omega (arith, f.within, known_longer b p.0); text = known_keeps b p.0 n f.within ∙ f.text })

pub filed_all_add : (b xs : List Text) (ns : List ℕ) (ts : Shapes) → FiledAll b ns ts → FiledAll (add_all same_text b xs) ns ts
filed_all_add b xs [] nil f = tt
filed_all_add b xs [] (more t ts) f = absurd f
filed_all_add b xs (n ∷ ns) nil f = absurd f
filed_all_add b xs (n ∷ ns) (more t ts) f = (filed_add b xs n t f.0, filed_all_add b xs ns ts f.1)

-- one shape more at the end of a row
pub filed_all_push : (b : List Text) (ns : List ℕ) (ts : Shapes) (n : ℕ) (t : Shape) → FiledAll b ns ts → Filed b n t → FiledAll b (ns ++ n ∷ []) (joined ts (more t nil))
filed_all_push b [] nil n t f g = (g, tt)
filed_all_push b [] (more u ts) n t f g = absurd f
filed_all_push b (m ∷ ns) nil n t f g = absurd f
filed_all_push b (m ∷ ns) (more u ts) n t f g = (f.0, filed_all_push b ns ts n t f.1 g)

pub joined_assoc : (ts us vs : Shapes) → joined (joined ts us) vs ≡ joined ts (joined us vs)
joined_assoc nil us vs = refl
joined_assoc (more t ts) us vs = ap (more t) (joined_assoc ts us vs)

pub joined_nil : (ts : Shapes) → joined ts nil ≡ ts
joined_nil nil = refl
joined_nil (more t ts) = ap (more t) (joined_nil ts)

pub printed_joined : (ts us : Shapes) → printed_all (joined ts us) ≡ printed_all ts ++ printed_all us
printed_joined nil us = refl
printed_joined (more t ts) us = ap (λ (z : Text). printed t ++ z) (printed_joined ts us) ∙ sym (append_assoc (printed t) (printed_all ts) (printed_all us))

pub with_joined : (b : List Text) (ts us : Shapes) → with_all b (joined ts us) ≡ with_all (with_all b ts) us
with_joined b nil us = refl
with_joined b (more t ts) us = with_all_more b t (joined ts us) ∙ with_joined (with b t) ts us ∙ ap (λ (c : List Text). with_all c us) (sym (with_all_more b t ts))

pub with_one : (b : List Text) (t : Shape) → with_all b (more t nil) ≡ with b t
with_one b t = with_all_more b t nil

pub with_again : (b : List Text) (t : Shape) → with (with b t) t ≡ with b t
with_again b t = add_all_old same_texts (with b t) (map printed (containers t)) (λ x i. add_all_in same_texts b (map printed (containers t)) x (inr i))

-- what fits with a whole fits with a part
pub fits_all : (limits : Limits) (b : List Text) (t : Shape) (ts : Shapes) → Fits limits (with b (structure t ts)) → Fits limits (with_all b (more t ts))
fits_all limits b t ts f = fits_part limits b (with_all b (more t ts)) (structure t ts) (with_structure b t ts) f

pub fits_joined : (limits : Limits) (b : List Text) (ts us : Shapes) → Fits limits (with_all b (joined ts us)) → Fits limits (with_all b ts)
fits_joined limits b ts us f = fits_add limits (with_all b ts) (map printed (containers_all us)) (subst (Fits limits) (with_joined b ts us) f)

pub fits_maybes : (limits : Limits) (b : List Text) (k : ℕ) (t : Shape) → Fits limits (with b (maybes k t)) → Fits limits (with b t)
fits_maybes limits b zero t f = f
fits_maybes limits b (suc k) t f = fits_part limits b (with b t) (maybe t) (with_maybe b t) (fits_maybes limits b k (maybe t) f)

maybes_parts : (k : ℕ) (t : Shape) → (r : List Shape) × (containers (maybes k t) ≡ containers t ++ r)
maybes_parts zero t = ([], sym (append-nil (containers t)))
maybes_parts (suc k) t = let p = maybes_parts k (maybe t) in (maybe t ∷ p.0, p.1 ∙ append_assoc (containers t) (maybe t ∷ []) p.0)

pub with_maybes : (b : List Text) (k : ℕ) (t : Shape) → with (with b t) (maybes k t) ≡ with b (maybes k t)
with_maybes b k t =
    let p = maybes_parts k t in
    let e = ap (map printed) p.1 ∙ map_append printed (containers t) p.0 in
    ap (add_all same_text (with b t)) e ∙ again b (map printed (containers t)) (map printed p.0) ∙ ap (add_all same_text b) (sym e)
