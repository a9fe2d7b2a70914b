-- A depth is at most the length of the printed form.
use Rattle.std.proofs.Common.{ℕ, zero, suc, ◌-◌, ◌<◌, List, [], ◌∷◌, ◌++◌, map, length, get_or, sym, subst, arith, le-ltb, lt-ltb}
use native.Mathlib.Decide.{dec_lt}
use Rattle.std.proofs.lemmas.List.{length-map, get_or-map, get_or_past}
use Rattle.grammar.specs.declared.figures.Figures.{Figures}
use Rattle.grammar.specs.Shape.{basic_codes}
use Rattle.book.specs.Nodes.{Node, array, maybe, dict, structure, code_figures, first_figures, blank_figures, figures_at, field_figures, node_figures, figures_from}
use Rattle.layout.specs.Figured.{Bounded}
use Rattle.layout.proofs.Keep.{each_push}

-- what holds of each item and of the default holds wherever one looks
at : {A : Type 0} (P : A → Type 0) (d : A) (xs : List A) → P d → ((k : ℕ) → k < length xs → P (get_or xs k d)) → (k : ℕ) → P (get_or xs k d)
at P d xs p h k = go (dec_lt k (length xs))
  where
    go : Dec (k < length xs) → P (get_or xs k d)
    go (yes l) = h k l
    go (no n) = subst P (sym (get_or_past xs k d (omega arith))) p

first_bounded : (n : ℕ) → Bounded (get_or first_figures n blank_figures)
first_bounded zero = record { structures = omega arith; arrays = omega arith }
first_bounded (suc n) = at Bounded blank_figures (map code_figures basic_codes) (record { structures = omega arith; arrays = omega arith })
    (λ k l. subst Bounded (sym (get_or-map code_figures basic_codes k 0 blank_figures (omega (arith, length-map basic_codes code_figures)))) (record { structures = omega arith; arrays = omega arith })) n

number_bounded : (acc : List Figures) → ((k : ℕ) → Bounded (get_or acc k blank_figures)) → (n : ℕ) → Bounded (figures_at acc n)
number_bounded acc h n = go (dec_lt n 15)
  where
    go : Dec (n < 15) → Bounded (figures_at acc n)
    go (yes l) = rw (lt-ltb n 15 l) (first_bounded n)
    go (no m) = rw (le-ltb n 15 (omega arith)) (h (n - 15))

fields_bounded : (acc : List Figures) → ((n : ℕ) → Bounded (figures_at acc n)) → (fs : List ℕ) → Bounded (field_figures acc fs)
fields_bounded acc h [] = record { structures = omega arith; arrays = omega arith }
fields_bounded acc h (f ∷ fs) =
    let p = h f in let q = fields_bounded acc h fs in
    record { structures = omega (arith, p.structures, q.structures); arrays = omega (arith, p.arrays, q.arrays) }

node_bounded : (acc : List Figures) → ((n : ℕ) → Bounded (figures_at acc n)) → (x : Node) → Bounded (node_figures acc x)
node_bounded acc h (array n) = let p = h n in record { structures = omega (arith, p.structures); arrays = omega (arith, p.arrays) }
node_bounded acc h (maybe n) = let p = h n in record { structures = omega (arith, p.structures); arrays = omega (arith, p.arrays) }
node_bounded acc h (dict k v) = let p = h k in let q = h v in record { structures = omega (arith, p.structures, q.structures); arrays = omega (arith, p.arrays, q.arrays) }
node_bounded acc h (structure fs) = let p = fields_bounded acc h fs in record { structures = omega (arith, p.structures); arrays = omega (arith, p.arrays) }

all_bounded : (acc : List Figures) (b : List Node) → ((k : ℕ) → k < length acc → Bounded (get_or acc k blank_figures)) → (k : ℕ) → k < length (figures_from acc b) → Bounded (get_or (figures_from acc b) k blank_figures)
unfolding figures_from
all_bounded acc [] h = h
all_bounded acc (x ∷ b) h =
    all_bounded (acc ++ node_figures acc x ∷ []) b
    (each_push (λ _ f. Bounded f) blank_figures acc (node_figures acc x) h
    (node_bounded acc (number_bounded acc (at Bounded blank_figures acc (record { structures = omega arith; arrays = omega arith }) h)) x))

-- the figures of any number
pub bounded : (b : List Node) (n : ℕ) → Bounded (figures_at (figures_from [] b) n)
bounded b = number_bounded (figures_from [] b) (at Bounded blank_figures (figures_from [] b) (record { structures = omega arith; arrays = omega arith }) (all_bounded [] b (λ k h. absurd (omega arith))))

pub fields_in_are : (b : List Node) (fs : List ℕ) → Bounded (field_figures (figures_from [] b) fs)
fields_in_are b fs = fields_bounded (figures_from [] b) (bounded b) fs
