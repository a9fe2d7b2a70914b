-- A text read back as a tree, however deep. It computes, and is proved to be the way back from printing (see Laws).
use Rattle.std.specs.Prelude.{◌≡◌, ℕ, zero, suc, ◌+◌, true, cond, [], ◌∷◌, length, ◌==◌}
use Rattle.std.proofs.Math.Bool.{Bool-discrete}
use Rattle.std.proofs.Math.Option.{Option, none, some}
use Rattle.grammar.specs.Shape.{Text, is_basic, Shape, basic, array, maybe, dict, structure, Shapes, nil, more}

-- what a text begins with, and what stands behind it
pub data Front : Type 0 where
  code : (c : ℕ) → is_basic c ≡ true → Text → Front
  arrays dicts structures maybes : Text → Front
  nothing : Front

abbrev pub behind_a : Text → Front
behind_a [] = arrays []
behind_a (c ∷ w) = cond (c == 123) (dicts w) (arrays (c ∷ w))

abbrev pub front_by : (b : ℕ) → Text → Dec (is_basic b ≡ true) → Front
front_by b w (yes h) = code b h w
front_by b w (no _) = cond (b == 97) (behind_a w) (cond (b == 40) (structures w) (cond (b == 109) (maybes w) nothing))

unfoldable pub front : Text → Front
unfolding is_basic
front [] = nothing
front (b ∷ w) = front_by b w (Bool-discrete (is_basic b) true)

-- a tree and what stands behind it
abbrev pub Found : Type 0 → Type 0
Found A = Option (A × Text)

abbrev pub then : {A B : Type 0} → Found A → (A → Text → Found B) → Found B
then none f = none
then (some r) f = f r.0 r.1

abbrev pub closed : {A : Type 0} → ℕ → A → Text → Found A
closed c x [] = none
closed c x (b ∷ w) = cond (b == c) (some (x, w)) none

-- whether the text goes on with ')', and what stands behind it
abbrev pub closing : Text → Option Text
closing [] = none
closing (b ∷ w) = cond (b == 41) (some w) none

-- The first number bounds how deep the calls go: a text's length will do.
unfoldable mutual
  pub read_type : ℕ → Text → Found Shape
  read_type zero w = none
  read_type (suc n) w = elim (front w) [
    | code c h v ↦ some (basic c h, v)
    | arrays v ↦ then (read_type n v) (λ t u. some (array t, u))
    | maybes v ↦ then (read_type n v) (λ t u. some (maybe t, u))
    | dicts v ↦ then (read_type n v) (λ k u. then (read_type n u) (λ x y. closed 125 (dict k x) y))
    | structures v ↦ then (read_type n v) (λ t u. then (read_rest n u) (λ ts y. some (structure t ts, y)))
    | nothing ↦ none
  ]

  -- types up to ')'
  pub read_rest : ℕ → Text → Found Shapes
  read_rest zero w = none
  read_rest (suc n) w = elim (closing w) [
    | some v ↦ some (nil, v)
    | none ↦ then (read_type n w) (λ t u. then (read_rest n u) (λ ts y. some (more t ts, y)))
  ]

abbrev pub whole : Found Shape → Option Shape
whole none = none
whole (some (t, [])) = some t
whole (some (t, b ∷ w)) = none

-- the shape whose printed bytes the text is
unfoldable pub reading : Text → Option Shape
reading w = whole (read_type (length w) w)

unfoldable pub read_types : ℕ → Text → Option Shapes
read_types n [] = some nil
read_types zero (b ∷ w) = none
read_types (suc n) (b ∷ w) = elim (read_type n (b ∷ w)) [
  | none ↦ none
  | some r ↦ elim (read_types n r.1) [ none ↦ none | some ts ↦ some (more r.0 ts) ]
]

-- the shapes whose printed bytes, in a row, the text is
unfoldable pub read_all : Text → Option Shapes
read_all w = read_types (length w + 1) w
