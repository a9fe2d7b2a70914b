-- What is read is what was printed.
use Rattle.std.proofs.Common.{◌≡◌, ℕ, zero, suc, ◌+◌, true, [], ◌∷◌, ◌++◌, length, refl, ap, ◌∙◌, subst, append_assoc, append-nil, arith}
use mathlib.Core.Bool.{Bool-discrete}
use mathlib.Core.Option.{Option, none, some}
use Rattle.grammar.specs.Shape.{Text, is_basic, Shape, basic, array, maybe, dict, structure, Shapes, nil, more, printed, printed_all}
use Rattle.grammar.specs.Laws.{ReadingIsExact}
use Rattle.grammar.proofs.ReadBack.{reading_printed, read_all_printed}
use Rattle.grammar.specs.Read.{Front, code, arrays, dicts, structures, maybes, nothing, behind_a, front_by, front, Found, then, closed, closing, read_type, read_rest, whole, reading, read_types, read_all}

abbrev Says : Text → Front → Type 0
Says w (code c h v) = w ≡ c ∷ v
Says w (arrays v) = w ≡ 97 ∷ v
Says w (dicts v) = w ≡ 97 ∷ 123 ∷ v
Says w (structures v) = w ≡ 40 ∷ v
Says w (maybes v) = w ≡ 109 ∷ v
Says w nothing = Unit {0}

says_a : (b : ℕ) (w : Text) → b ≡ 97 → Says (b ∷ w) (behind_a w)
says_a b w e = grind arith

says : (w : Text) → Says w (front w)
unfolding front
says [] = tt
says (b ∷ w) = go (Bool-discrete (is_basic b) true)
  where
    go : (d : Dec (is_basic b ≡ true)) → Says (b ∷ w) (front_by b w d)
    go (yes h) = refl
    go (no n) = grind (arith, says_a b w)

says_closing : (w v : Text) → closing w ≡ some v → w ≡ 41 ∷ v
says_closing [] v e = cc
says_closing (b ∷ w) v e = grind arith

-- what is said of the tree that was found, and of the text behind it
of_found : {A : Type 0} (P : A → Text → Type 0) (x y : A) (u v : Text) → ◌≡◌ {A = Found A} (some (x, u)) (some (y, v)) → P x u → P y v
of_found {A} P x y u v e h = let z : ◌≡◌ {A = A × Text} (x, u) (y, v) = cc in subst (λ (r : A × Text). P r.0 r.1) z h

says_closed : {A : Type 0} (x y : A) (w v : Text) → closed 125 x w ≡ some (y, v) → (x ≡ y) × (w ≡ 125 ∷ v)
says_closed x y [] v e = cc
says_closed x y (b ∷ w) v e = grind arith

-- what was found first
then_some : {A B : Type 0} (o : Found A) (f : A → Text → Found B) (y : B × Text) → then o f ≡ some y → (x : A) × (u : Text) × (o ≡ some (x, u)) × (f x u ≡ some y)
then_some none f y e = cc
then_some (some r) f y e = (r.0, r.1, refl, e)

abbrev body : ℕ → Front → Found Shape
body n (code c h v) = some (basic c h, v)
body n (arrays v) = then (read_type n v) (λ t u. some (array t, u))
body n (maybes v) = then (read_type n v) (λ t u. some (maybe t, u))
body n (dicts v) = then (read_type n v) (λ k u. then (read_type n u) (λ x y. closed 125 (dict k x) y))
body n (structures v) = then (read_type n v) (λ t u. then (read_rest n u) (λ ts y. some (structure t ts, y)))
body n nothing = none

abbrev rest : ℕ → Text → Option Text → Found Shapes
rest n w (some v) = some (nil, v)
rest n w none = then (read_type n w) (λ t u. then (read_rest n u) (λ ts y. some (more t ts, y)))

abbrev Back : ℕ → Type 0
Back n = (w : Text) (s : Shape) (v : Text) → read_type n w ≡ some (s, v) → w ≡ printed s ++ v

abbrev Backs : ℕ → Type 0
Backs n = (w : Text) (ts : Shapes) (v : Text) → read_rest n w ≡ some (ts, v) → w ≡ printed_all ts ++ 41 ∷ v

back_body : (n : ℕ) → Back n → Backs n → (w : Text) (f : Front) → Says w f → (s : Shape) (v : Text) → body n f ≡ some (s, v) → w ≡ printed s ++ v
back_body n h k w (code c g u) y s v e = of_found (λ (t : Shape) (x : Text). w ≡ printed t ++ x) (basic c g) s u v e y
back_body n h k w (arrays u) y s v e =
    let q = then_some (read_type n u) (λ t u. some (array t, u)) (s, v) e in
    of_found (λ (t : Shape) (x : Text). w ≡ printed t ++ x) (array q.0) s q.1 v q.3 (cc (h u q.0 q.1 q.2))
back_body n h k w (maybes u) y s v e =
    let q = then_some (read_type n u) (λ t u. some (maybe t, u)) (s, v) e in
    of_found (λ (t : Shape) (x : Text). w ≡ printed t ++ x) (maybe q.0) s q.1 v q.3 (cc (h u q.0 q.1 q.2))
back_body n h k w (dicts u) y s v e =
    let q = then_some (read_type n u) (λ k u. then (read_type n u) (λ x y. closed 125 (dict k x) y)) (s, v) e in
    let r = then_some (read_type n q.1) (λ x y. closed 125 (dict q.0 x) y) (s, v) q.3 in
    let p = says_closed (dict q.0 r.0) s r.1 v r.3 in
    subst (λ (t : Shape). w ≡ printed t ++ v) p.0
    (cc (p.1, h u q.0 q.1 q.2, h q.1 r.0 r.1 r.2, append_assoc (printed q.0) (printed r.0 ++ 125 ∷ []) v, append_assoc (printed r.0) (125 ∷ []) v))
back_body n h k w (structures u) y s v e =
    let q = then_some (read_type n u) (λ t u. then (read_rest n u) (λ ts y. some (structure t ts, y))) (s, v) e in
    let r = then_some (read_rest n q.1) (λ ts y. some (structure q.0 ts, y)) (s, v) q.3 in
    of_found (λ (t : Shape) (x : Text). w ≡ printed t ++ x) (structure q.0 r.0) s r.1 v r.3
    (cc (h u q.0 q.1 q.2, k q.1 r.0 r.1 r.2, append_assoc (printed q.0) (printed_all r.0 ++ 41 ∷ []) r.1, append_assoc (printed_all r.0) (41 ∷ []) r.1))
back_body n h k w nothing y s v e = cc

back_rest : (n : ℕ) → Back n → Backs n → (w : Text) (o : Option Text) → closing w ≡ o → (ts : Shapes) (v : Text) → rest n w o ≡ some (ts, v) → w ≡ printed_all ts ++ 41 ∷ v
back_rest n h k w (some u) c ts v e = of_found (λ (t : Shapes) (x : Text). w ≡ printed_all t ++ 41 ∷ x) nil ts u v e (says_closing w u c)
back_rest n h k w none c ts v e =
    let q = then_some (read_type n w) (λ t u. then (read_rest n u) (λ ts y. some (more t ts, y))) (ts, v) e in
    let r = then_some (read_rest n q.1) (λ ts y. some (more q.0 ts, y)) (ts, v) q.3 in
    of_found (λ (t : Shapes) (x : Text). w ≡ printed_all t ++ 41 ∷ x) (more q.0 r.0) ts r.1 v r.3
    (cc (h w q.0 q.1 q.2, k q.1 r.0 r.1 r.2, append_assoc (printed q.0) (printed_all r.0) (41 ∷ r.1)))

both : (n : ℕ) → Back n × Backs n
unfolding read_type read_rest
both zero = (λ w s v e. cc, λ w ts v e. cc)
both (suc n) = let i = both n in (
  λ w s v e. back_body n i.0 i.1 w (front w) (says w) s v e,
  λ w ts v e. back_rest n i.0 i.1 w (closing w) refl ts v e,
)

pub read_is : (w : Text) (s : Shape) → reading w ≡ some s → w ≡ printed s
unfolding reading
read_is w s e = go (read_type (length w) w) refl e
  where
    go : (o : Found Shape) → read_type (length w) w ≡ o → whole o ≡ some s → w ≡ printed s
    go none f e = cc
    go (some (t, [])) f e = cc ((both (length w)).0 w t [] f, append-nil (printed t))
    go (some (t, b ∷ u)) f e = cc

-- types in a row
abbrev joined : Shape → Option Shapes → Option Shapes
joined t none = none
joined t (some ts) = some (more t ts)

abbrev row : ℕ → Found Shape → Option Shapes
row n none = none
row n (some r) = joined r.0 (read_types n r.1)

tops : (n : ℕ) (w : Text) (ts : Shapes) → read_types n w ≡ some ts → w ≡ printed_all ts
unfolding read_types
tops n [] ts e = cc
tops zero (b ∷ w) ts e = cc
tops (suc n) (b ∷ w) ts e = by (λ u us. tops n u us) (read_type n (b ∷ w)) refl e
  where
    next : ((u : Text) (us : Shapes) → read_types n u ≡ some us → u ≡ printed_all us) → (t : Shape) (u : Text) → read_type n (b ∷ w) ≡ some (t, u) → (o : Option Shapes) → read_types n u ≡ o → joined t o ≡ some ts → b ∷ w ≡ printed_all ts
    next i t u h none g f = cc
    next i t u h (some us) g f = cc ((both n).0 (b ∷ w) t u h, i u us g)

    by : ((u : Text) (us : Shapes) → read_types n u ≡ some us → u ≡ printed_all us) → (o : Found Shape) → read_type n (b ∷ w) ≡ o → row n o ≡ some ts → b ∷ w ≡ printed_all ts
    by i none h f = cc
    by i (some (t, u)) h f = next i t u h (read_types n u) refl f

pub read_all_is : (w : Text) (ts : Shapes) → read_all w ≡ some ts → w ≡ printed_all ts
unfolding read_all
read_all_is w ts e = tops (length w + 1) w ts e

pub exact : ReadingIsExact
exact w = record {
  type = λ t. (read_is w t, λ e. ap reading e ∙ reading_printed t);
  types = λ ts. (read_all_is w ts, λ e. ap read_all e ∙ read_all_printed ts);
}
