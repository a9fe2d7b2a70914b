-- What is printed is read back.
use Rattle.std.proofs.Common.{◌≡◌, ℕ, zero, suc, ◌+◌, ◌≤◌, true, [], ◌∷◌, ◌++◌, length, sym, refl, ap, ◌∙◌, append_assoc, append-nil, arith, length-append}
use mathlib.Core.Bool.{Bool-discrete, Bool-set}
use mathlib.Core.Option.{none, some}
use Rattle.std.proofs.lemmas.Bool.{ne_eqb}
use Rattle.grammar.specs.Shape.{Text, is_basic, Shape, basic, array, maybe, dict, structure, Shapes, nil, more, printed, printed_all}
use Rattle.grammar.specs.Read.{code, arrays, dicts, structures, maybes, front_by, front, closing, read_type, read_rest, whole, reading, read_types, read_all}

pub record Head (t : Shape) : Type 0 where
  pub byte : ℕ
  pub tail : Text
  pub text : printed t ≡ byte ∷ tail
  pub no_bracket : byte ≡ 41 → ⊥
  pub no_brace : byte ≡ 123 → ⊥
  pub no_end : byte ≡ 125 → ⊥

pub head : (t : Shape) → Head t
unfolding is_basic
head (basic c h) = record { byte = c; tail = []; text = refl; no_bracket = λ e. cc; no_brace = λ e. cc; no_end = λ e. cc }
head (array t) = record { byte = 97; tail = printed t; text = refl; no_bracket = omega arith; no_brace = omega arith; no_end = omega arith }
head (dict k v) = record { byte = 97; tail = 123 ∷ (printed k ++ (printed v ++ 125 ∷ [])); text = refl; no_bracket = omega arith; no_brace = omega arith; no_end = omega arith }
head (structure t ts) = record { byte = 40; tail = printed t ++ (printed_all ts ++ 41 ∷ []); text = refl; no_bracket = omega arith; no_brace = omega arith; no_end = omega arith }
head (maybe t) = record { byte = 109; tail = printed t; text = refl; no_bracket = omega arith; no_brace = omega arith; no_end = omega arith }

pub long : (t : Shape) → 1 ≤ length (printed t)
long t = omega (arith, ap length (head t).text)

front_code : (c : ℕ) (h : is_basic c ≡ true) (w : Text) → front (c ∷ w) ≡ code c h w
unfolding front
front_code c h w = by (Bool-discrete (is_basic c) true)
  where
    by : (d : Dec (is_basic c ≡ true)) → front_by c w d ≡ code c h w
    by (yes g) = ap (λ (x : is_basic c ≡ true). code c x w) (Bool-set _ _ g h)
    by (no n) = absurd (n h)

front_array : (t : Shape) (w : Text) → front (97 ∷ (printed t ++ w)) ≡ arrays (printed t ++ w)
unfolding front is_basic
front_array t w = let h = head t in rw (h.text, ne_eqb h.byte 123 h.no_brace)

front_dict : (w : Text) → front (97 ∷ 123 ∷ w) ≡ dicts w
unfolding front is_basic
front_dict w = refl

front_struct : (w : Text) → front (40 ∷ w) ≡ structures w
unfolding front is_basic
front_struct w = refl

front_maybe : (w : Text) → front (109 ∷ w) ≡ maybes w
unfolding front is_basic
front_maybe w = refl

closing_none : (t : Shape) (w : Text) → closing (printed t ++ w) ≡ none
closing_none t w = let h = head t in rw (h.text, ne_eqb h.byte 41 h.no_bracket)

mutual
  unfolding read_type read_rest

  pub reads : (t : Shape) (n : ℕ) (w : Text) → length (printed t) ≤ n → read_type n (printed t ++ w) ≡ some (t, w)
  reads t zero w l = absurd (omega (arith, long t))
  reads (basic c h) (suc n) w l = rw (front_code c h w, read_type)
  reads (array t) (suc n) w l = rw (front_array t w, read_type) (rw (reads t n w (omega arith)))
  reads (maybe t) (suc n) w l = rw (front_maybe (printed t ++ w), read_type) (rw (reads t n w (omega arith)))
  reads (dict k v) (suc n) w l =
      let a = length-append (printed k) (printed v ++ 125 ∷ []) in let b = length-append (printed v) (125 ∷ []) in
      simp append_assoc (rw (front_dict (printed k ++ (printed v ++ 125 ∷ w)), read_type)
      (rw (reads k n (printed v ++ 125 ∷ w) (omega arith)) (rw (reads v n (125 ∷ w) (omega arith)))))
  reads (structure t ts) (suc n) w l =
      let a = length-append (printed t) (printed_all ts ++ 41 ∷ []) in let b = length-append (printed_all ts) (41 ∷ []) in
      simp append_assoc (rw (front_struct (printed t ++ (printed_all ts ++ 41 ∷ w)), read_type)
      (rw (reads t n (printed_all ts ++ 41 ∷ w) (omega arith)) (rw (reads_all ts n w (omega (arith, long t))))))

  pub reads_all : (ts : Shapes) (n : ℕ) (w : Text) → length (printed_all ts) + 1 ≤ n → read_rest n (printed_all ts ++ 41 ∷ w) ≡ some (ts, w)
  reads_all ts zero w l = absurd (omega arith)
  reads_all nil (suc n) w l = refl
  reads_all (more t ts) (suc n) w l =
      let a = length-append (printed t) (printed_all ts) in
      simp append_assoc (rw (closing_none t (printed_all ts ++ 41 ∷ w), read_rest)
      (rw (reads t n (printed_all ts ++ 41 ∷ w) (omega (arith, long t))) (rw (reads_all ts n w (omega (arith, long t))))))

pub reading_printed : (t : Shape) → reading (printed t) ≡ some t
unfolding reading
reading_printed t = ap whole (ap (read_type (length (printed t))) (sym (append-nil (printed t))) ∙ reads t (length (printed t)) [] (omega arith))

pub printed_inj : (s t : Shape) → printed s ≡ printed t → s ≡ t
printed_inj s t e = cc (reading_printed s, reading_printed t)

reads_top : (ts : Shapes) (n : ℕ) → length (printed_all ts) + 1 ≤ n → read_types n (printed_all ts) ≡ some ts
unfolding read_types
reads_top nil n l = refl
reads_top (more t ts) zero l = absurd (omega arith)
reads_top (more t ts) (suc n) l =
    let h = head t in
    let a = length-append (printed t) (printed_all ts) in
    let e : read_type n (h.byte ∷ (h.tail ++ printed_all ts)) ≡ some (t, printed_all ts) = cc (h.text, reads t n (printed_all ts) (omega arith)) in
    rw (h.text, e, read_types) (rw (reads_top ts n (omega (arith, long t))))

pub read_all_printed : (ts : Shapes) → read_all (printed_all ts) ≡ some ts
unfolding read_all
read_all_printed ts = reads_top ts (length (printed_all ts) + 1) (omega arith)

pub reading_empty : reading [] ≡ none
unfolding reading read_type
reading_empty = refl

pub printed_all_inj : (ts us : Shapes) → printed_all ts ≡ printed_all us → ts ≡ us
printed_all_inj ts us e = cc (read_all_printed ts, read_all_printed us)
