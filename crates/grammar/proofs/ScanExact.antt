-- The verdict of a run is what the grammar says of the text.
use Rattle.std.proofs.Common.{◌≡◌, ℕ, suc, ◌+◌, ◌-◌, ◌<◌, ◌≤◌, ◌⊎◌, List, [], ◌∷◌, ◌++◌, length, get_or, take, drop, sym, refl, ap, ◌∙◌, subst, ap₂, inl, inr, append_assoc, append-nil, arith, length-append, length-drop, drop-cons, take_at, take-add, drop_at}
use mathlib.Core.Option.{Option, none, some}
use Rattle.std.proofs.lemmas.Bool.{cases_eq}
use Rattle.grammar.specs.declared.error.Cause.{Cause}
use Rattle.grammar.specs.declared.error.Cause.TheVariants.{Ended, TooDeep, Unexpected}
use Rattle.grammar.specs.Shape.{Text, is_basic, Shape, basic}
use Rattle.grammar.specs.declared.error.Fault.{Fault}
use Rattle.grammar.specs.Valid.{Valid, Start, Place, Because, FaultOf, StartAtAnyDepth}
use Rattle.grammar.specs.Scan.{Frame, one, others, element, close, types, Step, go, stop, Verdict, good, bad, begin, step, final, run, top, fault_by, fault}
use Rattle.grammar.specs.Laws.{OneFault, ScanIsExact, ExactlyOneFault}
use Rattle.grammar.proofs.ScanSteps.{run_next, run_stop, step_others, step_element, step_close_not, begins, is_code, is_maybe, is_array, is_structure, is_deep, is_other}
use Rattle.grammar.proofs.ScanComplete.{complete_top}
use Rattle.grammar.proofs.ReadBack.{head}
use Rattle.grammar.proofs.ScanSound.{sound}
use Rattle.grammar.proofs.ScanRaise.{raise, raise_step, raise_deep}

pub valid_good : (w : Text) → Valid w → run (top) w ≡ good
valid_good w v = rw v.text (complete_top v.shapes 32 32 v.few_structures v.few_arrays)

pub good_valid : (w : Text) → run (top) w ≡ good → Valid w
good_valid w e = let r = sound w (top) e in
    record { shapes = r.shapes; few_structures = r.few_structures; few_arrays = r.few_arrays; text = r.text ∙ rw r.then (append-nil _) }

-- each stack has a text
pub finish : (k : List Frame) → (x : Text) × (run k x ≡ good)
unfolding run final step begin is_basic
finish [] = ([], refl)
finish (types s a ∷ k) = ([], refl)
finish (one s a ∷ k) = let x = finish k in (121 ∷ x.0, x.1)
finish (others s a ∷ k) = let x = finish k in (41 ∷ x.0, x.1)
finish (element s a ∷ k) = let x = finish k in (121 ∷ x.0, x.1)
finish (close ∷ k) = let x = finish k in (125 ∷ x.0, x.1)

abbrev Fails : List Frame → Cause → Text → Type 0
Fails k c [] = c ≡ Ended
Fails k c (b ∷ w) = step k b ≡ stop c

-- where a run breaks off
pub record Stuck (k : List Frame) (w : Text) (c : Cause) (r : Text) : Type 0 where
  pub before : Text
  pub stack : List Frame
  pub text : w ≡ before ++ r
  pub reach : (x : Text) → run k (before ++ x) ≡ run stack x
  pub raised : (x : Text) → run (raise k) (before ++ x) ≡ run (raise stack) x
  pub fails : Fails stack c r

moved : (k : List Frame) (w : Text) (c d : Cause) (r s : Text) → bad c r ≡ bad d s → Stuck k w c r → Stuck k w d s
moved k w c d r s e x = let p : c ≡ d = cc in let q : r ≡ s = cc in subst (λ (y : Text). Stuck k w d y) q (subst (λ (y : Cause). Stuck k w y r) p x)

ends : (k : List Frame) (c : Cause) (r : Text) → bad Ended [] ≡ bad c r → Stuck k [] c r
ends k c r e = moved k [] Ended c [] r e (record { before = []; stack = k; text = refl; reach = λ x. refl; raised = λ x. refl; fails = refl })

pub stuck : (w : Text) (k : List Frame) (c : Cause) (r : Text) → run k w ≡ bad c r → Stuck k w c r
unfolding run final
stuck [] [] c r e = cc
stuck [] (types s a ∷ k) c r e = cc
stuck [] (one s a ∷ k) c r e = ends (one s a ∷ k) c r e
stuck [] (others s a ∷ k) c r e = ends (others s a ∷ k) c r e
stuck [] (element s a ∷ k) c r e = ends (element s a ∷ k) c r e
stuck [] (close ∷ k) c r e = ends (close ∷ k) c r e
stuck (b ∷ w) k c r e = by (stuck w) (step k b) refl
  where
    by : ((l : List Frame) (d : Cause) (s : Text) → run l w ≡ bad d s → Stuck l w d s) → (x : Step) → step k b ≡ x → Stuck k (b ∷ w) c r
    by ih (go l) h = let t = ih l c r (sym (run_next k b l w h) ∙ e) in
        record { before = b ∷ t.before; stack = t.stack; text = ap (λ (x : Text). b ∷ x) t.text; reach = λ x. run_next k b l (t.before ++ x) h ∙ t.reach x; raised = λ x. run_next (raise k) b (raise l) (t.before ++ x) (raise_step k b l h) ∙ t.raised x; fails = t.fails }
    by ih (stop d) h =
        moved k (b ∷ w) d c (b ∷ w) r (sym (run_stop k b d w h) ∙ e) (record { before = []; stack = k; text = refl; reach = λ x. refl; raised = λ x. refl; fails = h })

-- what a stop says of the byte
abbrev Stops : ℕ → Cause → Type 0
Stops b Ended = ⊥
Stops b TooDeep = (b ≡ 97) ⊎ (b ≡ 40)
Stops b Unexpected = (b ≡ 97) ⊎ (b ≡ 40) → ⊥

stops : (s a b : ℕ) (k : List Frame) (c : Cause) → begin s a b k ≡ stop c → Stops b c
stops s a b k c e = elim (begins s a b k) [
  | is_code h g ↦ cc
  | is_maybe q g ↦ cc
  | is_array q h g ↦ cc
  | is_structure q h g ↦ cc
  | is_deep q g ↦ let z : TooDeep ≡ c = cc in subst (Stops b) z q
  | is_other p q g ↦ let z : Unexpected ≡ c = cc in subst (Stops b) z (λ o. elim o [ inl x ↦ p x | inr x ↦ q x ])
]

-- a stack's first byte: a type's, where one may begin, or another
data Top (k : List Frame) (b : ℕ) : Type 0 where
  opening : (s a : ℕ) (l : List Frame) → step k b ≡ begin s a b l → step k 121 ≡ go l → Top k b
  goes : (l : List Frame) → step k b ≡ go l → Top k b
  closes : step k b ≡ stop Unexpected → ((x : ℕ) → (x ≡ 125 → ⊥) → step k x ≡ stop Unexpected) → Top k b

first : (k : List Frame) (b : ℕ) → Top k b
unfolding step begin is_basic
first [] b = closes refl (λ x h. refl)
first (types s a ∷ k) b = opening s a (types s a ∷ k) refl refl
first (one s a ∷ k) b = opening s a k refl refl
first (others s a ∷ k) b = elim (cases_eq b 41) [ inl q ↦ goes k (rw q) | inr q ↦ opening s a (others s a ∷ k) (step_others s a b k q) refl ]
first (element s a ∷ k) b = elim (cases_eq b 123) [ inl q ↦ goes (one s a ∷ one s a ∷ close ∷ k) (rw q) | inr q ↦ opening s a k (step_element s a b k q) refl ]
first (close ∷ k) b = elim (cases_eq b 125) [ inl q ↦ goes k (rw q) | inr q ↦ closes (step_close_not b k q) (λ x h. step_close_not x k h) ]

never_ended : (k : List Frame) (b : ℕ) → step k b ≡ stop Ended → ⊥
never_ended k b e = elim (first k b) [ opening s a l h g ↦ stops s a b l Ended (sym h ∙ e) | goes l h ↦ cc | closes h g ↦ cc ]

deep_opens : (k : List Frame) (b : ℕ) → step k b ≡ stop TooDeep → ((b ≡ 97) ⊎ (b ≡ 40)) × ((l : List Frame) × (step k 121 ≡ go l))
deep_opens k b e = elim (first k b) [ opening s a l h g ↦ (stops s a b l TooDeep (sym h ∙ e), (l, g)) | goes l h ↦ cc | closes h g ↦ cc ]

unexpected_all : (k : List Frame) (b : ℕ) → step k b ≡ stop Unexpected → (b ≡ 97) ⊎ (b ≡ 40) → (x : ℕ) → (x ≡ 125 → ⊥) → step k x ≡ stop Unexpected
unexpected_all k b e o x n = elim (first k b) [ opening s a l h g ↦ absurd (stops s a b l Unexpected (sym h ∙ e) o) | goes l h ↦ cc | closes h g ↦ g x n ]

-- a text that goes on from where a run broke off, by a byte at which it stops, is not valid
dead : (before y : Text) (k : List Frame) (b : ℕ) (c : Cause) → ((x : Text) → run (top) (before ++ x) ≡ run k x) → step k b ≡ stop c → Valid (before ++ (b ∷ y)) → ⊥
dead before y k b c reach h v = cc (run_stop k b c y h, reach (b ∷ y), valid_good (before ++ (b ∷ y)) v)

begun : (before : Text) (k l : List Frame) → ((x : Text) → run (top) (before ++ x) ≡ run k x) → step k 121 ≡ go l → Start (before ++ 121 ∷ [])
begun before k l reach h = let x = finish l in
    record { rest = x.0; valid = good_valid ((before ++ 121 ∷ []) ++ x.0) (rw append_assoc (reach (121 ∷ x.0) ∙ run_next k 121 l x.0 h ∙ x.1)) }

y : Shape
unfolding is_basic
y = basic 121 refl

module _ (w : Text) (n : ℕ) (within : n ≤ length w) (before : Text) (k : List Frame)
    (is-take : take n w ≡ before) (reach : (x : Text) → run (top) (before ++ x) ≡ run k x)
    (raised : (x : Text) → run (types 33 33 ∷ []) (before ++ x) ≡ run (raise k) x) where
  short : (b : ℕ) (r : Text) → drop n w ≡ b ∷ r → n < length w
  short b r e = omega (arith, ap length e, length-drop n w)

  byte : (b : ℕ) (r : Text) → drop n w ≡ b ∷ r → get_or w n 0 ≡ b
  byte b r e = cc (drop-cons w n 0 (short b r e))

  starts : Start (take n w)
  starts = let x = finish k in
      record { rest = x.0; valid = good_valid (take n w ++ x.0) (rw is-take (reach x.0 ∙ x.1)) }

  longest : (c : Cause) (r : Text) → drop n w ≡ r → Fails k c r → (j : ℕ) → n < j → j ≤ length w → Start (take j w) → ⊥
  longest c [] e f j lt le s = omega (arith, ap length e, length-drop n w)
  longest c (b ∷ r) e f j lt le s =
      let m : ℕ = j - n - 1 in
      let j-is : j ≡ n + suc m = omega arith in
      let cut : take j w ≡ before ++ (b ∷ take m r) = ap (λ (i : ℕ). take i w) j-is ∙ take-add n (suc m) w ∙ rw (is-take, e) refl in
      dead before (take m r ++ s.rest) k b c reach f (rw (cut, append_assoc) at s.valid)

  loose : (b : ℕ) (r : Text) → drop n w ≡ b ∷ r → (b ≡ 97) ⊎ (b ≡ 40) → step k b ≡ stop TooDeep → StartAtAnyDepth (take (n + 1) w)
  loose b r e o f =
      let d = raise_deep k b o f in
      let x = finish d.0 in
      let q = sound (before ++ (b ∷ x.0)) (types 33 33 ∷ []) (raised (b ∷ x.0) ∙ run_next (raise k) b d.0 x.0 d.1 ∙ x.1) in
      let cut : take (n + 1) w ≡ before ++ (b ∷ []) = take-add n 1 w ∙ rw (is-take, e) refl in
      record { shapes = q.shapes; rest = x.0; text = ap (λ (z : Text). z ++ x.0) cut ∙ append_assoc before (b ∷ []) x.0 ∙ q.text ∙ rw q.then (append-nil _) }

  because : (c : Cause) (r : Text) → drop n w ≡ r → Fails k c r → Because w n c
  unfolding y
  because Ended [] e f = omega (arith, ap length e, length-drop n w)
  because TooDeep [] e f = cc
  because Unexpected [] e f = cc
  because Ended (b ∷ r) e f = absurd (never_ended k b f)
  because TooDeep (b ∷ r) e f = let o = deep_opens k b f in
      (short b r e, record { opens = rw (byte b r e) o.0; shape = y; begins = rw is-take (begun before k o.1.0 reach o.1.1); alone = loose b r e o.0 f })
  because Unexpected (b ∷ r) e f = (
    short b r e,
    λ d. let x = head d.shape in
        dead before (x.tail ++ d.begins.rest) k x.byte Unexpected reach
        (unexpected_all k b f (rw (byte b r e) at d.opens) x.byte x.no_end)
        (rw (is-take, x.text, append_assoc) at d.begins.valid),
  )

-- where a run breaks off at what follows the first n bytes, that is the text's fault
pub is_fault : (w : Text) (c : Cause) (n : ℕ) → n ≤ length w → run top w ≡ bad c (drop n w) → FaultOf w (record { cause = c; place = n })
is_fault w c n within e =
    let s = stuck w top c (drop n w) e in
    let long : length s.before ≡ n = omega (arith, ap length s.text, length-append s.before (drop n w), length-drop n w) in
    let is-take : take n w ≡ s.before = ap (λ (x : Text). take n x) s.text ∙ take_at s.before (drop n w) n long in
    record {
      invalid = λ v. cc (valid_good w v);
      place = record { within = within; start = starts w n within s.before s.stack is-take s.reach s.raised; longest = longest w n within s.before s.stack is-take s.reach s.raised c (drop n w) refl s.fails };
      because = because w n within s.before s.stack is-take s.reach s.raised c (drop n w) refl s.fails;
    }

-- a text has one fault at most
one_place : (w : Text) (j k : ℕ) → Place w j → Place w k → j ≡ k
one_place w j k p q = grind (arith, p.longest k, q.longest j, p.start, q.start)

one_cause : (w : Text) (k : ℕ) (c d : Cause) → Because w k c → Because w k d → c ≡ d
one_cause w k Ended Ended p q = refl
one_cause w k TooDeep TooDeep p q = refl
one_cause w k Unexpected Unexpected p q = refl
one_cause w k TooDeep Unexpected p q = absurd (q.1 p.1)
one_cause w k Unexpected TooDeep p q = absurd (p.1 q.1)
one_cause w k c d p q = absurd (omega arith)

pub same_fault : (w : Text) (f g : Fault) → FaultOf w f → FaultOf w g → f ≡ g
same_fault w f g p q =
    let at : f.place ≡ g.place = one_place w f.place g.place p.place q.place in
    let why : f.cause ≡ g.cause = one_cause w g.place f.cause g.cause (subst (λ (n : ℕ). Because w n f.cause) at p.because) q.because in
    ap₂ (λ (c : Cause) (n : ℕ). record { cause = c; place = n }) why at

-- what is left where a run breaks off is an end of the text
left_is : (w r : Text) (c : Cause) → run top w ≡ bad c r → r ≡ drop (length w - length r) w
left_is w r c e =
    let s = stuck w top c r e in
    let long : length w - length r ≡ length s.before = omega (arith, ap length s.text, length-append s.before r) in
    sym (ap (λ (n : ℕ). drop n w) long ∙ ap (λ (x : Text). drop (length s.before) x) s.text ∙ drop_at s.before r (length s.before) refl)

pub scans : (w : Text) (f : Fault) → fault w ≡ some f → FaultOf w f
unfolding fault
scans w f e = by (run top w) refl e
  where
    by : (v : Verdict) → run top w ≡ v → fault_by w v ≡ some f → FaultOf w f
    by good h g = cc
    by (bad c r) h g =
        let same : record { cause = c; place = length w - length r } ≡ f = cc in
        subst (λ (x : Fault). FaultOf w x) same (is_fault w c (length w - length r) (omega arith) (h ∙ ap (λ (x : Text). bad c x) (left_is w r c h)))

pub scans_valid : (w : Text) → fault w ≡ none → Valid w
unfolding fault
scans_valid w e = by (run top w) refl e
  where
    by : (v : Verdict) → run top w ≡ v → fault_by w v ≡ none → Valid w
    by good h g = good_valid w h
    by (bad c r) h g = cc

pub valid_scans : (w : Text) → Valid w → fault w ≡ none
unfolding fault
valid_scans w v = ap (fault_by w) (valid_good w v)

pub fault_scans : (w : Text) (f : Fault) → FaultOf w f → fault w ≡ some f
fault_scans w f p = by (fault w) refl
  where
    by : (o : Option Fault) → fault w ≡ o → fault w ≡ some f
    by none h = absurd (p.invalid (scans_valid w h))
    by (some g) h = h ∙ ap some (same_fault w g f (scans w g h) p)

pub exact : ScanIsExact
exact w = record { valid = (scans_valid w, valid_scans w); faulty = λ f. (scans w f, fault_scans w f) }

pub one_fault : ExactlyOneFault
one_fault w = record { one = λ n. by n (fault w) refl; no_fault = λ v f p. p.invalid v }
  where
    by : (Valid w → ⊥) → (o : Option Fault) → fault w ≡ o → OneFault w
    by n none h = absurd (n (scans_valid w h))
    by n (some f) h = record { fault = f; is = scans w f h; only = λ g p. same_fault w g f p (scans w f h) }
