-- How the parts of a reading join, over plain lists.
use Rattle.std.proofs.Common.{◌≡◌, ℕ, suc, ◌+◌, ◌-◌, ◌<◌, ◌≤◌, Bool, true, false, List, [], ◌∷◌, ◌++◌, length, get_or, drop, Ok, Err, Result, sym, refl, ap, ◌∙◌, subst, arith, drop_of_length-le, drop-cons}
use Rattle.grammar.specs.declared.error.Cause.{Cause}
use Rattle.grammar.specs.declared.error.Cause.TheVariants.{Ended, TooDeep, Unexpected}
use Rattle.grammar.specs.declared.error.Fault.{Fault}
use Rattle.grammar.specs.Shape.{Text, is_basic}
use Rattle.grammar.specs.Scan.{Frame, one, others, element, close, types, stop, good, bad, begin, step, run}
use Rattle.reader.specs.Parsing.{Passed, Failed, Opened, Parsed, CountedOr}
use Rattle.reader.specs.Bytes.{Ate, Stayed, Eaten}
use Rattle.grammar.specs.Valid.{FaultOf}
use Rattle.grammar.proofs.ScanSteps.{run_next, run_stop, run_same, run_good, run_one, run_others, run_element, begin_basic, begin_maybe, begin_array, begin_structure, begin_array_deep, begin_structure_deep, begin_unexpected, step_one, step_types, step_others, step_others_end, step_element, step_element_pair, step_close, step_close_not}

-- what `take` says where there is a byte
abbrev pub Byte : Text → ℕ → ℕ → ℕ → Type 0
Byte text at b to = (at < length text) × (to ≡ at + 1) × (drop at text ≡ b ∷ drop (at + 1) text)

pub passed_in : {u text : Text} {at to : ℕ} {fs : List Frame} → u ≡ text → Passed u at fs to → Passed text at fs to
passed_in {u} {text} {at} {to} {fs} e p = subst (λ (x : Text). Passed x at fs to) e p

pub failed_in : {u text : Text} {at : ℕ} {fs : List Frame} {f : Fault} → u ≡ text → Failed u at fs f → Failed text at fs f
failed_in {u} {text} {at} {fs} {f} e p = subst (λ (x : Text). Failed x at fs f) e p

pub ended : (text : Text) (at to : ℕ) (fs : List Frame) → ((k : List Frame) → run (fs ++ k) [] ≡ bad Ended []) → at ≡ length text → to ≡ at → Failed text at fs (record { cause = Ended; place = to })
ended text at to fs g e q =
    let n : drop at text ≡ [] = drop_of_length-le text (omega arith) in
    record { within = omega arith; breaks = λ k. rw (q, n) (g k) }

stopped : (text : Text) (at b to : ℕ) (f : Frame) (c : Cause) → Byte text at b to → ((k : List Frame) → step (f ∷ k) b ≡ stop c) → Failed text at (f ∷ []) (record { cause = c; place = to - 1 })
stopped text at b to f c h g =
    let p : to - 1 ≡ at = omega arith in
    record { within = omega arith; breaks = λ k. rw (p, h.2) (run_stop (f ∷ k) b c (drop (at + 1) text) (g k)) }

pub end_passed : (text : Text) (at b to : ℕ) → Byte text at b to → b ≡ 125 → Passed text at (close ∷ []) to
end_passed text at b to h e =
    record { forward = omega arith; within = omega arith; reads = λ k. rw (h.1, h.2, e) (run_next (close ∷ k) 125 k (drop (at + 1) text) (step_close k)) }

pub end_unexpected : (text : Text) (at b to : ℕ) → Byte text at b to → (b ≡ 125 → ⊥) → Failed text at (close ∷ []) (record { cause = Unexpected; place = to - 1 })
end_unexpected text at b to h e = stopped text at b to close Unexpected h (λ k. step_close_not b k e)

-- what was to come, and what is still to come
pub record Entered (text : Text) (from : ℕ) (fs : List Frame) (to : ℕ) (gs : List Frame) : Type 0 where
  pub forward : from ≤ to
  pub reads : (k : List Frame) → run (fs ++ k) (drop from text) ≡ run (gs ++ k) (drop to text)

pub entered_in : {u text : Text} {at to : ℕ} {fs gs : List Frame} → u ≡ text → Entered u at fs to gs → Entered text at fs to gs
entered_in {u} {text} {at} {to} {fs} {gs} e p = subst (λ (x : Text). Entered x at fs to gs) e p

pub here : (text : Text) (at : ℕ) (fs : List Frame) → Entered text at fs at fs
here text at fs = record { forward = omega arith; reads = λ k. refl }

pub join : {text : Text} {a b c : ℕ} {fs gs hs : List Frame} → Entered text a fs b gs → Entered text b gs c hs → Entered text a fs c hs
join x y = record { forward = omega arith; reads = λ k. x.reads k ∙ y.reads k }

pub then_passed : {text : Text} {from at to : ℕ} {fs gs : List Frame} {g : Frame} → Entered text from fs at (g ∷ gs) → Passed text at (g ∷ []) to → Entered text from fs to gs
then_passed {gs = gs} x p = record { forward = omega arith; reads = λ k. x.reads k ∙ p.reads (gs ++ k) }

pub then_last : {text : Text} {from at to : ℕ} {fs gs : List Frame} → Entered text from fs at gs → Passed text at gs to → Passed text from fs to
then_last x p = record { forward = omega arith; within = p.within; reads = λ k. x.reads k ∙ p.reads k }

pub then_failed : {text : Text} {from at : ℕ} {fs gs : List Frame} {g : Frame} {f : Fault} → Entered text from fs at (g ∷ gs) → Failed text at (g ∷ []) f → Failed text from fs f
then_failed {gs = gs} x p = record { within = p.within; breaks = λ k. x.reads k ∙ p.breaks (gs ++ k) }

pub then_failed_all : {text : Text} {from at : ℕ} {fs gs : List Frame} {f : Fault} → Entered text from fs at gs → Failed text at gs f → Failed text from fs f
then_failed_all x p = record { within = p.within; breaks = λ k. x.reads k ∙ p.breaks k }

-- a structure goes on with a type where no bracket comes
pub others_one : (text : Text) (at s a to : ℕ) → Stayed text at 41 to → Entered text at (others s a ∷ []) at (one s a ∷ others s a ∷ [])
others_one text at s a to h = record { forward = omega arith; reads = λ k. by k (drop at text) refl }
  where
    by : (k : List Frame) (w : Text) → drop at text ≡ w → run (others s a ∷ k) w ≡ run (one s a ∷ others s a ∷ k) w
    by k [] e = run_others s a k ∙ sym (run_one s a (others s a ∷ k))
    by k (b ∷ w) e = run_same (others s a ∷ k) (one s a ∷ others s a ∷ k) b w (step_others s a b k (λ q. h.other w (rw q at e)) ∙ sym (step_one s a b (others s a ∷ k)))

pub others_end : (text : Text) (at s a to : ℕ) → Ate text at 41 to → Passed text at (others s a ∷ []) to
others_end text at s a to h = record { forward = omega arith; within = omega arith; reads = λ k. rw h.here (run_next (others s a ∷ k) 41 k (drop to text) (step_others_end s a k)) }

-- the ways of a type's first byte
module _ (text : Text) (from b at s a : ℕ) (o : Opened text from b at) where
  pub type_basic : is_basic b ≡ true → Passed text from (one s a ∷ []) at
  type_basic h = record { forward = o.forward; within = o.within; reads = λ k. o.reads s a k ∙ run_next (one s a ∷ k) b k (drop at text) (step_one s a b k ∙ begin_basic s a b k h) }

  type_stop : (c : Cause) → ((k : List Frame) → begin s a b k ≡ stop c) → Failed text from (one s a ∷ []) (record { cause = c; place = at - 1 })
  type_stop c h = let p = o.forward in let q = o.within in
      record { within = omega arith; breaks = λ k. o.reads s a k ∙ rw o.here (run_stop (one s a ∷ k) b c (drop at text) (step_one s a b k ∙ h k)) }

  pub type_array_deep : b ≡ 97 → a ≡ 0 → Failed text from (one s a ∷ []) (record { cause = TooDeep; place = at - 1 })
  type_array_deep e h = type_stop TooDeep (λ k. rw e (begin_array_deep s a k h))

  pub type_structure_deep : b ≡ 40 → s ≡ 0 → Failed text from (one s a ∷ []) (record { cause = TooDeep; place = at - 1 })
  type_structure_deep e h = type_stop TooDeep (λ k. rw e (begin_structure_deep s a k h))

  pub type_unexpected : is_basic b ≡ false → (b ≡ 97 → ⊥) → (b ≡ 40 → ⊥) → Failed text from (one s a ∷ []) (record { cause = Unexpected; place = at - 1 })
  type_unexpected h x y = type_stop Unexpected (λ k. begin_unexpected s a b k h o.not_maybe x y)

  pub type_structure : b ≡ 40 → 0 < s → Entered text from (one s a ∷ []) at (one (s - 1) a ∷ others (s - 1) a ∷ [])
  type_structure e h = let p = o.forward in
      record { forward = omega arith; reads = λ k. o.reads s a k ∙ rw e (run_next (one s a ∷ k) 40 (one (s - 1) a ∷ others (s - 1) a ∷ k) (drop at text) (step_one s a 40 k ∙ begin_structure s a k h)) }

  type_array : b ≡ 97 → 0 < a → Entered text from (one s a ∷ []) at (element s (a - 1) ∷ [])
  type_array e h = let p = o.forward in
      record { forward = omega arith; reads = λ k. o.reads s a k ∙ rw e (run_next (one s a ∷ k) 97 (element s (a - 1) ∷ k) (drop at text) (step_one s a 97 k ∙ begin_array s a k h)) }

  pub type_pair : b ≡ 97 → 0 < a → (to : ℕ) → Ate text at 123 to → Entered text from (one s a ∷ []) to (one s (a - 1) ∷ one s (a - 1) ∷ close ∷ [])
  type_pair e h to t = join (type_array e h) (record { forward = omega arith; reads = λ k. rw t.here (run_next (element s (a - 1) ∷ k) 123 (one s (a - 1) ∷ one s (a - 1) ∷ close ∷ k) (drop to text) (step_element_pair s (a - 1) k)) })

  pub type_element : b ≡ 97 → 0 < a → (to : ℕ) → Stayed text at 123 to → Entered text from (one s a ∷ []) at (one s (a - 1) ∷ [])
  type_element e h to n = join (type_array e h) (record { forward = omega arith; reads = λ k. by k (drop at text) refl })
    where
      by : (k : List Frame) (w : Text) → drop at text ≡ w → run (element s (a - 1) ∷ k) w ≡ run (one s (a - 1) ∷ k) w
      by k [] q = run_element s (a - 1) k ∙ sym (run_one s (a - 1) k)
      by k (d ∷ w) q = run_same (element s (a - 1) ∷ k) (one s (a - 1) ∷ k) d w (step_element s (a - 1) d k (λ z. n.other w (rw z at q)) ∙ sym (step_one s (a - 1) d k))

-- behind an 'm'
pub behind_maybe : (text : Text) (at b to : ℕ) → Byte text at b to → b ≡ 109 → (s a : ℕ) (k : List Frame) → run (one s a ∷ k) (drop at text) ≡ run (one s a ∷ k) (drop to text)
behind_maybe text at b to h e s a k = rw (h.1, h.2, e) (run_next (one s a ∷ k) 109 (one s a ∷ k) (drop (at + 1) text) (step_one s a 109 k ∙ begin_maybe s a k))

pub parsed_in : {X : Type 0} (u text : Text) (at to : ℕ) (fs : List Frame) (r : Result X Fault) → u ≡ text → Parsed u at fs r to → Parsed text at fs r to
parsed_in u text at to fs r e p = subst (λ (x : Text). Parsed x at fs r to) e p

pub then_parsed : {X : Type 0} (text : Text) (from at to : ℕ) (fs gs : List Frame) (r : Result X Fault) → Entered text from fs at gs → Parsed text at gs r to → Parsed text from fs r to
then_parsed text from at to fs gs (Ok x) e p = then_last e p
then_parsed text from at to fs gs (Err f) e p = then_failed_all e p

pub ate_in : {u text : Text} {at b to : ℕ} → u ≡ text → Ate u at b to → Ate text at b to
ate_in {u} {text} {at} {b} {to} e p = subst (λ (x : Text). Ate x at b to) e p

pub stayed_in : {u text : Text} {at b to : ℕ} → u ≡ text → Stayed u at b to → Stayed text at b to
stayed_in {u} {text} {at} {b} {to} e p = subst (λ (x : Text). Stayed x at b to) e p

pub eaten_in : {u text : Text} (at b to : ℕ) (r : Bool) → u ≡ text → Eaten u at b r to → Eaten text at b r to
eaten_in at b to r e p = subst (λ (x : Text). Eaten x at b r to) e p

pub byte_in : {u text : Text} (at b to : ℕ) → u ≡ text → Byte u at b to → Byte text at b to
byte_in at b to e p = subst (λ (x : Text). Byte x at b to) e p

-- what stands at a place is read as what stands at a later one
abbrev pub Behind : Text → ℕ → ℕ → Type 0
Behind text from at = (s a : ℕ) (k : List Frame) → run (one s a ∷ k) (drop from text) ≡ run (one s a ∷ k) (drop at text)

pub opened : (text : Text) (from at b to : ℕ) → from ≤ at → Behind text from at → Byte text at b to → (b ≡ 109 → ⊥) → Opened text from b to
opened text from at b to le h y n =
    let p : to - 1 ≡ at = omega arith in
    record { forward = omega arith; within = omega arith; not_maybe = n; here = rw (p, y.1) y.2; reads = λ s a k. h s a k ∙ rw (y.1, y.2) refl }

pub opened_at : {u text : Text} {from at b to : ℕ} → (u ≡ text) × (from ≤ at) × Behind text from at → Byte u at b to → (b ≡ 109 → ⊥) → Opened text from b to
opened_at {text = text} {from = from} {at = at} {b = b} {to = to} i y n = opened text from at b to i.1 i.2 (byte_in at b to i.0 y) n

pub passed_at : {u text : Text} {i at to : ℕ} {fs : List Frame} → u ≡ text → i ≡ at → Passed u i fs to → Passed text at fs to
passed_at {u} {text} {i} {at} {to} {fs} e q p = subst (λ (n : ℕ). Passed text n fs to) q (subst (λ (x : Text). Passed x i fs to) e p)

pub failed_at : {u text : Text} {i at : ℕ} {fs : List Frame} {f : Fault} → u ≡ text → i ≡ at → Failed u i fs f → Failed text at fs f
failed_at {u} {text} {i} {at} {fs} {f} e q p = subst (λ (n : ℕ). Failed text n fs f) q (subst (λ (x : Text). Failed x i fs f) e p)

pub parsed_at : {X : Type 0} (u text : Text) (i at to : ℕ) (fs : List Frame) (r : Result X Fault) → u ≡ text → i ≡ at → Parsed u i fs r to → Parsed text at fs r to
parsed_at u text i at to fs r e q p = subst (λ (n : ℕ). Parsed text n fs r to) q (subst (λ (x : Text). Parsed x i fs r to) e p)

-- what a `?` returns
pub broken : {X : Type 0} (text : Text) (from to : ℕ) (fs : List Frame) (r : Result X Fault) (y f : Fault) → r ≡ Err y → y ≡ f → Failed text from fs f → Parsed text from fs r to
broken text from to fs r y f e q p = subst (λ x. Parsed text from fs x to) (sym (e ∙ ap Err q)) p

-- at the top a type comes wherever the text goes on
top_one : (text : Text) (at s a : ℕ) → at < length text → run (types s a ∷ []) (drop at text) ≡ run (one s a ∷ types s a ∷ []) (drop at text)
top_one text at s a h = rw (drop-cons text at 0 h) (run_same (types s a ∷ []) (one s a ∷ types s a ∷ []) (get_or text at 0) (drop (suc at) text) (step_types s a (get_or text at 0) [] ∙ sym (step_one s a (get_or text at 0) (types s a ∷ []))))

pub top_passed : (text : Text) (at to s a : ℕ) → at < length text → Passed text at (one s a ∷ []) to → run (types s a ∷ []) (drop at text) ≡ run (types s a ∷ []) (drop to text)
top_passed text at to s a h p = top_one text at s a h ∙ p.reads (types s a ∷ [])

pub top_failed : (text : Text) (at s a : ℕ) (f : Fault) → at < length text → Failed text at (one s a ∷ []) f → run (types s a ∷ []) (drop at text) ≡ bad f.cause (drop f.place text)
top_failed text at s a f h p = top_one text at s a h ∙ p.breaks (types s a ∷ [])

pub top_ended : (text : Text) (at s a : ℕ) → length text ≤ at → run (types s a ∷ []) (drop at text) ≡ good
top_ended text at s a h = rw (drop_of_length-le text h) (run_good s a [])

pub answered : (text : Text) (r : Result ℕ Fault) (y f : Fault) → r ≡ Err y → y ≡ f → FaultOf text f → CountedOr text r
answered text r y f e q p = subst (λ x. CountedOr text x) (sym (e ∙ ap Err q)) p
