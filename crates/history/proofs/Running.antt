-- Calls made one after another, and what they answered.
use Rattle.std.proofs.Common.{◌≡◌, ℕ, ◌+◌, ◌<◌, ◌≤◌, ◌≢◌, List, [], ◌∷◌, ◌++◌, length, get_or, take, inl, inr, Result, refl, ◌∙◌, subst, arith}
use Rattle.std.proofs.lemmas.List.{take_more, get_or-map, get_or_push, get_or_append_left}
use Rattle.std.proofs.lemmas.Bool.{cases_eq}
use Rattle.std.proofs.lemmas.Grind.{common_steps}
use Rattle.grammar.specs.declared.error.Refusal.{Refusal}
use Rattle.grammar.specs.Shape.{Text}
use Rattle.grammar.specs.Refusals.{outcome}
use Rattle.book.specs.Plain.{Answer, Call, Limits, call, run}
use Rattle.sheet.specs.declared.sheet.Sheet.{Sheet}
use Rattle.sheet.specs.Seen.{book_in, limits_in, CalledOn}
use Rattle.sheet.proofs.Texts.{stands}
use Rattle.history.specs.declared.calls.Call.{Call as Coded}
use Rattle.history.specs.Calls.{call_of, calls_of, Recorded}
use Rattle.history.specs.Ran.{Ran}

pub run_long : (limits : Limits) (b : List Text) (cs : List Call) → length (run limits b cs).0 ≡ length cs
run_long limits b [] = refl
run_long limits b (c ∷ cs) = grind (arith, run_long limits (call limits b c).1 cs)

run_more : (limits : Limits) (b : List Text) (cs : List Call) (c : Call)
    → run limits b (cs ++ c ∷ []) ≡ ((run limits b cs).0 ++ (call limits (run limits b cs).1 c).0 ∷ [], (call limits (run limits b cs).1 c).1)
run_more limits b [] c = refl
run_more limits b (d ∷ cs) c = grind (arith, run_more limits (call limits b d).1 cs c)

pub next_call : (calls : List Coded) (i : ℕ) (d : Coded) → i < length calls → take i (calls_of calls) ++ call_of (get_or calls i d) ∷ [] ≡ take (i + 1) (calls_of calls)
next_call calls i d h = grind (arith, common_steps, get_or-map call_of calls i d (call_of d), take_more (calls_of calls) i (call_of d))

pub so_many : (limits : Limits) (b : List Text) (cs : List Call) (i : ℕ) → i ≤ length cs → i ≡ length (run limits b (take i cs)).0
so_many limits b cs i h = grind (arith, common_steps, run_long limits b (take i cs))

-- One answer more: it stands in its place, if there is one, and no other place is changed.
pub told : (said : List Answer) (old new new' : List (Result ℕ Refusal)) (i : ℕ) (r : Result ℕ Refusal) → Recorded said old new → i ≡ length said → length new' ≡ length new
    → ((d : Result ℕ Refusal) → i < length new → get_or new' i d ≡ r) → ((j : ℕ) (d : Result ℕ Refusal) → j ≢ i → get_or new' j d ≡ get_or new j d)
    → Recorded (said ++ outcome r ∷ []) old new'
told said old new new' i r m l long here other = record {
  long = long ∙ m.long;
  answers = λ j d a h k. elim (cases_eq j i) [
    | inl e ↦ grind (arith, here d, m.long, get_or_push said (outcome r) a j)
    | inr n ↦ grind (arith, common_steps, other j d n, m.answers j d a, get_or_append_left said (outcome r ∷ []) a j)
  ];
  rest = λ j d h. grind (arith, common_steps, other j d, m.rest j d);
}

pub start : (s : Sheet) (old : List (Result ℕ Refusal)) → Ran [] s s old old
start s old = record {
  answers = record { long = refl; answers = λ i d a h l. absurd (omega arith); rest = λ i d h. refl };
  book = refl;
  limits = refl;
  types_long = refl;
  fields_long = refl;
  stands = stands s;
}

-- One call more on a sheet that was s at first and is s' now.
pub made : (cs : List Call) (c : Call) (s s' s'' : Sheet) (old new new' : List (Result ℕ Refusal)) (r : Result ℕ Refusal) → Ran cs s s' old new → CalledOn s' s'' (outcome r) c
    → Recorded ((run (limits_in s) (book_in s) cs).0 ++ outcome r ∷ []) old new' → Ran (cs ++ c ∷ []) s s'' old new'
made cs c s s' s'' old new new' r m k a =
    let e = run_more (limits_in s) (book_in s) cs c in
    record {
      answers = subst (λ (z : List Answer). Recorded z old new') (grind (arith, e, m.limits, m.book, k.answer)) a;
      book = grind (arith, e, m.limits, m.book, k.book);
      limits = k.limits ∙ m.limits;
      types_long = k.types_long ∙ m.types_long;
      fields_long = k.fields_long ∙ m.fields_long;
      stands = k.stands;
    }
