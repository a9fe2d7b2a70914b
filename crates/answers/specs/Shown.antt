-- Answers as they are written.
use Rattle.std.specs.Prelude.{ℕ, List, ◌∷◌, ◌++◌, codes, Option, Some, None, Result, Ok, Err}
use Rattle.grammar.specs.declared.error.Refusal.{Refusal}
use Rattle.grammar.specs.Refusals.{shown_of}

-- a value as it is shown by itself; for a refusal `no`, a space (32) and the refusal
abbrev pub answer_shown : {A : Type 0} → (A → Option (List ℕ)) → Result A Refusal → Option (List ℕ)
answer_shown shown (Ok x) = shown x
answer_shown shown (Err e) = Some (codes "no" ++ 32 ∷ shown_of e)

-- a value as it is shown by itself, or `none`
abbrev pub found_shown : {A : Type 0} → (A → Option (List ℕ)) → Option A → Option (List ℕ)
found_shown shown (Some x) = shown x
found_shown shown None = Some (codes "none")
