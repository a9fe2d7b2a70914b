-- What the plain book holds after any calls, said without the steps that led there.
use Rattle.std.specs.Prelude.{◌≡◌, ℕ, ◌<◌, ◌≤◌, ◌↔◌, List, [], ◌++◌, map, length}
use Rattle.std.proofs.Math.Option.{none}
use Rattle.grammar.specs.Lists.{In, Distinct}
use Rattle.grammar.specs.Shape.{Text, Shape, printed}
use Rattle.grammar.specs.Parts.{fields, Container, Within}
use Rattle.grammar.specs.Read.{reading}
use Rattle.grammar.specs.Refusals.{accepted, refused}
use Rattle.book.specs.Plain.{Answer, Call, Limits, longest_form, known, text_of, number_of, whole_text, containers_of, early, call, run, tails_of}

-- The shape is that of an accepted result, or of a part of one.
pub record Result (answers : List Answer) (b : List Text) (part : Shape) : Type 0 where
  pub number : ℕ
  pub given : In (accepted number) answers
  pub whole : Shape
  pub text : text_of b number ≡ printed whole
  pub within : Within part whole

-- w is the text of a container among the accepted results and their parts.
pub record ContainerText (answers : List Answer) (b : List Text) (w : Text) : Type 0 where
  pub shape : Shape
  pub result : Result answers b shape
  pub container : Container shape
  pub text : w ≡ printed shape

-- t is the list of fields, as texts, of a structure among the accepted results and their parts, without its first none,
-- one or more fields, and is not empty.
pub record Tail (answers : List Answer) (b : List Text) (t : List Text) : Type 0 where
  pub shape : Shape
  pub result : Result answers b shape
  pub before : List Text
  pub list : map printed (fields shape) ≡ before ++ t
  pub filled : t ≡ [] → ⊥

-- The answers to some calls, and the book after them: as many texts as different containers, as many tails as different
-- non-empty tails, the numbers answered among the book's, and no two numbers with the same text.
pub record Facts (limits : Limits) (answers : List Answer) (b : List Text) : Type 0 where
  pub distinct : Distinct b
  pub texts : (w : Text) → In w b ↔ ContainerText answers b w
  pub distinct_tails : Distinct (tails_of b)
  pub tails : (t : List Text) → In t (tails_of b) ↔ Tail answers b t
  pub types : length b ≤ limits.types
  pub fields : length (tails_of b) ≤ limits.fields
  pub numbers : (n : ℕ) → In (accepted n) answers → n < length (known b)
  pub apart : Distinct (known b)

abbrev pub AfterAnyCalls : Type 0
AfterAnyCalls = (limits : Limits) (cs : List Call) → Facts limits (run limits [] cs).0 (run limits [] cs).1

-- One more call after any calls: a refused call changes nothing; an accepted one answers the number of its text, and
-- each number has the text that it had. Where each container met in the call's text has a number, and neither the
-- arguments nor the text's length refuse the call, it adds nothing and answers the number that the text has.
pub record OneMore (limits : Limits) (b : List Text) (c : Call) : Type 0 where
  pub refusal : (e : ℕ) (values : List ℕ) → (call limits b c).0 ≡ refused e values → (call limits b c).1 ≡ b
  pub accepts : (n : ℕ) → (call limits b c).0 ≡ accepted n → text_of (call limits b c).1 n ≡ whole_text b c
  pub lasts : (n : ℕ) → n < length (known b) → text_of (call limits b c).1 n ≡ text_of b n
  pub again : early c (length b) ≡ none → length (whole_text b c) ≤ longest_form
      → ((w : Text) → In w (containers_of (reading (whole_text b c))) → In w b) → call limits b c ≡ (accepted (number_of b (whole_text b c)), b)

abbrev pub OneMoreCall : Type 0
OneMoreCall = (limits : Limits) (cs : List Call) (c : Call) → OneMore limits (run limits [] cs).1 c
