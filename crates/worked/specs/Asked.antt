-- What a worked example asks of a fresh sheet, and what the definitions answer.
use Rattle.std.specs.Prelude.{ℕ, Bool, List, [], map, Option as Optional}
use Rattle.grammar.specs.Shape.{Text}
use Rattle.grammar.specs.Refusals.{Outcome, accepted, refused}
use Rattle.book.specs.Plain.{Answer, Call, from_bytes, Limits, opened, text_of, tails_of, call, run}
use Rattle.book.specs.Rows.{type_key_of, field_key_of}
use Rattle.book.specs.Questions.{dbus, gvariant, string_length_of, depths_of, alignment_of, fixed_of, maybe_of}
use Rattle.forms.specs.Forms.{bare_text, byte_of}
use Rattle.printing.specs.Forms.{eq_text_of}

-- a sheet with rows to spare
abbrev pub plenty : Limits
plenty = opened 1024 1024

pub data Question : Type 0 where
  calls : Limits → List Call → Question  -- some calls in turn, on a sheet with such limits
  figures : Text → Question  -- the figures of the signature read from a text
  bare : Text → Question  -- its bare form
  byte_at : Text → ℕ → Question  -- the byte at a place of its printed form
  equals : Text → Text → Question  -- whether the second text is its printed or bare form

pub data Found : Type 0 where
  -- the answers, and then the keys of the type rows and of the field rows
  filed : List Answer → List (List ℕ) → List (List ℕ) → Found
  -- the length, the depths of structures and of arrays, the alignments in D-Bus and GVariant, a fixed size, a maybe in it
  figured : Answer → Outcome (ℕ × ℕ) → Answer → Answer → Outcome Bool → Outcome Bool → Found
  form : Outcome Text → Found
  byte : Outcome (Optional ℕ) → Found
  verdict : Outcome Bool → Found

abbrev pub filing : List Answer × List Text → Found
filing (answers, b) = filed answers (map (type_key_of b) b) (map (field_key_of b) (tails_of b))

-- the answer to a question about the number that a call answered, on the book after it
abbrev pub about : {A : Type 0} → (List Text → ℕ → Outcome A) → Answer × List Text → Outcome A
about question (accepted n, b) = question b n
about question (refused e values, b) = refused e values

abbrev pub figuring : Answer × List Text → Found
figuring r =
    figured (about string_length_of r) (about depths_of r) (about (alignment_of dbus) r) (about (alignment_of gvariant) r) (about fixed_of r) (about maybe_of r)

-- a text read on a fresh sheet
abbrev pub reads : Text → Answer × List Text
reads w = call plenty [] (from_bytes w)

abbrev pub found : Question → Found
found (calls limits cs) = filing (run limits [] cs)
found (figures w) = figuring (reads w)
found (bare w) = form (about (λ b n. accepted (bare_text (text_of b n))) (reads w))
found (byte_at w p) = byte (about (λ b n. byte_of b n p) (reads w))
found (equals w v) = verdict (about (λ b n. eq_text_of b n v) (reads w))
