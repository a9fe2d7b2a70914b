-- The plain book: a list of texts, and nothing else. It is fed the arguments of opening and of the calls that follow.
use Rattle.std.specs.Prelude.{ℕ, ◌+◌, min, Bool, true, false, cond, ◌||◌, ltb, List, [], ◌∷◌, ◌++◌, map, length, nat_eq, nat_lt, slice_index_or}
use Rattle.std.proofs.Math.Option.{Option, none, some}
use Rattle.grammar.specs.declared.error.Fault.{Fault}
use Rattle.grammar.specs.Lists.{same_list, place, add_all, tails}
use Rattle.grammar.specs.Shape.{Text, basic_codes, Shape, Shapes, nil, more, printed}
use Rattle.grammar.specs.Parts.{containers, fields}
use Rattle.grammar.specs.Valid.{longest_text}
use Rattle.grammar.specs.Scan.{fault}
use Rattle.grammar.specs.Read.{reading, read_all}
use Rattle.grammar.specs.Refusals.{Outcome, accepted, refused, letter_of}

infixr 30 ◌else◌
-- the calls that may alter a sheet
pub data Call : Type 0 where
  from_bytes : Text → Call
  array maybe : ℕ → Call
  dict : ℕ → ℕ → Call
  structure : List ℕ → Call

-- a number, or a refusal with all that it gives
abbrev pub Answer : Type 0
Answer = Outcome ℕ

-- How many bytes a printed form may have, and how many rows of each kind are ever used.
abbrev pub longest_form : ℕ
longest_form = 65535

abbrev pub most_types : ℕ
most_types = 65520

abbrev pub most_fields : ℕ
most_fields = 65535

-- how many rows of each kind can be used
pub record Limits : Type 0 where
  pub types : ℕ
  pub fields : ℕ

-- opening, on so many lent rows of each kind
abbrev pub opened : ℕ → ℕ → Limits
opened types fields = record { types = min types most_types; fields = min fields most_fields }

abbrev pub same_text : Text → Text → Bool
same_text = same_list nat_eq

-- The texts of the numbers: 0 has the empty text, 1 to 14 the basic codes, 15 + k text k of the book; no other number
-- has one.
abbrev pub single : ℕ → Text
single c = c ∷ []

abbrev pub known : List Text → List Text
known b = [] ∷ (map single basic_codes ++ b)

abbrev pub text_of : List Text → ℕ → Text
text_of b n = slice_index_or (known b) n []

abbrev pub number_of : List Text → Text → ℕ
number_of b w = place same_text (known b) w

abbrev pub texts : List Text → List ℕ → Text
texts b [] = []
texts b (n ∷ ns) = text_of b n ++ texts b ns

-- parenthesised where there are several types
abbrev pub enclosed : Option Shapes → Text → Text
enclosed none w = w
enclosed (some nil) w = w
enclosed (some (more t nil)) w = w
enclosed (some (more t (more u ts))) w = 40 ∷ (w ++ 41 ∷ [])

-- the text that a call is about
abbrev pub whole_text : List Text → Call → Text
whole_text b (from_bytes w) = enclosed (read_all w) w
whole_text b (array n) = 97 ∷ text_of b n
whole_text b (maybe n) = 109 ∷ text_of b n
whole_text b (dict k v) = 97 ∷ 123 ∷ (text_of b k ++ (text_of b v ++ 125 ∷ []))
whole_text b (structure ns) = 40 ∷ (texts b ns ++ 41 ∷ [])

-- the numbers that a call is given
abbrev pub parts : Call → List ℕ
parts (from_bytes w) = []
parts (array n) = n ∷ []
parts (maybe n) = n ∷ []
parts (dict k v) = k ∷ v ∷ []
parts (structure ns) = ns

-- the containers met in a text, and the fields of the structure that it is
abbrev pub containers_of : Option Shape → List Text
containers_of none = []
containers_of (some t) = map printed (containers t)

abbrev pub fields_of : Option Shape → List Text
fields_of none = []
fields_of (some t) = map printed (fields t)

-- the book with each container of a text that is new
abbrev pub grown : List Text → Text → List Text
grown b w = add_all same_text b (containers_of (reading w))

-- the different non-empty tails of the field lists of all structures in a book
abbrev pub tails_from : List (List Text) → List Text → List (List Text)
tails_from T [] = T
tails_from T (w ∷ b) = tails_from (add_all (same_list same_text) T (tails (fields_of (reading w)))) b

abbrev pub tails_of : List Text → List (List Text)
tails_of b = tails_from [] b

-- A refusal's number and values, where one applies.
abbrev pub Refusing : Type 0
Refusing = Option (ℕ × List ℕ)

abbrev pub when : Bool → ℕ → Refusing
when true number = some (number, [])
when false number = none

abbrev pub at : ℕ → Option ℕ → Refusing
at number none = none
at number (some i) = some (number, i ∷ [])

abbrev pub by : Option Fault → Refusing
by none = none
by (some f) = some (2, letter_of f.cause ∷ f.place ∷ [])

abbrev pub ◌else◌ : Refusing → Refusing → Refusing
none else e = e
(some r) else e = some r

abbrev pub next : Option ℕ → Option ℕ
next none = none
next (some i) = some (i + 1)

-- the position, from 0, of the first number of which p says yes
abbrev pub first_at : (ℕ → Bool) → List ℕ → Option ℕ
first_at p [] = none
first_at p (n ∷ ns) = cond (p n) (some 0) (next (first_at p ns))

abbrev pub long_text : Call → Refusing
long_text (from_bytes w) = when (nat_lt longest_text (length w)) 1
long_text (array n) = none
long_text (maybe n) = none
long_text (dict k v) = none
long_text (structure ns) = none

abbrev pub invalid_text : Call → Refusing
invalid_text (from_bytes w) = by (fault w)
invalid_text (array n) = none
invalid_text (maybe n) = none
invalid_text (dict k v) = none
invalid_text (structure ns) = none

abbrev pub empty_list : Call → Refusing
empty_list (from_bytes w) = none
empty_list (array n) = none
empty_list (maybe n) = none
empty_list (dict k v) = none
empty_list (structure []) = some (5, [])
empty_list (structure (n ∷ ns)) = none

-- The refusals that go by the arguments, where the book has so many texts.
abbrev pub early : Call → ℕ → Refusing
early c count =
    long_text c
    else invalid_text c
    else at 3 (first_at (λ n. ltb (14 + count) n) (parts c))
    else at 4 (first_at (λ n. nat_eq n 0) (parts c))
    else empty_list c

-- What a call would come to: the length of its text, and how many rows of each kind there would be.
pub record Needed : Type 0 where
  pub size : ℕ
  pub types : ℕ
  pub fields : ℕ

abbrev pub needed : List Text → Text → Needed
needed b w = record { size = length w; types = length (grown b w); fields = length (tails_of (grown b w)) }

-- The refusals that go by what the call would come to.
abbrev pub late : Limits → Needed → Refusing
late limits need =
    when (nat_lt longest_form need.size) 7
    else when (nat_lt limits.types need.types || nat_lt limits.fields need.fields) 8

abbrev pub answered : List Text → Text → Refusing → Answer × List Text
answered b w (some r) = (refused r.0 r.1, b)
answered b w none = (accepted (number_of (grown b w) w), grown b w)

-- The answer to a call, and the book after it.
unfoldable pub call : Limits → List Text → Call → Answer × List Text
call limits b c = answered b (whole_text b c) (early c (length b) else late limits (needed b (whole_text b c)))

-- The answers to some calls, and the book after them.
abbrev pub run : Limits → List Text → List Call → List Answer × List Text
run limits b [] = ([], b)
run limits b (c ∷ cs) =
    let r : Answer × List Text = call limits b c in
    let s : List Answer × List Text = run limits r.1 cs in
    (r.0 ∷ s.0, s.1)
