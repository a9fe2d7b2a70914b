-- What building a part does to the book, for whatever stands in the text.
use Rattle.std.specs.Prelude.{◌≡◌, ℕ, zero, suc, ◌+◌, ◌-◌, ◌<◌, ◌≤◌, ◌⊎◌, List, [], ◌∷◌, ◌++◌, map, length, drop, Ok, Err, Result, slice_index_or}
use Rattle.std.proofs.Math.Option.{Option, none, some}
use Rattle.grammar.specs.declared.error.Refusal.{Refusal}
use Rattle.grammar.specs.declared.error.Refusal.TheVariants.{NoRows}
use Rattle.grammar.specs.Lists.{add_all}
use Rattle.grammar.specs.Shape.{Text, basic_codes, Shape, Shapes, basic, array, maybe, dict, structure, nil, more, printed, printed_all}
use Rattle.grammar.specs.Parts.{containers, containers_all}
use Rattle.reader.specs.Parsing.{count_of}
use Rattle.grammar.specs.Refusals.{outcome}
use Rattle.book.specs.Plain.{Call, Limits, longest_form, same_text, known, text_of, tails_of, call}

-- the book has no more texts and tails than can be used
pub record Fits (limits : Limits) (b : List Text) : Type 0 where
  pub types : length b ≤ limits.types
  pub fields : length (tails_of b) ≤ limits.fields

-- the book with the containers of a shape, and of shapes in a row
abbrev pub with : List Text → Shape → List Text
with b t = add_all same_text b (map printed (containers t))

abbrev pub with_all : List Text → Shapes → List Text
with_all b ts = add_all same_text b (map printed (containers_all ts))

-- A structure entered after its fields leaves the book that it leaves when entered alone.
abbrev pub FieldsFirst : Type 0
FieldsFirst = (b : List Text) (t : Shape) (ts : Shapes) → with (with_all b (more t ts)) (structure t ts) ≡ with b (structure t ts)

-- A maker that came of another by some calls: it can use as many rows, and has what they keep of every earlier one.
pub record Goes {M : Type 0} (P : M → M → Type 0) (L : M → Limits) (m m' : M) : Type 0 where
  pub grew : (x : M) → P x m → P x m'
  pub limits : L m' ≡ L m

-- What a call of a maker says: its answer, and the book after it.
pub record Says (limits : Limits) (b : List Text) (c : Call) (r : Result ℕ Refusal) (b' : List Text) : Type 0 where
  pub answer : outcome r ≡ (call limits b c).0
  pub book : b' ≡ (call limits b c).1

-- n is the number of the shape in the book
pub record Filed (b : List Text) (n : ℕ) (t : Shape) : Type 0 where
  pub within : n < length (known b)
  pub text : text_of b n ≡ printed t

-- the numbers are those of the shapes, in order
abbrev pub FiledAll : List Text → List ℕ → Shapes → Type 0
FiledAll b [] nil = Unit {0}
FiledAll b [] (more t ts) = ⊥
FiledAll b (n ∷ ns) nil = ⊥
FiledAll b (n ∷ ns) (more t ts) = Filed b n t × FiledAll b ns ts

-- n is the number of the basic code c
pub record CodeNumber (c n : ℕ) : Type 0 where
  pub low : 0 < n
  pub high : n < 15
  pub code : slice_index_or basic_codes (n - 1) 0 ≡ c

-- one row of shapes after another
abbrev pub joined : Shapes → Shapes → Shapes
joined nil us = us
joined (more t ts) us = more t (joined ts us)

-- The shape t got the number n, and what the text has left is as it should be.
pub record Built (limits : Limits) (b : List Text) (t : Shape) (n : ℕ) (b' : List Text) (left rest : Text) : Type 0 where
  pub book : b' ≡ with b t
  pub filed : Filed b' n t
  pub onward : left ≡ rest

-- There are not enough rows for the containers of t.
pub record NoRoom (limits : Limits) (b : List Text) (t : Shape) (e : Refusal) : Type 0 where
  pub is : e ≡ NoRows
  pub full : Fits limits (with b t) → ⊥

abbrev pub Comes : Limits → List Text → Shape → Result ℕ Refusal → List Text → Text → Text → Type 0
Comes limits b t (Ok n) b' left rest = Built limits b t n b' left rest
Comes limits b t (Err e) b' left rest = NoRoom limits b t e

-- From one place to another a complete type is built, if one stands there.
pub record Builds (limits : Limits) (text : Text) (from : ℕ) (b : List Text) (r : Result ℕ Refusal) (to : ℕ) (b' : List Text) : Type 0 where
  pub comes : (t : Shape) (w : Text) → drop from text ≡ printed t ++ w → length (printed t) ≤ longest_form → Comes limits b t r b' (drop to text) w

-- The same of a type that is no maybe.
abbrev pub NoMaybe : Shape → Type 0
NoMaybe (basic c h) = Unit {0}
NoMaybe (array t) = Unit {0}
NoMaybe (dict k v) = Unit {0}
NoMaybe (structure t ts) = Unit {0}
NoMaybe (maybe t) = ⊥

pub record BuildsBare (limits : Limits) (text : Text) (from : ℕ) (b : List Text) (r : Result ℕ Refusal) (to : ℕ) (b' : List Text) : Type 0 where
  pub comes : (t : Shape) (w : Text) → NoMaybe t → drop from text ≡ printed t ++ w → length (printed t) ≤ longest_form → Comes limits b t r b' (drop to text) w

-- The structure of the types up to ')', behind '('.
pub record BuildsFields (limits : Limits) (text : Text) (from : ℕ) (b : List Text) (r : Result ℕ Refusal) (to : ℕ) (b' : List Text) : Type 0 where
  pub comes : (t : Shape) (ts : Shapes) (w : Text) → drop from text ≡ printed_all (more t ts) ++ 41 ∷ w → length (printed (structure t ts)) ≤ longest_form
      → Comes limits b (structure t ts) r b' (drop to text) w

-- t behind so many 'm'
abbrev pub maybes : ℕ → Shape → Shape
maybes zero t = t
maybes (suc k) t = maybes k (maybe t)

-- Behind so many 'm' stands a type that is no maybe.
pub record Behind (text : Text) (to many : ℕ) (t : Shape) (w : Text) : Type 0 where
  pub shape : Shape
  pub is : t ≡ maybes many shape
  pub here : drop to text ≡ printed shape ++ w

abbrev pub Skips : Text → ℕ → ℕ → ℕ → Type 0
Skips text from many to = (t : Shape) (w : Text) → drop from text ≡ printed t ++ w → (b : Behind text to many t w) × NoMaybe b.shape

-- A number that is filed, with all its containers, is put behind so many 'm'.
pub record Wraps (limits : Limits) (many n : ℕ) (b : List Text) (r : Result ℕ Refusal) (b' : List Text) : Type 0 where
  pub comes : (u : Shape) → Filed b n u → with b u ≡ b → length (printed (maybes many u)) ≤ longest_form → (left rest : Text) → left ≡ rest → Comes limits b (maybes many u) r b' left rest

-- Some of the shapes ts are built, with the numbers ns; the others stand in the text up to w.
pub record Onward (text : Text) (at : ℕ) (w : Text) (b : List Text) (ts : Shapes) (ns : List ℕ) (b' : List Text) : Type 0 where
  pub done : Shapes
  pub rest : Shapes
  pub all : ts ≡ joined done rest
  pub here : drop at text ≡ printed_all rest ++ w
  pub book : b' ≡ with_all b done
  pub filed : FiledAll b' ns done

-- What the shapes of a text come to: none to Unit, one to itself, several to their structure.
abbrev pub whole_of : Shapes → Option Shape
whole_of nil = none
whole_of (more t nil) = some t
whole_of (more t (more u ts)) = some (structure t (more u ts))

abbrev pub ComesWhole : Limits → List Text → Option Shape → Result ℕ Refusal → List Text → Type 0
ComesWhole limits b none r b' = (r ≡ Ok 0) × (b' ≡ b)
ComesWhole limits b (some t) r b' = Comes limits b t r b' [] []

pub record BuildsWhole (limits : Limits) (text : Text) (b : List Text) (r : Result ℕ Refusal) (b' : List Text) : Type 0 where
  pub comes : (ts : Shapes) → text ≡ printed_all ts → length text + 2 ≤ longest_form ⊎ (count_of ts ≤ 1) → length text ≤ longest_form → ComesWhole limits b (whole_of ts) r b'
