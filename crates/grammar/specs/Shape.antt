-- The types of a signature, as trees, and how they are written.
use Rattle.std.specs.Prelude.{◌≡◌, ℕ, Bool, true, List, [], ◌∷◌, ◌++◌, codes, nat_eq}
use Rattle.grammar.specs.Lists.{has}

-- the bytes of a signature
abbrev pub Text : Type 0
Text = List ℕ

-- the codes of the basic types, in the order of their numbers 1 to 14
abbrev pub basic_codes : List ℕ
basic_codes = codes "ybnqiuxtdsgovh"

unfoldable pub is_basic : ℕ → Bool
is_basic c = has nat_eq basic_codes c

-- A shape is a basic type, an array, a dictionary, a structure of one or more fields, or a maybe.
mutual
  pub data Shape : Type 0 where
    basic : (c : ℕ) → is_basic c ≡ true → Shape
    array maybe : Shape → Shape
    dict : Shape → Shape → Shape
    structure : Shape → Shapes → Shape

  pub data Shapes : Type 0 where
    nil : Shapes
    more : Shape → Shapes → Shapes

-- The printed bytes: 97 is 'a', 123 and 125 are the braces, 40 and 41 the parentheses, 109 is 'm'.
abbrev mutual
  pub printed : Shape → Text
  printed (basic c h) = c ∷ []
  printed (array t) = 97 ∷ printed t
  printed (dict k v) = 97 ∷ 123 ∷ (printed k ++ (printed v ++ 125 ∷ []))
  printed (structure t ts) = 40 ∷ (printed t ++ (printed_all ts ++ 41 ∷ []))
  printed (maybe t) = 109 ∷ printed t

  pub printed_all : Shapes → Text
  printed_all nil = []
  printed_all (more t ts) = printed t ++ printed_all ts
