-- Worked examples, one to a line: what is asked of a fresh sheet, and what is found.
use Rattle.std.specs.Prelude.{◌≡◌, ℕ, zero, suc, Bool, true, false, List, [], ◌∷◌, ◌++◌, map, replicate, Some, None, codes}
use Prim.Native.String.{String}
use Rattle.grammar.specs.Shape.{Text}
use Rattle.grammar.specs.Refusals.{accepted, refused}
use Rattle.book.specs.Plain.{Answer, Call, from_bytes, array, maybe, dict, structure, opened}
use Rattle.worked.specs.Asked.{plenty, Question, calls, figures, bare, byte_at, equals, Found, filed, figured, form, byte, verdict, found}

infix 70 ◌gives◌
infix 70 ◌answers◌
abbrev pub Line : Type 0
Line = Question × Found

abbrev pub ◌gives◌ : Question → Found → Line
q gives f = (q, f)

-- a call with rows to spare that adds no row
abbrev pub ◌answers◌ : Call → Answer → Line
c answers a = calls plenty (c ∷ []) gives filed (a ∷ []) [] []

abbrev pub read : String → Call
read s = from_bytes (codes s)

-- a text n times in a row
abbrev pub times : ℕ → String → Text
times zero s = []
times (suc n) s = codes s ++ times n s

-- no signature, by the cause E, D or U at a place
abbrev pub invalid : String → ℕ → Answer
invalid cause place = refused 2 (codes cause ++ place ∷ [])

-- the key of a row
abbrev pub row : ℕ → ℕ → ℕ → List ℕ
row a b c = a ∷ b ∷ c ∷ []

-- Texts that are read, and the rows for them: types (kind, part, part) and tails of fields (field, next row, count).
abbrev pub filings : List Line
filings =
    read "" answers accepted 0
    ∷ read "y" answers accepted 1
    ∷ calls plenty (read "a{sv}" ∷ []) gives filed (accepted 15 ∷ []) (row 2 10 13 ∷ []) []
    ∷ calls plenty (read "(y)" ∷ []) gives filed (accepted 15 ∷ []) (row 3 1 1 ∷ []) (row 1 0 1 ∷ [])
    ∷ calls plenty (read "(yy)" ∷ read "yy" ∷ []) gives filed (accepted 15 ∷ accepted 15 ∷ []) (row 3 2 2 ∷ []) (row 1 0 1 ∷ row 1 1 2 ∷ [])
    ∷ calls plenty (read "aay" ∷ read "ay" ∷ []) gives filed (accepted 16 ∷ accepted 15 ∷ []) (row 1 1 0 ∷ row 1 15 0 ∷ []) []
    ∷ []

-- Texts that are no signatures, or too long.
abbrev pub faults : List Line
faults =
    read "()" answers invalid "U" 1
    ∷ read "a{" answers invalid "E" 2
    ∷ read "a{s}" answers invalid "U" 3
    ∷ read "a{svs}" answers invalid "U" 4
    ∷ from_bytes (times 33 "a" ++ codes "y") answers invalid "D" 32
    ∷ from_bytes (times 33 "(" ++ codes "y" ++ times 33 ")") answers invalid "D" 32
    ∷ from_bytes (times 65536 "y") answers refused 1 []
    ∷ []

-- The makers, and the refusals that go by numbers, by length and by rows.
abbrev pub making : List Line
making =
    calls plenty (array 1 ∷ maybe 15 ∷ dict 10 13 ∷ structure (1 ∷ 17 ∷ []) ∷ [])
    gives filed (accepted 15 ∷ accepted 16 ∷ accepted 17 ∷ accepted 18 ∷ []) (row 1 1 0 ∷ row 4 15 0 ∷ row 2 10 13 ∷ row 3 2 2 ∷ []) (row 17 0 1 ∷ row 1 1 2 ∷ [])
    ∷ calls plenty (read "(yy)" ∷ structure (1 ∷ 1 ∷ []) ∷ []) gives filed (accepted 15 ∷ accepted 15 ∷ []) (row 3 2 2 ∷ []) (row 1 0 1 ∷ row 1 1 2 ∷ [])
    ∷ array 15 answers refused 3 (0 ∷ [])
    ∷ dict 1 0 answers refused 4 (1 ∷ [])
    ∷ structure [] answers refused 5 []
    ∷ structure (0 ∷ 99 ∷ []) answers refused 3 (1 ∷ [])
    ∷ structure (replicate 65534 1) answers refused 7 []
    ∷ calls (opened 0 1024) (read "ay" ∷ []) gives filed (refused 8 [] ∷ []) [] []
    ∷ calls (opened 1 1024) (read "aay" ∷ read "ay" ∷ read "as" ∷ []) gives filed (refused 8 [] ∷ accepted 15 ∷ refused 8 [] ∷ []) (row 1 1 0 ∷ []) []
    ∷ calls (opened 1024 1) (read "(yy)" ∷ read "(y)" ∷ []) gives filed (refused 8 [] ∷ accepted 15 ∷ []) (row 3 1 1 ∷ []) (row 1 0 1 ∷ [])
    ∷ []

-- The length; the depths of structures and of arrays; the alignments in D-Bus and GVariant; a fixed size; a maybe in it.
abbrev pub sized : ℕ → ℕ → ℕ → Answer → ℕ → Bool → Bool → Found
sized length structures arrays dbus gvariant fixed some-maybe =
    figured (accepted length) (accepted (structures, arrays)) dbus (accepted gvariant) (accepted fixed) (accepted some-maybe)

abbrev pub measures : List Line
measures =
    figures (codes "") gives sized 0 0 0 (accepted 8) 8 true false
    ∷ figures (codes "a{sv}") gives sized 5 0 1 (accepted 4) 8 false false
    ∷ figures (codes "(bn)") gives sized 4 1 0 (accepted 8) 2 true false
    ∷ figures (codes "(ys)") gives sized 4 1 0 (accepted 8) 1 false false
    ∷ figures (codes "may") gives sized 3 0 1 (refused 6 []) 1 false true
    ∷ figures (times 32 "a" ++ codes "y") gives sized 33 0 32 (accepted 4) 1 false false
    ∷ figures (times 32 "(" ++ codes "y" ++ times 32 ")") gives sized 65 32 0 (accepted 8) 1 true false
    ∷ []

-- Printed forms, and texts compared with them.
abbrev pub forms : List Line
forms =
    bare (codes "(yy)") gives form (accepted (codes "yy"))
    ∷ bare (codes "a(yy)") gives form (accepted (codes "a(yy)"))
    ∷ byte_at (codes "a{sv}") 2 gives byte (accepted (Some 115))
    ∷ byte_at (codes "a{sv}") 5 gives byte (accepted None)
    ∷ equals (codes "a(y)") (codes "ay") gives verdict (accepted false)
    ∷ equals (codes "(y)") (codes "y") gives verdict (accepted true)
    ∷ equals (codes "(y)") (codes "(y)") gives verdict (accepted true)
    ∷ equals (codes "a{ayy}") (codes "a{ayy}") gives verdict (accepted true)
    ∷ equals (codes "ay") (97 ∷ 249 ∷ []) gives verdict (accepted false)  -- 249 is y with its highest bit set
    ∷ equals (codes "") (codes "") gives verdict (accepted true)
    ∷ []

abbrev pub table : List Line
table = filings ++ faults ++ making ++ measures ++ forms

-- At each line the definitions give what it says.
abbrev pub TableHolds : Type 0
TableHolds = map (λ line. found line.0) table ≡ map (λ line. line.1) table
