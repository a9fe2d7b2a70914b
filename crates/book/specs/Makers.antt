-- The calls of the four makers over numbers, test by test: what the code is proved to do first. That this is the book's
-- call is proved in this crate.
use Rattle.std.specs.Prelude.{ℕ, ◌+◌, cond, List, [], ◌∷◌, ◌++◌, length, ◌==◌, nat_eq, nat_lt}
use Rattle.grammar.specs.Lists.{same_list, place, add}
use Rattle.grammar.specs.Refusals.{accepted, refused}
use Rattle.book.specs.Plain.{Answer, longest_form}
use Rattle.book.specs.Nodes.{Node, array, maybe, dict, structure, same_node, size_of}

-- where x stands in the book; a new one goes to its end, if there is room
unfoldable pub placed : ℕ → List Node → Node → Answer × List Node
placed most b x =
    cond (nat_lt (place same_node b x) (length b))
    (accepted (15 + place same_node b x), b)
    (cond (nat_lt (length b) most) (accepted (15 + length b), b ++ x ∷ []) (refused 8 [], b))

-- the container x, if its printed form is not too long
abbrev pub sized : ℕ → List Node → Node → Answer × List Node
sized most b x = cond (nat_lt longest_form (size_of b x)) (refused 7 [], b) (placed most b x)

abbrev pub array_call : ℕ → List Node → ℕ → Answer × List Node
array_call most b n =
    cond (nat_lt n (15 + length b))
    (cond (n == 0) (refused 4 (0 ∷ []), b) (sized most b (array n)))
    (refused 3 (0 ∷ []), b)

abbrev pub maybe_call : ℕ → List Node → ℕ → Answer × List Node
maybe_call most b n =
    cond (nat_lt n (15 + length b))
    (cond (n == 0) (refused 4 (0 ∷ []), b) (sized most b (maybe n)))
    (refused 3 (0 ∷ []), b)

abbrev pub dict_call : ℕ → List Node → ℕ → ℕ → Answer × List Node
dict_call most b k v =
    cond (nat_lt k (15 + length b))
    (cond (nat_lt v (15 + length b))
    (cond (k == 0) (refused 4 (0 ∷ []), b) (cond (v == 0) (refused 4 (1 ∷ []), b) (sized most b (dict k v))))
    (refused 3 (1 ∷ []), b))
    (refused 3 (0 ∷ []), b)

-- T with each tail of a list that it lacks, the shortest first
abbrev pub add_tails : List (List ℕ) → List ℕ → List (List ℕ)
add_tails T [] = T
add_tails T (f ∷ fs) = add (same_list nat_eq) (add_tails T fs) (f ∷ fs)

-- the tails stay only with the structure that they were added for
abbrev pub kept : Answer → List Node → List Node → List (List ℕ) → List (List ℕ) → Answer × List Node × List (List ℕ)
kept (accepted n) b b' T T' = (accepted n, b', T')
kept (refused e vs) b b' T T' = (refused e vs, b, T)

abbrev pub structure_placed : ℕ → ℕ → List Node → List (List ℕ) → List ℕ → Answer × List Node × List (List ℕ)
structure_placed most most_fields b T fs =
    cond (nat_lt most_fields (length (add_tails T fs)))
    (refused 8 [], b, T)
    (kept (sized most b (structure fs)).0 b (sized most b (structure fs)).1 T (add_tails T fs))

-- the position of the first number that is not known, and of the first 0; the length where there is none
abbrev pub unknown_at : ℕ → List ℕ → ℕ
unknown_at known [] = 0
unknown_at known (f ∷ fs) = cond (nat_lt f known) (unknown_at known fs + 1) 0

abbrev pub unit_at : List ℕ → ℕ
unit_at [] = 0
unit_at (f ∷ fs) = cond (f == 0) 0 (unit_at fs + 1)

abbrev pub structure_call : ℕ → ℕ → List Node → List (List ℕ) → List ℕ → Answer × List Node × List (List ℕ)
structure_call most most_fields b T fs =
    cond (nat_lt (unknown_at (15 + length b) fs) (length fs)) (refused 3 (unknown_at (15 + length b) fs ∷ []), b, T)
    (cond (nat_lt (unit_at fs) (length fs)) (refused 4 (unit_at fs ∷ []), b, T)
    (cond (length fs == 0) (refused 5 [], b, T)
    (cond (nat_lt longest_form (size_of b (structure fs))) (refused 7 [], b, T)
    (structure_placed most most_fields b T fs))))
