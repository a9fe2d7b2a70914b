-- The tails of the structures of a book, when the book gets one container more.
use Rattle.std.proofs.Common.{◌≡◌, ℕ, zero, suc, ◌<◌, true, List, [], ◌∷◌, ◌++◌, length, get_or, sym, refl, ap, ◌∙◌, subst, arith}
use Rattle.std.proofs.lemmas.Bool.{cond-true}
use Rattle.std.proofs.lemmas.Bool.Decides.{nat_tests}
use Rattle.grammar.specs.Lists.{has, add, add_all, tails}
use Rattle.book.specs.Nodes.{Node, structure, fields_of, tails_from, tails_of}
use Rattle.book.specs.Makers.{add_tails}
use Rattle.layout.specs.Tails.{same_tail}
use Rattle.layout.proofs.Places.{tail_tells}

add_all_append_tails : (T xs ys : List (List ℕ)) → add_all same_tail T (xs ++ ys) ≡ add_all same_tail (add_all same_tail T xs) ys
add_all_append_tails T [] ys = refl
add_all_append_tails T (x ∷ xs) ys = add_all_append_tails (add same_tail T x) xs ys

pub add_tails_all : (T : List (List ℕ)) (fs : List ℕ) → add_all same_tail T (tails fs) ≡ add_tails T fs
add_tails_all T [] = refl
add_tails_all T (f ∷ fs) = add_all_append_tails T (tails fs) ((f ∷ fs) ∷ []) ∙ ap (λ (U : List (List ℕ)). add same_tail U (f ∷ fs)) (add_tails_all T fs)

tails_push_from : (T : List (List ℕ)) (b : List Node) (x : Node) → tails_from T (b ++ x ∷ []) ≡ add_tails (tails_from T b) (fields_of x)
tails_push_from T [] x = add_tails_all T (fields_of x)
tails_push_from T (y ∷ b) x = tails_push_from (add_all same_tail T (tails (fields_of y))) b x

pub tails_push : (b : List Node) (x : Node) → tails_of (b ++ x ∷ []) ≡ add_tails (tails_of b) (fields_of x)
tails_push b x = tails_push_from [] b x

-- y stands in T
abbrev Has : List (List ℕ) → List ℕ → Type 0
Has T y = has same_tail T y ≡ true

has_front : (T : List (List ℕ)) (x y : List ℕ) → Has T y → Has (T ++ x ∷ []) y
has_front [] x y h = grind (arith, nat_tests)
has_front (t ∷ T) x y h = grind (arith, nat_tests, has_front T x y)

has_last : (T : List (List ℕ)) (x : List ℕ) → Has (T ++ x ∷ []) x
has_last [] x = grind (arith, nat_tests, tail_tells.self x)
has_last (t ∷ T) x = grind (arith, nat_tests, has_last T x)

has_add : (T : List (List ℕ)) (x y : List ℕ) → Has T y → Has (add same_tail T x) y
has_add T x y h = grind (arith, nat_tests, has_front T x y h)

has_added : (T : List (List ℕ)) (x : List ℕ) → Has (add same_tail T x) x
has_added T x = grind (arith, nat_tests, has_last T x)

-- each tail of a list stands in T
abbrev HasAll : List (List ℕ) → List ℕ → Type 0
HasAll T [] = Unit {0}
HasAll T (f ∷ fs) = Has T (f ∷ fs) × HasAll T fs

all_add : (T : List (List ℕ)) (x fs : List ℕ) → HasAll T fs → HasAll (add same_tail T x) fs
all_add T x [] h = tt
all_add T x (f ∷ fs) h = (has_add T x (f ∷ fs) h.0, all_add T x fs h.1)

all_adds : (T xs : List (List ℕ)) (fs : List ℕ) → HasAll T fs → HasAll (add_all same_tail T xs) fs
all_adds T [] fs h = h
all_adds T (x ∷ xs) fs h = all_adds (add same_tail T x) xs fs (all_add T x fs h)

all_from : (T : List (List ℕ)) (b : List Node) (fs : List ℕ) → HasAll T fs → HasAll (tails_from T b) fs
all_from T [] fs h = h
all_from T (x ∷ b) fs h = all_from (add_all same_tail T (tails (fields_of x))) b fs (all_adds T (tails (fields_of x)) fs h)

all_own : (T : List (List ℕ)) (fs : List ℕ) → HasAll (add_tails T fs) fs
all_own T [] = tt
all_own T (f ∷ fs) = (has_added (add_tails T fs) (f ∷ fs), all_add (add_tails T fs) (f ∷ fs) fs (all_own T fs))

all_in : (T : List (List ℕ)) (b : List Node) (fs : List ℕ) (i : ℕ) (d : Node) → i < length b → get_or b i d ≡ structure fs → HasAll (tails_from T b) fs
all_in T [] fs i d l e = absurd (omega arith)
all_in T (x ∷ b) fs zero d l e =
    all_from (add_all same_tail T (tails (fields_of x))) b fs
    (subst (λ (U : List (List ℕ)). HasAll U fs) (sym (add_tails_all T fs) ∙ ap (λ (y : Node). add_all same_tail T (tails (fields_of y))) (sym e)) (all_own T fs))
all_in T (x ∷ b) fs (suc i) d l e = all_in (add_all same_tail T (tails (fields_of x))) b fs i d (omega arith) e

adds_none : (T : List (List ℕ)) (fs : List ℕ) → HasAll T fs → add_tails T fs ≡ T
adds_none T [] h = refl
adds_none T (f ∷ fs) h = ap (λ (U : List (List ℕ)). add same_tail U (f ∷ fs)) (adds_none T fs h.1) ∙ cond-true (has same_tail T (f ∷ fs)) T (T ++ (f ∷ fs) ∷ []) h.0

-- a structure of the book has its tails there already
pub tails_held : (b : List Node) (fs : List ℕ) (i : ℕ) (d : Node) → i < length b → get_or b i d ≡ structure fs → add_tails (tails_of b) fs ≡ tails_of b
tails_held b fs i d l e = adds_none (tails_of b) fs (all_in [] b fs i d l e)
