-- What holds of a book by places, and of the book as a list.
use Rattle.std.proofs.Common.{◌≡◌, ℕ, zero, suc, ◌+◌, ◌<◌, List, [], ◌∷◌, length, get_or, sym, inl, inr, arith}
use Rattle.grammar.specs.Lists.{In, Distinct}
use Rattle.book.specs.Nodes.{Node, Known, Chain}
use Rattle.book.proofs.NodeShapes.{known_more}

pub chain_at : (ns : List Node) (m : ℕ) (d : Node) → Chain m ns → (k : ℕ) → k < length ns → Known (m + k) (get_or ns k d)
chain_at [] m d c k l = absurd (omega arith)
chain_at (x ∷ ns) m d c zero l = known_more m (m + 0) x (omega arith) c.0
chain_at (x ∷ ns) m d c (suc k) l = known_more (m + 1 + k) (m + suc k) (get_or ns k d) (omega arith) (chain_at ns (m + 1) d c.1 k (omega arith))

in_place : {A : Type 0} (xs : List A) (x d : A) → In x xs → (k : ℕ) × (k < length xs) × (get_or xs k d ≡ x)
in_place [] x d i = absurd i
in_place (y ∷ ys) x d i = elim i [ inl e ↦ (0, omega arith, e) | inr j ↦ let p = in_place ys x d j in (suc p.0, omega (arith, p.1), p.2) ]

pub distinct_by_place : {A : Type 0} (xs : List A) (d : A) → ((j k : ℕ) → j < k → k < length xs → get_or xs j d ≡ get_or xs k d → ⊥) → Distinct xs
distinct_by_place [] d h = tt
distinct_by_place (x ∷ xs) d h = (
  λ i. let p = in_place xs x d i in h 0 (suc p.0) (omega arith) (omega (arith, p.1)) (sym p.2),
  distinct_by_place xs d (λ j k l g e. h (suc j) (suc k) (omega arith) (omega arith) e),
)
