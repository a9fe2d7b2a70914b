-- Lists without repetition, by a test of equality.
use Rattle.std.specs.Prelude.{◌≡◌, ℕ, suc, Bool, true, false, cond, ◌&&◌, ◌||◌, ◌⊎◌, List, [], ◌∷◌, ◌++◌}

-- x stands in the list
abbrev pub In : {A : Type 0} → A → List A → Type 0
In x [] = ⊥
In x (y ∷ ys) = (y ≡ x) ⊎ In x ys

-- no element stands in the list twice
abbrev pub Distinct : {A : Type 0} → List A → Type 0
Distinct [] = Unit {0}
Distinct (x ∷ xs) = (In x xs → ⊥) × Distinct xs

-- two lists are the same, where `same` compares their items
abbrev pub same_list : {A : Type 0} → (A → A → Bool) → List A → List A → Bool
same_list same [] [] = true
same_list same [] (y ∷ ys) = false
same_list same (x ∷ xs) [] = false
same_list same (x ∷ xs) (y ∷ ys) = same x y && same_list same xs ys

abbrev pub has : {A : Type 0} → (A → A → Bool) → List A → A → Bool
has same [] x = false
has same (y ∷ ys) x = same y x || has same ys x

-- the place of the first x; the length where there is none
abbrev pub place : {A : Type 0} → (A → A → Bool) → List A → A → ℕ
place same [] x = 0
place same (y ∷ ys) x = cond (same y x) 0 (suc (place same ys x))

-- x goes to the end if it is new
abbrev pub add : {A : Type 0} → (A → A → Bool) → List A → A → List A
add same b x = cond (has same b x) b (b ++ x ∷ [])

-- each of them in turn
abbrev pub add_all : {A : Type 0} → (A → A → Bool) → List A → List A → List A
add_all same b [] = b
add_all same b (x ∷ xs) = add_all same (add same b x) xs

-- all tails but the empty one, the shortest first
abbrev pub tails : {A : Type 0} → List A → List (List A)
tails [] = []
tails (x ∷ xs) = tails xs ++ (x ∷ xs) ∷ []
