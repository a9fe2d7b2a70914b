-- Lists without repetition.
use Rattle.std.proofs.Common.{◌≡◌, ℕ, zero, suc, ◌<◌, Bool, true, false, cond, ◌&&◌, ◌||◌, eqb, ◌⊎◌, List, [], ◌∷◌, ◌++◌, map, length, get_or, sym, refl, subst, ap₂, inl, inr, append_assoc, append-nil, arith}
use Rattle.std.proofs.lemmas.Bool.{eq-eqb, eqb-true}
use Rattle.std.proofs.lemmas.Slice.Zip.{all_zipped_more}
use Rattle.std.specs.List.{flat_map, AllByRecursion, AllZip}
use Rattle.grammar.specs.Lists.{In, Distinct, same_list, has, place, add, add_all, tails}

pub record Decides {A : Type 0} (same : A → A → Bool) : Type 0 where
  pub so : (x y : A) → same x y ≡ true → x ≡ y
  pub self : (x : A) → same x x ≡ true

pub numbers : Decides eqb
numbers = record { so = λ x y h. eqb-true x y h; self = λ x. eq-eqb x x refl }

pub same_lists : {A : Type 0} {same : A → A → Bool} → Decides same → Decides (same_list same)
same_lists {A} {same} d = record { so = so; self = self }
  where
    so : (x y : List A) → same_list same x y ≡ true → x ≡ y
    so [] y h = grind arith
    so (x ∷ xs) [] h = cc
    so (x ∷ xs) (y ∷ ys) h = grind (arith, d.so, so xs ys)

    self : (x : List A) → same_list same x x ≡ true
    self [] = refl
    self (x ∷ xs) = grind (arith, d.self x, self xs)

pub all_in : {A : Type 0} (P : A → Type 0) (xs : List A) (x : A) → AllByRecursion P xs → In x xs → P x
all_in P [] x a i = absurd i
all_in P (y ∷ ys) x a (inl e) = subst P e a.0
all_in P (y ∷ ys) x a (inr i) = all_in P ys x a.1 i

module _ {A : Type 0} where
  pub in_left : (x : A) (xs ys : List A) → In x xs → In x (xs ++ ys)
  in_left x [] ys i = absurd i
  in_left x (y ∷ xs) ys i = grind (arith, in_left x xs ys)

  pub in_right : (x : A) (xs ys : List A) → In x ys → In x (xs ++ ys)
  in_right x [] ys i = i
  in_right x (y ∷ xs) ys i = inr (in_right x xs ys i)

  pub in_split : (x : A) (xs ys : List A) → In x (xs ++ ys) → In x xs ⊎ In x ys
  in_split x [] ys i = inr i
  in_split x (y ∷ xs) ys i = grind (arith, in_split x xs ys)

  pub in_get_d : (xs : List A) (i : ℕ) (d : A) → i < length xs → In (get_or xs i d) xs
  in_get_d [] i d l = absurd (omega arith)
  in_get_d (x ∷ xs) i d l = grind (arith, in_get_d xs)

  pub distinct_push : (xs : List A) (x : A) → Distinct xs → (In x xs → ⊥) → Distinct (xs ++ x ∷ [])
  distinct_push [] x d n = (λ i. i, tt)
  distinct_push (y ∷ ys) x d n = grind (arith, distinct_push ys x, in_split y ys (x ∷ []))

  pub distinct_at : (xs : List A) (i j : ℕ) (d : A) → Distinct xs → i < length xs → j < length xs → get_or xs i d ≡ get_or xs j d → i ≡ j
  distinct_at [] i j d h p q e = absurd (omega arith)
  distinct_at (x ∷ xs) i j d h p q e = grind (arith, distinct_at xs, in_get_d xs, h.0, h.1)

  module _ {same : A → A → Bool} (dec : Decides same) where
    pub has_in : (xs : List A) (x : A) → has same xs x ≡ true → In x xs
    has_in [] x h = cc
    has_in (y ∷ ys) x h = grind (arith, has_in ys x, dec.so)

    pub in_has : (xs : List A) (x : A) → In x xs → has same xs x ≡ true
    in_has [] x i = absurd i
    in_has (y ∷ ys) x i = grind (arith, in_has ys x, dec.self)

    pub not_in : (xs : List A) (x : A) → has same xs x ≡ false → In x xs → ⊥
    not_in xs x h i = cc (in_has xs x i)

    pub add_old : (b : List A) (x : A) → In x b → add same b x ≡ b
    add_old b x i = rw (in_has b x i)

    pub add_new : (b : List A) (x : A) → (In x b → ⊥) → add same b x ≡ b ++ x ∷ []
    add_new b x n = grind (arith, has_in b x)

    pub add_all_old : (b xs : List A) → ((x : A) → In x xs → In x b) → add_all same b xs ≡ b
    add_all_old b [] h = refl
    add_all_old b (x ∷ xs) h = rw (add_old b x (h x (inl refl))) (add_all_old b xs (λ y i. h y (inr i)))

    pub add_all_append : (b xs ys : List A) → add_all same b (xs ++ ys) ≡ add_all same (add_all same b xs) ys
    add_all_append b [] ys = refl
    add_all_append b (x ∷ xs) ys = add_all_append (add same b x) xs ys

    pub place_in : (xs : List A) (x d : A) → In x xs → (place same xs x < length xs) × (get_or xs (place same xs x) d ≡ x)
    place_in [] x d i = absurd i
    place_in (y ∷ ys) x d i = grind (arith, place_in ys x d, dec.so, dec.self)

    pub place_out : (xs : List A) (x : A) → (In x xs → ⊥) → place same xs x ≡ length xs
    place_out [] x n = refl
    place_out (y ∷ ys) x n = grind (arith, place_out ys x, dec.so)

    pub place_at : (xs : List A) (i : ℕ) (d : A) → Distinct xs → i < length xs → place same xs (get_or xs i d) ≡ i
    place_at xs i d h l = let p = place_in xs (get_or xs i d) d (in_get_d xs i d l) in distinct_at xs (place same xs (get_or xs i d)) i d h p.0 l p.1

    in_add : (b : List A) (x y : A) → In x (add same b y) → In x b ⊎ (y ≡ x)
    in_add b x y i = grind (arith, in_split x b (y ∷ []))

    add_in : (b : List A) (x y : A) → In x b ⊎ (y ≡ x) → In x (add same b y)
    add_in b x y i = grind (arith, has_in b y, in_left x b (y ∷ []), in_right x b (y ∷ []))

    pub in_add_all : (b ys : List A) (x : A) → In x (add_all same b ys) → In x b ⊎ In x ys
    in_add_all b [] x i = inl i
    in_add_all b (y ∷ ys) x i = grind (arith, in_add_all (add same b y) ys x i, in_add b x y)

    pub add_all_in : (b ys : List A) (x : A) → In x b ⊎ In x ys → In x (add_all same b ys)
    add_all_in b [] x i = grind arith
    add_all_in b (y ∷ ys) x i = grind (arith, add_all_in (add same b y) ys x, add_in b x y)

    distinct_add : (b : List A) (y : A) → Distinct b → Distinct (add same b y)
    distinct_add b y d = grind (arith, distinct_push b y, not_in b y)

    pub distinct_add_all : (b ys : List A) → Distinct b → Distinct (add_all same b ys)
    distinct_add_all b [] d = d
    distinct_add_all b (y ∷ ys) d = distinct_add_all (add same b y) ys (distinct_add b y d)

    -- what is there stays in its place
    pub add_longer : (b : List A) (y : A) → (r : List A) × (add same b y ≡ b ++ r)
    add_longer b y = (cond (has same b y) [] (y ∷ []), grind (arith, append-nil b))

    pub add_all_longer : (b ys : List A) → (r : List A) × (add_all same b ys ≡ b ++ r)
    add_all_longer b [] = ([], sym (append-nil b))
    add_all_longer b (y ∷ ys) = let p = add_longer b y in let q = add_all_longer (add same b y) ys in (p.0 ++ q.0, cc (p.1, q.1, append_assoc b p.0 q.0))

-- the tails, by what stands before them
pub tail_in : {A : Type 0} (fs t : List A) → In t (tails fs) → (pre : List A) × (fs ≡ pre ++ t) × (t ≡ [] → ⊥)
tail_in [] t i = absurd i
tail_in (x ∷ xs) t i = elim (in_split t (tails xs) ((x ∷ xs) ∷ []) i) [
  | inl j ↦ let p = tail_in xs t j in (x ∷ p.0, cc p.1, p.2)
  | inr (inl e) ↦ ([], e, λ n. cc)
  | inr (inr j) ↦ absurd j
]

pub in_tail : {A : Type 0} (pre t : List A) → (t ≡ [] → ⊥) → In t (tails (pre ++ t))
in_tail [] [] n = absurd (n refl)
in_tail [] (x ∷ xs) n = in_right (x ∷ xs) (tails xs) ((x ∷ xs) ∷ []) (inl refl)
in_tail (y ∷ pre) t n = in_left t (tails (pre ++ t)) ((y ∷ (pre ++ t)) ∷ []) (in_tail pre t n)

-- Of two lists, by a step for each two that stand at one place.
pub by_zip : {A B : Type 0} (R : A → B → Type 0) (P : List A → List B → Type 0) → P [] []
    → ((x : A) (u : B) (xs : List A) (us : List B) → R x u → AllZip R xs us → P xs us → P (x ∷ xs) (u ∷ us)) → (xs : List A) (us : List B) → AllZip R xs us → P xs us
by_zip R P n s [] [] a = n
by_zip R P n s (x ∷ xs) (u ∷ us) a = s x u xs us a.0 a.1 (by_zip R P n s xs us a.1)
by_zip R P n s xs us a = absurd a

-- A map that keeps the tests keeps what is made by them.
module _ {A B : Type 0} (sameA : A → A → Bool) (sameB : B → B → Bool) (R : A → B → Type 0)
    (keep : (x y : A) (u v : B) → R x u → R y v → sameA x y ≡ sameB u v) where
  pub has2 : (xs : List A) (us : List B) (y : A) (v : B) → AllZip R xs us → R y v → has sameA xs y ≡ has sameB us v
  has2 xs us y v a r = by_zip R (λ ps qs. has sameA ps y ≡ has sameB qs v) refl (λ x u ps qs p b ih. ap₂ ◌||◌ (keep x y u v p r) ih) xs us a

  pub place2 : (xs : List A) (us : List B) (y : A) (v : B) → AllZip R xs us → R y v → place sameA xs y ≡ place sameB us v
  place2 xs us y v a r = by_zip R (λ ps qs. place sameA ps y ≡ place sameB qs v) refl (λ x u ps qs p b ih. rw (keep x y u v p r, ih)) xs us a

  pub add2 : (xs : List A) (us : List B) (y : A) (v : B) → AllZip R xs us → R y v → AllZip R (add sameA xs y) (add sameB us v)
  add2 xs us y v a r = rw (has2 xs us y v a r) (cond_zip (has sameB us v))
    where
      cond_zip : (t : Bool) → AllZip R (cond t xs (xs ++ y ∷ [])) (cond t us (us ++ v ∷ []))
      cond_zip true = a
      cond_zip false = all_zipped_more R xs us y v a r

  pub add_all2 : (xs : List A) (us : List B) (ys : List A) (vs : List B) → AllZip R xs us → AllZip R ys vs → AllZip R (add_all sameA xs ys) (add_all sameB us vs)
  add_all2 xs us ys vs a r =
      by_zip R (λ ps qs. (xs : List A) (us : List B) → AllZip R xs us → AllZip R (add_all sameA xs ps) (add_all sameB us qs)) (λ xs us a. a)
      (λ y v ps qs p b ih xs us a. ih (add sameA xs y) (add sameB us v) (add2 xs us y v a p)) ys vs r xs us a

  pub same_list2 : (xs ys : List A) (us vs : List B) → AllZip R xs us → AllZip R ys vs → same_list sameA xs ys ≡ same_list sameB us vs
  same_list2 xs ys us vs a b =
      by_zip R (λ ps qs. (ys : List A) (vs : List B) → AllZip R ys vs → same_list sameA ps ys ≡ same_list sameB qs vs)
      (by_zip R (λ ys vs. same_list sameA [] ys ≡ same_list sameB [] vs) refl (λ y v ys vs q d ih. refl))
      (λ x u ps qs p c ih. by_zip R (λ ys vs. same_list sameA (x ∷ ps) ys ≡ same_list sameB (u ∷ qs) vs) refl (λ y v ys vs q d jh. ap₂ ◌&&◌ (keep x y u v p q) (ih ys vs d)))
      xs us a ys vs b

pub weaken2 : {A B : Type 0} (R S : A → B → Type 0) (xs : List A) (us : List B) → ((x : A) (u : B) → R x u → S x u) → AllZip R xs us → AllZip S xs us
weaken2 R S xs us f a = by_zip R (AllZip S) tt (λ x u ps qs p b ih. (f x u p, ih)) xs us a

-- tails of related lists are related
pub tails2 : {A B : Type 0} (R : A → B → Type 0) (xs : List A) (us : List B) → AllZip R xs us → AllZip (AllZip R) (tails xs) (tails us)
tails2 R xs us a =
    by_zip R (λ ps qs. AllZip (AllZip R) (tails ps) (tails qs)) tt (λ x u ps qs p b ih. all_zipped_more (AllZip R) (tails ps) (tails qs) (x ∷ ps) (u ∷ qs) ih (p, b)) xs us a

-- equal images, one for one
pub map2 : {A B C : Type 0} (R : A → B → Type 0) (f : A → C) (g : B → C) → ((x : A) (u : B) → R x u → g u ≡ f x) → (xs : List A) (us : List B) → AllZip R xs us → map g us ≡ map f xs
map2 R f g h xs us a = by_zip R (λ ps qs. map g qs ≡ map f ps) refl (λ x u ps qs p b ih. ap₂ ◌∷◌ (h x u p) ih) xs us a

pub get_or2 : {A B : Type 0} (R : A → B → Type 0) (xs : List A) (us : List B) (i : ℕ) (d : A) (e : B) → i < length xs → AllZip R xs us → R (get_or xs i d) (get_or us i e)
get_or2 R (x ∷ xs) (u ∷ us) zero d e l a = a.0
get_or2 R (x ∷ xs) (u ∷ us) (suc i) d e l a = get_or2 R xs us i d e (omega arith) a.1
get_or2 R (x ∷ xs) [] i d e l a = absurd a
get_or2 R [] us i d e l a = absurd (omega arith)

pub map_in : {A B : Type 0} (f : A → B) (y : B) (xs : List A) → In y (map f xs) → (x : A) × In x xs × (f x ≡ y)
map_in f y [] i = absurd i
map_in f y (x ∷ xs) i = grind (arith, map_in f y xs)

-- what stands in lists joined end to end
pub in_flat : {A B : Type 0} (f : A → List B) (y : B) (x : A) (xs : List A) → In x xs → In y (f x) → In y (flat_map f xs)
in_flat f y x [] i j = absurd i
in_flat f y x (z ∷ xs) (inl e) j = in_left y (f z) (flat_map f xs) (rw e j)
in_flat f y x (z ∷ xs) (inr i) j = in_right y (f z) (flat_map f xs) (in_flat f y x xs i j)

pub flat_in : {A B : Type 0} (f : A → List B) (y : B) (xs : List A) → In y (flat_map f xs) → (x : A) × In x xs × In y (f x)
flat_in f y [] i = absurd i
flat_in f y (z ∷ xs) i = elim (in_split y (f z) (flat_map f xs) i) [ inl j ↦ (z, inl refl, j) | inr j ↦ let p = flat_in f y xs j in (p.0, inr p.1, p.2) ]
