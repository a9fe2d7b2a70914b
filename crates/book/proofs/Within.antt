-- The containers listed of a type are those that stand in it.
use Rattle.std.proofs.Common.{List, [], ◌∷◌, ◌++◌, refl, subst, inl, inr, append_assoc}
use Rattle.grammar.specs.Lists.{In}
use Rattle.grammar.specs.Shape.{Shape, Shapes, basic, array, maybe, dict, structure, nil, more}
use Rattle.grammar.specs.Parts.{containers, containers_all, Container, Within, itself, element, content, key, value, field, WithinAny, first, later}
use Rattle.book.proofs.Lists.{in_left, in_right, in_split}

-- the type itself stands at the end
ended : (s : Shape) → Container s → (xs : List Shape) (c : Shape) → (In c xs → Within c s × Container c) → In c (xs ++ s ∷ []) → Within c s × Container c
ended s k xs c f i = elim (in_split c xs (s ∷ []) i) [
  | inl j ↦ f j
  | inr (inl e) ↦ subst (λ (z : Shape). Within z s × Container z) e (itself, k)
  | inr (inr j) ↦ absurd j
]

-- a container is one of the containers of a type just where it stands in the type
mutual
  pub within : (s c : Shape) → In c (containers s) → Within c s × Container c
  within (basic b h) c i = absurd i
  within (array t) c i = ended (array t) tt (containers t) c (λ j. let p = within t c j in (element p.0, p.1)) i
  within (maybe t) c i = ended (maybe t) tt (containers t) c (λ j. let p = within t c j in (content p.0, p.1)) i
  within (dict k v) c i = elim (in_split c (containers k) (containers v ++ dict k v ∷ []) i) [
    | inl j ↦ let p = within k c j in (key p.0, p.1)
    | inr j ↦ ended (dict k v) tt (containers v) c (λ j. let p = within v c j in (value p.0, p.1)) j
  ]
  within (structure t ts) c i = elim (in_split c (containers t) (containers_all ts ++ structure t ts ∷ []) i) [
    | inl j ↦ let p = within t c j in (field (first p.0), p.1)
    | inr j ↦ ended (structure t ts) tt (containers_all ts) c (λ j. let p = withins ts c j in (field (later p.0), p.1)) j
  ]

  pub withins : (ts : Shapes) (c : Shape) → In c (containers_all ts) → WithinAny c ts × Container c
  withins nil c i = absurd i
  withins (more t ts) c i = elim (in_split c (containers t) (containers_all ts) i) [
    | inl j ↦ let p = within t c j in (first p.0, p.1)
    | inr j ↦ let p = withins ts c j in (later p.0, p.1)
  ]

own : (c : Shape) → Container c → In c (containers c)
own (basic b h) k = absurd k
own (array t) k = in_right _ (containers t) _ (inl refl)
own (maybe t) k = in_right _ (containers t) _ (inl refl)
own (dict a b) k = in_right _ (containers a) _ (in_right _ (containers b) _ (inl refl))
own (structure t ts) k = in_right _ (containers t) _ (in_right _ (containers_all ts) _ (inl refl))

mutual
  pub met : {c s : Shape} → Within c s → Container c → In c (containers s)
  met {c} itself k = own c k
  met {c} (element {t = t} w) k = in_left c (containers t) _ (met w k)
  met {c} (content {t = t} w) k = in_left c (containers t) _ (met w k)
  met {c} (key {k = a} {v = b} w) k = in_left c (containers a) _ (met w k)
  met {c} (value {k = a} {v = b} w) k = in_right c (containers a) _ (in_left c (containers b) _ (met w k))
  met {c} (field {t = t} {ts = ts} w) k = subst (λ (z : List Shape). In c z) (append_assoc (containers t) (containers_all ts) (structure t ts ∷ [])) (in_left c (containers t ++ containers_all ts) _ (mets w k))

  pub mets : {c : Shape} {ts : Shapes} → WithinAny c ts → Container c → In c (containers_all ts)
  mets {c} (first {t = t} {ts = ts} w) k = in_left c (containers t) _ (met w k)
  mets {c} (later {t = t} {ts = ts} w) k = in_right c (containers t) _ (mets w k)
