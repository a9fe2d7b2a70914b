-- The parts of a shape.
use Rattle.std.specs.Prelude.{List, [], ◌∷◌, ◌++◌}
use Rattle.grammar.specs.Shape.{Shape, Shapes, basic, array, dict, structure, maybe, nil, more}

-- The containers in a type, parts before wholes, left before right.
abbrev mutual
  pub containers : Shape → List Shape
  containers (basic c h) = []
  containers (array t) = containers t ++ array t ∷ []
  containers (dict k v) = containers k ++ (containers v ++ dict k v ∷ [])
  containers (structure t ts) = containers t ++ (containers_all ts ++ structure t ts ∷ [])
  containers (maybe t) = containers t ++ maybe t ∷ []

  pub containers_all : Shapes → List Shape
  containers_all nil = []
  containers_all (more t ts) = containers t ++ containers_all ts

abbrev pub listed : Shapes → List Shape
listed nil = []
listed (more t ts) = t ∷ listed ts

-- the fields of a structure; of any other type none
abbrev pub fields : Shape → List Shape
fields (basic c h) = []
fields (array t) = []
fields (dict k v) = []
fields (structure t ts) = t ∷ listed ts
fields (maybe t) = []

-- a type that is no basic type
abbrev pub Container : Shape → Type 0
Container (basic c h) = ⊥
Container (array t) = Unit {0}
Container (maybe t) = Unit {0}
Container (dict k v) = Unit {0}
Container (structure t ts) = Unit {0}

-- c is the type, or a part of it
mutual
  pub data Within (c : Shape) : Shape → Type 0 where
    itself : Within c c
    element : {t : Shape} → Within c t → Within c (array t)
    content : {t : Shape} → Within c t → Within c (maybe t)
    key : {k v : Shape} → Within c k → Within c (dict k v)
    value : {k v : Shape} → Within c v → Within c (dict k v)
    field : {t : Shape} {ts : Shapes} → WithinAny c (more t ts) → Within c (structure t ts)

  pub data WithinAny (c : Shape) : Shapes → Type 0 where
    first : {t : Shape} {ts : Shapes} → Within c t → WithinAny c (more t ts)
    later : {t : Shape} {ts : Shapes} → WithinAny c ts → WithinAny c (more t ts)
