-- How deep the structures of a shape are nested, and its arrays and dictionaries.
use Rattle.std.specs.Prelude.{ℕ, ◌+◌, max}
use Rattle.grammar.specs.Shape.{Shape, Shapes, basic, array, dict, structure, maybe, nil, more}

-- The greatest number of structures met from the whole down to any part.
abbrev mutual
  pub structure_depth : Shape → ℕ
  structure_depth (basic c h) = 0
  structure_depth (array t) = structure_depth t
  structure_depth (dict k v) = max (structure_depth k) (structure_depth v)
  structure_depth (structure t ts) = max (structure_depth t) (structure_depths ts) + 1
  structure_depth (maybe t) = structure_depth t

  pub structure_depths : Shapes → ℕ
  structure_depths nil = 0
  structure_depths (more t ts) = max (structure_depth t) (structure_depths ts)

-- The greatest number of arrays and dictionaries met so; a dictionary counts once.
abbrev mutual
  pub array_depth : Shape → ℕ
  array_depth (basic c h) = 0
  array_depth (array t) = array_depth t + 1
  array_depth (dict k v) = max (array_depth k) (array_depth v) + 1
  array_depth (structure t ts) = max (array_depth t) (array_depths ts)
  array_depth (maybe t) = array_depth t

  pub array_depths : Shapes → ℕ
  array_depths nil = 0
  array_depths (more t ts) = max (array_depth t) (array_depths ts)
