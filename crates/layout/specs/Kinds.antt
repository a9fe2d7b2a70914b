-- The kinds of container, and their numbers.
use Rattle.std.specs.Prelude.{ℕ}
use Rattle.layout.specs.declared.row.Kind.{Kind}
use Rattle.layout.specs.declared.row.Kind.TheVariants.{Blank, Array, Dict, Structure, Maybe}

abbrev pub kind_number : Kind → ℕ
kind_number Blank = 0
kind_number Array = 1
kind_number Dict = 2
kind_number Structure = 3
kind_number Maybe = 4
