-- The formats and their names.
use Rattle.std.specs.Prelude.{ℕ, List, codes}
use Rattle.book.specs.Questions.{dbus, gvariant}
use Rattle.book.specs.Questions
use Rattle.layout.specs.declared.serialized.Format.{Format}
use Rattle.layout.specs.declared.serialized.Format.TheVariants.{DBus, GVariant}

abbrev pub name_of : Format → List ℕ
name_of DBus = codes "D-Bus"
name_of GVariant = codes "GVariant"

abbrev pub format_of : Format → Questions.Format
format_of DBus = dbus
format_of GVariant = gvariant
