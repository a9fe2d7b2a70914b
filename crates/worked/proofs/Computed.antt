-- The whole table, by one computation.
use Rattle.std.proofs.Common.{refl}
use Rattle.grammar.specs.Shape.{is_basic}
use Rattle.grammar.specs.Scan.{begin, step, final, run, fault}
use Rattle.grammar.specs.Read.{front, read_type, read_rest, reading, read_types, read_all}
use Rattle.grammar.specs.Figures.{text_figures}
use Rattle.book.specs.Plain.{call}
use Rattle.book.specs.Rows.{type_key_of, field_key_of}
use Rattle.book.specs.Questions.{figure_of, alignment_of}
use Rattle.forms.specs.Forms.{bare_text, byte_of}
use Rattle.printing.specs.Forms.{eq_text_of}
use Rattle.worked.specs.Table.{TableHolds}

pub holds : TableHolds
unfolding is_basic begin step final run fault front read_type read_rest reading read_types read_all text_figures call type_key_of field_key_of figure_of alignment_of bare_text byte_of eq_text_of
holds = refl
