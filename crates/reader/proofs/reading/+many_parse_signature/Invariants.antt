use Rattle.std.proofs.Common.{◌≡◌, ◌+◌, ◌-◌, ◌*◌, ◌≤◌, [], ◌∷◌, length}
use Rattle.grammar.specs.Scan.{others}
use Rattle.reader.proofs.Joins.{Behind, Entered}
use Rattle.reader.proofs.reading.+many_parse_signature.Given as goal

abbrev pub decreases-many : goal.decreases-many
decreases-many l = 2 * (length l.cursor.now.text.now - l.cursor.now.at) + 1

abbrev pub decreases-parse_signature : goal.decreases-parse_signature
decreases-parse_signature l = 2 * (length l.cursor.now.text.now - l.cursor.now.at)

abbrev pub invariant-many-loop-cursor : goal.invariant-many-loop-cursor
invariant-many-loop-cursor l =
    (l.cursor.text.now ≡ l.initial.cursor.text.now)
    × Entered l.initial.cursor.text.now l.initial.cursor.at (others l.structures l.arrays ∷ []) l.cursor.at (others l.structures l.arrays ∷ [])

abbrev pub decreases-many-loop-cursor : goal.decreases-many-loop-cursor
decreases-many-loop-cursor l = length l.cursor.text.now - l.cursor.at

abbrev pub invariant-parse_signature-loop-b : goal.invariant-parse_signature-loop-b
invariant-parse_signature-loop-b l =
    (l.cursor.text.now ≡ l.initial.cursor.text.now) × (l.initial.cursor.at ≤ l.cursor.at)
    × Behind l.initial.cursor.text.now l.initial.cursor.at l.cursor.at

abbrev pub decreases-parse_signature-loop-b : goal.decreases-parse_signature-loop-b
decreases-parse_signature-loop-b l = length l.cursor.text.now - l.cursor.at
