use Rattle.std.proofs.Common.{◌≡◌, ◌-◌, ◌≤◌, length, drop}
use Rattle.grammar.specs.Valid.{Valid}
use Rattle.grammar.specs.Scan.{run, top}
use Rattle.reader.proofs.Counts.{Row}
use Rattle.reader.proofs.reading.parse_all.Given as goal

abbrev pub invariant-loop-cursor : goal.invariant-loop-cursor
invariant-loop-cursor l =
    (l.cursor.text.now ≡ l.text) × (run top l.text ≡ run top (drop l.cursor.at l.text)) × (l.types ≤ l.cursor.at)
    × ((v : Valid l.text) → Row l.text l.cursor.at l.types v.shapes)

abbrev pub decreases-loop-cursor : goal.decreases-loop-cursor
decreases-loop-cursor l = length l.cursor.text.now - l.cursor.at
