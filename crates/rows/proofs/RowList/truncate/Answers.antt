use Rattle.std.proofs.Common.{rules, ◌≡◌, ℕ, ◌<◌, length, get_or, arith}
use Rattle.std.proofs.lemmas.List.{places}
use Rattle.rows.proofs.Filled.{filled}
use Rattle.rows.proofs.RowList.truncate.Goals as goal
use Rattle.rows.proofs.RowList.truncate.Goals.{then-to-n, else-to-n}

pub returns-clause-between : goal.returns-clause-between
returns-clause-between g c = elim c.if-to-n.branch [
  | then-to-n w ↦ let f : (k : ℕ) (d : g.row.R.Denot) → k < length w.fill_with.new.self → get_or w.fill_with.new.self k d ≡ c.args.blank = filled _ _ _ _ _ (λ x r s. search rules) w.fill_with.ensures.ran.1 in
      λ k d a b e. search (rules, places, f)
  | else-to-n w ↦ λ k d a b e. absurd (omega arith)
]
