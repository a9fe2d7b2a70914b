use Rattle.std.proofs.Common.{sym, ◌∙◌}
use Rattle.building.proofs.Codes.{found_code, no_code_found}
use Rattle.building.proofs.entering.code_number.Goals as goal

pub returns-in_err-i : goal.returns-in_err-i
returns-in_err-i c = rw c.from_residual.ensures (no_code_found _ (sym c.place_of.ensures ∙ c.in_err-i.was))

pub returns : goal.returns
returns c = found_code _ _ (sym c.place_of.ensures ∙ c.in_ok-i.was)
