-- A maker and what came of it, after no call, by one call after another, and what the calls keep.
use Rattle.std.proofs.Common.{refl, ◌∙◌}
use Rattle.book.specs.Plain.{Limits}
use Rattle.building.specs.Building.{Goes}

pub goes_still : {M : Type 0} {P : M → M → Type 0} {L : M → Limits} {m : M} → Goes P L m m
goes_still = record { grew = λ x p. p; limits = refl }

pub goes_on : {M : Type 0} {P : M → M → Type 0} {L : M → Limits} {m m' m'' : M} → Goes P L m m' → Goes P L m' m'' → Goes P L m m''
goes_on g h = record { grew = λ x p. h.grew x (g.grew x p); limits = h.limits ∙ g.limits }

-- What the calls keep, of a maker and what came of it.
pub goes_from : {M : Type 0} {P : M → M → Type 0} {L : M → Limits} {m m' : M} → Goes P L m m' → P m m → P m m'
goes_from g p = g.grew _ p
