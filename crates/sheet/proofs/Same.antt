-- Sheets that are the same.
use Rattle.std.proofs.Common.{◌≡◌, ◌≤◌, length}
use mathlib.Core.HLevel.{is_prop→PathP}
use mathlib.Core.Logic.{∥∥₁_prop}
use native.Mathlib.Bridge.{le_prop}
use Rattle.layout.specs.Kept.{Kept}
use Rattle.sheet.specs.declared.sheet.Sheet.{Sheet}

-- two sheets over the same lists of rows are the same
pub same_sheet : (a b : Sheet) → a.types ≡ b.types → a.fields ≡ b.fields → a ≡ b
same_sheet a b p q = λ i. record {
  types = p i;
  fields = q i;
  types_within = is_prop→PathP (λ j. (p j).count ≤ (p j).cap) (λ j. le_prop) a.types_within b.types_within i;
  types_usable = is_prop→PathP (λ j. (p j).cap ≤ length (p j).rows.now) (λ j. le_prop) a.types_usable b.types_usable i;
  types_most = is_prop→PathP (λ j. (p j).cap ≤ 65520) (λ j. le_prop) a.types_most b.types_most i;
  fields_within = is_prop→PathP (λ j. (q j).count ≤ (q j).cap) (λ j. le_prop) a.fields_within b.fields_within i;
  fields_usable = is_prop→PathP (λ j. (q j).cap ≤ length (q j).rows.now) (λ j. le_prop) a.fields_usable b.fields_usable i;
  fields_most = is_prop→PathP (λ j. (q j).cap ≤ 65535) (λ j. le_prop) a.fields_most b.fields_most i;
  good = is_prop→PathP (λ j. ∥ Kept (p j).rows.now (p j).count (q j).rows.now (q j).count ∥₁) (λ j. ∥∥₁_prop) a.good b.good i;
}
