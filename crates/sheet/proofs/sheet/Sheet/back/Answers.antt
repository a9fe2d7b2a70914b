use Rattle.std.proofs.Common.{length, ap, arith}
use Rattle.layout.proofs.Keep.{out}
use Rattle.layout.proofs.Undo.{kept_same}
use Rattle.sheet.proofs.FromText.{cut_back}
use Rattle.sheet.proofs.sheet.Sheet.back.Goals as goal

pub invariant_of-self : goal.invariant_of-self
invariant_of-self c =
    let s = c.requires.0 in
    let u = cut_back s c.args.self.now _ _ _ _ c.requires.1 c.cut.ensures.types c.cut.ensures.fields in
    let a = ap length u.types.rows in
    let b = ap length u.fields.rows in
    record {
      types_within = omega (arith, u.types.count, u.types.cap, s.types_within);
      types_usable = omega (arith, a, u.types.cap, s.types_usable);
      types_most = omega (arith, u.types.cap, s.types_most);
      fields_within = omega (arith, u.fields.count, u.fields.cap, s.fields_within);
      fields_usable = omega (arith, b, u.fields.cap, s.fields_usable);
      fields_most = omega (arith, u.fields.cap, s.fields_most);
      good = ∣ kept_same s.types s.fields _ _ u (out s.good) ∣₁;
    }

pub returns : goal.returns
returns c = λ s w. cut_back s c.args.self.now _ _ _ _ w c.cut.ensures.types c.cut.ensures.fields
