use Rattle.layout.proofs.Keep.{out}
use Rattle.sheet.proofs.sheet.Sheet.structure_of.Goals as goal

pub file_structure-requires : goal.file_structure-requires
file_structure-requires c =
    let s = c.args.self.now in
    record {
      whole = record {
        types_within = s.types_within;
        types_usable = s.types_usable;
        types_most = s.types_most;
        fields_within = s.fields_within;
        fields_usable = s.fields_usable;
        fields_most = s.fields_most;
        kept = out s.good;
      };
      structure = c.requires;
    }

pub invariant_of-self : goal.invariant_of-self
invariant_of-self c =
    let w = c.file_structure.ensures.whole in
    record {
      types_within = w.types_within;
      types_usable = w.types_usable;
      types_most = w.types_most;
      fields_within = w.fields_within;
      fields_usable = w.fields_usable;
      fields_most = w.fields_most;
      good = ∣ w.kept ∣₁;
    }

pub returns : goal.returns
returns c = c.file_structure.ensures.made
