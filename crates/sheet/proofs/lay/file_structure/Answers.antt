use Rattle.std.proofs.Common.{◌≡◌, ap, ◌∙◌, arith}
use Rattle.rows.specs.declared.RowList.{RowList}
use Rattle.layout.specs.declared.row.FieldRow.{FieldRow}
use Rattle.layout.specs.Tails.{blank_field}
use Rattle.layout.specs.Grown.{Cut}
use Rattle.layout.proofs.Lays.{laid_as}
use Rattle.sheet.proofs.Structs.{made_filed, whole_filed, made_full, whole_full}
use Rattle.sheet.proofs.lay.file_structure.Goals as goal

cap_was : (a b c : RowList FieldRow) → a.cap ≡ b.cap → b ≡ c → a.cap ≡ c.cap
cap_was a b c p e = p ∙ ap (λ (x : RowList FieldRow). x.cap) e

pub returns-in-Some-find_or_add : goal.returns-in-Some-find_or_add
returns-in-Some-find_or_add c =
    let t = c.args.types.now in
    let f = c.args.fields.now in
    let same = c.len-start.ensures.same in
    let d = laid_as _ f c.args.fs.now 0 _ _ _ same c.in-Some.ensures.laid in
    let e = cap_was c.lay.new.list c.len-start.new.self f c.lay.ensures.cap same in
    record {
      made = rw c.number_at.ensures (made_filed t f c.lay.new.list c.args.fs.now c.args.figures c.in-Some.first c.requires.whole c.requires.structure e d c.find_or_add.new.self c.find_or_add.ensures.cap c.in-Some-find_or_add.i c.in-Some-find_or_add.ensures.place);
      whole = whole_filed t f c.lay.new.list c.args.fs.now c.args.figures c.in-Some.first c.requires.whole c.requires.structure e d c.find_or_add.new.self c.find_or_add.ensures.cap c.in-Some-find_or_add.i c.in-Some-find_or_add.ensures.place;
    }

pub returns-in-None : goal.returns-in-None
returns-in-None c =
    let t = c.args.types.now in
    let f = c.args.fields.now in
    let w = c.requires.whole in
    let same = c.len-start.ensures.same in
    let d = laid_as _ f c.args.fs.now 0 _ _ _ same c.in-Some.ensures.laid in
    let e = cap_was c.lay.new.list c.len-start.new.self f c.lay.ensures.cap same in
    let m : c.len-start.result ≡ f.count = omega (arith, c.len-start.ensures.count, w.fields_within, w.fields_usable) in
    let x = c.truncate.ensures in
    let cut : Cut blank_field c.len-start.result c.lay.new.list c.truncate.new.self = record { count = x.count; cap = x.cap; long = x.long; below = x.below; above = x.above; between = x.between } in
    record {
      made = made_full t f c.lay.new.list c.args.fs.now c.args.figures c.in-Some.first w c.requires.structure e d c.find_or_add.new.self c.find_or_add.ensures.cap c.truncate.new.self _ m c.in-None.ensures.place cut;
      whole = whole_full t f c.lay.new.list c.args.fs.now c.args.figures c.in-Some.first w c.requires.structure e d c.find_or_add.new.self c.find_or_add.ensures.cap c.truncate.new.self _ m c.in-None.ensures.place cut;
    }
