use Rattle.std.proofs.Common.{◌≡◌, ℕ, ◌-◌, List, length, get_or, ap, ◌∙◌, subst, arith}
use Rattle.rows.specs.declared.RowList.{RowList}
use Rattle.rows.specs.Found.{Place, Refused}
use Rattle.layout.specs.declared.row.FieldRow.{FieldRow}
use Rattle.layout.specs.Tails.{field_key}
use Rattle.layout.proofs.Lays.{laid_step, no_room, ready_as, no_room_as}
use Rattle.sheet.proofs.Backwards.{last_of}
use Rattle.sheet.proofs.lay.lay.Goals as goal

-- the field row of a turn
row_is : (fs : List ℕ) (j i field next : ℕ) → field ≡ get_or fs j 0 → i ≡ j
    → ◌≡◌ {A = FieldRow} (record { field = field; next = next; count = length fs - i }) (record { field = get_or fs j 0; next = next; count = length fs - j })
row_is fs j i field next e q = cc

pub loop-i-preserved : goal.loop-i-preserved
loop-i-preserved c =
    let v = c.loop-i.invariant in
    let h = c.in-Some.ensures.steps in
    let z = last_of c.args.fs.now c.loop-i.i-iterator.iter.iter.rest.now _ _ 0 v.rest h.1.0 in
    record {
      laid = laid_step _ _ _ _ _ _ _ _ _ _ _ _ _ v.laid z.long z.below (row_is c.args.fs.now _ c.in-Some.i _ _ z.item (omega (arith, h.1.1)))
          (subst (λ (u : ℕ). Place field_key c.loop-i.list.rows.now c.loop-i.list.count u (record { field = c.in-Some.field.now; next = c.loop-i.next; count = length c.args.fs.now - c.in-Some.i }) c.find_or_add.new.self.rows.now c.find_or_add.new.self.count c.in-Some-find_or_add.at) v.cap c.in-Some-find_or_add.ensures.place);
      cap = c.find_or_add.ensures.cap ∙ v.cap;
      rest = z.front;
      from = h.0 ∙ v.from;
    }

pub returns-in-None-find_or_add-clause-laid : goal.returns-in-None-find_or_add-clause-laid
returns-in-None-find_or_add-clause-laid c =
    let v = c.loop-i.invariant in
    let h = c.in-Some.ensures.steps in
    let e = c.len-start.ensures.same in
    let r = ready_as _ _ e c.requires.ready in
    let z = last_of c.args.fs.now c.loop-i.i-iterator.iter.iter.rest.now _ _ 0 v.rest h.1.0 in
    let x = c.truncate.ensures in
    let m : c.len-start.result ≡ c.len-start.new.self.count = omega (arith, c.len-start.ensures.count, r.within, r.usable, ap (λ (x : RowList FieldRow). x.count) e, ap (λ (x : RowList FieldRow). length x.rows.now) e) in
    no_room_as _ _ _ _ _ e
    (no_room _ _ _ _ _ _ _ _ _ _ _ _ _ _ r v.laid z.long z.below (row_is c.args.fs.now _ c.in-Some.i _ _ z.item (omega (arith, h.1.1)))
    (subst (λ (u : ℕ). Refused field_key c.loop-i.list.rows.now c.loop-i.list.count u (record { field = c.in-Some.field.now; next = c.loop-i.next; count = length c.args.fs.now - c.in-Some.i }) c.find_or_add.new.self.rows.now c.find_or_add.new.self.count) v.cap c.in-None-find_or_add.ensures.place)
    (omega (arith, x.count)) x.long (λ k d h. x.below k d (omega arith)) x.above (λ k d h. x.between k d (omega arith)))
