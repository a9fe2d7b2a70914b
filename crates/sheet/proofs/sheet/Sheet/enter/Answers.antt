use Rattle.std.proofs.Common.{arith}
use Rattle.layout.proofs.Keep.{out}
use Rattle.layout.proofs.Enter.{after, made_some, made_none}
use Rattle.sheet.proofs.sheet.Sheet.enter.Goals as goal

pub invariant_of-self : goal.invariant_of-self
invariant_of-self c =
    let s = c.args.self.now in
    let t = c.find_or_add.new.self in
    let a = after s.types t s.fields c.args.row s.types_within s.types_usable (out s.good) c.requires.fit c.find_or_add.result c.requires.plain c.find_or_add.ensures.place in
    record {
      types_within = omega arith;
      types_usable = omega arith;
      types_most = omega arith;
      fields_within = s.fields_within;
      fields_usable = s.fields_usable;
      fields_most = s.fields_most;
      good = ∣ a.0 ∣₁;
    }

pub returns-in-Some : goal.returns-in-Some
returns-in-Some c =
    let s = c.args.self.now in
    rw c.number_at.ensures (made_some s.types c.find_or_add.new.self s.fields c.args.row s.types_within s.types_usable (out s.good) c.requires.fit _ c.find_or_add.ensures.cap c.in-Some.ensures.place)

pub returns-in-None : goal.returns-in-None
returns-in-None c =
    let s = c.args.self.now in
    made_none s.types c.find_or_add.new.self s.fields c.args.row s.types_within s.types_usable (out s.good) c.requires.fit c.find_or_add.ensures.cap c.in-None.ensures.place
