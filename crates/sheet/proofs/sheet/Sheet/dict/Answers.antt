use Rattle.std.proofs.Common.{[], ◌∷◌, refl, ◌∙◌}
use Rattle.book.specs.Nodes.{dict}
use Rattle.sheet.proofs.Shown.{exit_outcome}
use Rattle.layout.specs.Kept.{nodes_of}
use Rattle.sheet.proofs.Makes.{known_bounded, fit_dict, made_as, made_still, dict_unknown, dict_unknown_1, dict_unit, dict_unit_1, dict_long, dict_good}
use Rattle.sheet.proofs.Texts.{called_dict}
use Rattle.sheet.proofs.sheet.Sheet.dict.Goals as goal

pub returns-in_err-key : goal.returns-in_err-key
returns-in_err-key c =
    let s = c.args.self.now in
    let u = c.in_err-key.ensures.figures in
    let m = made_still s c.figures.new.self 3 (0 ∷ []) _ c.figures.ensures.same (dict_unknown s.types.cap (nodes_of s.types s.fields) c.args.k c.args.v u.unknown) in
    rw (exit_outcome _ _ c.from_residual.ensures.1, u.refusal) (record { called = called_dict s c.figures.new.self _ c.args.k c.args.v m; made = m })

pub returns-in_err-value : goal.returns-in_err-value
returns-in_err-value c =
    let s = c.args.self.now in
    let u = rw c.figures.ensures.same at c.in_err-value.ensures.figures in
    let m =
    made_still s c.figures-2.new.self 3 (1 ∷ []) _ (c.figures-2.ensures.same ∙ c.figures.ensures.same)
    (dict_unknown_1 s.types.cap (nodes_of s.types s.fields) c.args.k c.args.v c.in_ok-key.ensures.figures.known u.unknown)
    in
    rw (exit_outcome _ _ c.from_residual-in_err-value.ensures.1, u.refusal) (record { called = called_dict s c.figures-2.new.self _ c.args.k c.args.v m; made = m })

pub returns-then-k-eq0 : goal.returns-then-k-eq0
returns-then-k-eq0 c =
    let s = c.args.self.now in
    let e = c.figures.ensures.same in
    let v = rw e at c.in_ok-value.ensures.figures in
    let m =
    made_still s c.figures-2.new.self 4 (0 ∷ []) _ (c.figures-2.ensures.same ∙ e)
    (dict_unit s.types.cap (nodes_of s.types s.fields) c.args.k c.args.v c.in_ok-key.ensures.figures.known v.known c.if-k-eq0.true)
    in
    record { called = called_dict s c.figures-2.new.self _ c.args.k c.args.v m; made = m }

pub returns-then-v-eq0 : goal.returns-then-v-eq0
returns-then-v-eq0 c =
    let s = c.args.self.now in
    let e = c.figures.ensures.same in
    let v = rw e at c.in_ok-value.ensures.figures in
    let m =
    made_still s c.figures-2.new.self 4 (1 ∷ []) _ (c.figures-2.ensures.same ∙ e)
    (dict_unit_1 s.types.cap (nodes_of s.types s.fields) c.args.k c.args.v c.in_ok-key.ensures.figures.known v.known c.if-k-eq0.false c.if-v-eq0.true)
    in
    record { called = called_dict s c.figures-2.new.self _ c.args.k c.args.v m; made = m }

pub returns-in_err-figures : goal.returns-in_err-figures
returns-in_err-figures c =
    let s = c.args.self.now in
    let e = c.figures.ensures.same in
    let u = c.in_err-figures.ensures in
    let m =
    made_still s c.figures-2.new.self 7 [] _ (c.figures-2.ensures.same ∙ e)
    (dict_long s.types.cap (nodes_of s.types s.fields) c.args.k c.args.v _ _ c.in_ok-key.ensures.figures (rw e at c.in_ok-value.ensures.figures) c.if-k-eq0.false c.if-v-eq0.false u.long)
    in
    rw (exit_outcome _ _ c.from_residual-in_err-figures.ensures.1, u.refusal) (record { called = called_dict s c.figures-2.new.self _ c.args.k c.args.v m; made = m })

pub enter-requires : goal.enter-requires
enter-requires c =
    let w = c.in_ok-figures.ensures (known_bounded _ _ _ c.in_ok-key.ensures.figures) (known_bounded _ _ _ c.in_ok-value.ensures.figures) in
    let s = c.args.self.now in
    let e = c.figures.ensures.same in
    record {
      fit = rw (c.figures-2.ensures.same, e)
          (fit_dict s.types s.fields c.args.k c.args.v _ _ _ c.in_ok-key.ensures.figures (rw e at c.in_ok-value.ensures.figures) c.if-k-eq0.false c.if-v-eq0.false w);
      plain = refl;
    }

pub returns : goal.returns
returns c =
    let w = c.in_ok-figures.ensures (known_bounded _ _ _ c.in_ok-key.ensures.figures) (known_bounded _ _ _ c.in_ok-value.ensures.figures) in
    let s = c.args.self.now in
    let t = c.enter.new.self in
    let e = c.figures.ensures.same in
    let m =
    made_as s c.figures-2.new.self t.types t.fields _ (dict c.args.k c.args.v) _ (c.figures-2.ensures.same ∙ e)
    (dict_good s.types.cap (nodes_of s.types s.fields) c.args.k c.args.v _ _ c.in_ok-key.ensures.figures (rw e at c.in_ok-value.ensures.figures) c.if-k-eq0.false c.if-v-eq0.false w.short) c.enter.ensures
    in
    record { called = called_dict s t _ c.args.k c.args.v m; made = m }
