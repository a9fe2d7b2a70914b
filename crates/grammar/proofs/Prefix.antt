-- No shape's text is the start of another's.
use Rattle.std.proofs.Common.{◌≡◌, ℕ, max, [], ◌∷◌, ◌++◌, refl, ap, append_assoc, append-nil, arith}
use Rattle.grammar.specs.declared.error.Cause.TheVariants.{Unexpected}
use Rattle.grammar.specs.Shape.{Text, Shape, printed}
use Rattle.grammar.specs.Laws.{PrefixFree, BareStructure}
use Rattle.grammar.specs.Depth.{structure_depth, array_depth}
use Rattle.grammar.specs.Scan.{Verdict, good, bad, run, final}
use Rattle.grammar.proofs.ScanSteps.{run_stop, step_none}
use Rattle.grammar.proofs.ScanComplete.{complete}

abbrev pub left : Verdict → Text
left good = []
left (bad c w) = w

pub left_none : (w : Text) → left (run [] w) ≡ w
unfolding run final
left_none [] = refl
left_none (b ∷ w) = ap left (run_stop [] b Unexpected w (step_none b))

pub prefix_free : (t u : Shape) (v w : Text) → printed t ++ v ≡ printed u ++ w → v ≡ w
prefix_free t u v w e =
    let s : ℕ = max (structure_depth t) (structure_depth u) in
    let a : ℕ = max (array_depth t) (array_depth u) in
    let p = complete t s a [] v (omega arith) (omega arith) in
    let q = complete u s a [] w (omega arith) (omega arith) in
    cc (left_none v, left_none w)

pub no_proper_start : PrefixFree
no_proper_start t u rest e = prefix_free t u rest [] (cc (append-nil (printed u)))

-- the text of types in a row is their structure's without its outer pair
pub bare : BareStructure
bare t ts = rw append_assoc
