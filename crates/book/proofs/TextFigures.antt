-- The figures kept beside the nodes are those of their texts.
use Rattle.std.proofs.Common.{◌≡◌, ℕ, zero, suc, ◌+◌, ◌<◌, List, [], ◌∷◌, map, length, sym, refl, ap, ◌∙◌, ap₂, arith}
use Rattle.grammar.specs.declared.figures.Figures.{Figures}
use Rattle.grammar.specs.Shape.{Shape, printed}
use Rattle.grammar.specs.Figures.{figures_of, unit_figures, figures_by, text_figures}
use Rattle.grammar.proofs.ReadBack.{reading_printed, reading_empty}
use Rattle.book.specs.Plain.{text_of}
use Rattle.book.specs.Nodes.{Node, figures_from, figures_at, shapes_from, shape_at, texts_of}
use Rattle.book.specs.Agree.{Good}
use Rattle.book.proofs.Figured.{shape_figures}
use Rattle.book.proofs.Sound.{Sound, as_many}
use Rattle.book.proofs.Interned.{text_is}
use Rattle.book.proofs.Agree.{good_sound}

printed_figures : (t : Shape) → text_figures (printed t) ≡ figures_of t
unfolding text_figures
printed_figures t = ap figures_by (reading_printed t)

empty_figures : text_figures [] ≡ unit_figures
unfolding text_figures
empty_figures = ap figures_by reading_empty

all_figures_are : (ss : List Shape) → map text_figures (map printed ss) ≡ map figures_of ss
all_figures_are [] = refl
all_figures_are (t ∷ ss) = ap₂ ◌∷◌ (printed_figures t) (all_figures_are ss)

-- of the book's texts, in their order
pub texts_figures : (ns : List Node) → Good ns → map text_figures (texts_of ns) ≡ figures_from [] ns
texts_figures ns g = all_figures_are (shapes_from [] ns) ∙ sym (good_sound ns g).figures

-- of each known number
pub text_figures_are : (ns : List Node) → Good ns → (n : ℕ) → n < 15 + length ns → text_figures (text_of (texts_of ns) n) ≡ figures_at (figures_from [] ns) n
text_figures_are ns g zero l = empty_figures
text_figures_are ns g (suc n) l =
    let s : Sound ns (shapes_from [] ns) = good_sound ns g in
    let e = as_many ns (shapes_from [] ns) s in
    ap text_figures (text_is (shapes_from [] ns) (suc n) (omega arith)) ∙ printed_figures (shape_at (shapes_from [] ns) (suc n))
    ∙ sym (shape_figures (shapes_from [] ns) (suc n) (omega arith)) ∙ ap (λ (fs : List Figures). figures_at fs (suc n)) (sym s.figures)
