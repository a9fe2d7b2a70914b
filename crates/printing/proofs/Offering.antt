-- The bytes of a span, offered in order.
use Rattle.std.proofs.Common.{◌≡◌, ℕ, ◌+◌, ◌<◌, length, get_or, drop, Some, slice_get, arith}
use Rattle.std.proofs.lemmas.Option.{slice_get-get_or}
use Rattle.std.proofs.lemmas.List.{get_or-take, get_or-drop, length-take, length-drop}
use Rattle.grammar.specs.Shape.{Text}
use Rattle.forms.specs.declared.spans.Span.{Span}
use Rattle.forms.specs.Spans.{bytes_in, Inside}

module _ (w : Text) (x : Span) (h : Inside w x) where
  pub span_long : length (bytes_in x w) ≡ x.count
  span_long = omega (arith, h.within, length-take x.count (drop x.from w), length-drop x.from w)

  pub span_byte : (i : ℕ) → i < x.count → (i < length (bytes_in x w)) × (slice_get w (x.from + i) ≡ Some (get_or (bytes_in x w) i 0))
  span_byte i l = grind (arith, h.within, span_long, slice_get-get_or w (x.from + i) 0, get_or-take x.count (drop x.from w) i 0, get_or-drop x.from w i 0)
