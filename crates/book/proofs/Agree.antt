-- A book whose parts stand before their wholes, and that holds nothing twice, stands for different texts.
use Rattle.std.proofs.Common.{List, [], ◌∷◌, ◌++◌, map, length, ap, ◌∙◌, append_assoc, append-nil, arith}
use Rattle.std.proofs.lemmas.List.{length_push}
use Rattle.grammar.specs.Lists.{In, Distinct}
use Rattle.grammar.specs.Shape.{Shape, printed}
use Rattle.book.specs.Agree.{Good, EachCallAgrees}
use Rattle.book.specs.Nodes.{Node, node_shape, shapes_from, Chain}
use Rattle.book.proofs.Calls.{simulates}
use Rattle.book.proofs.Lists.{in_right}
use Rattle.book.proofs.Sound.{Sound, pushed, start}

distinct_mid : {A : Type 0} (pre : List A) (x : A) (xs : List A) → Distinct (pre ++ x ∷ xs) → In x pre → ⊥
distinct_mid [] x xs d i = i
distinct_mid (y ∷ pre) x xs d i = grind (arith, distinct_mid pre x xs, in_right x pre (x ∷ xs))

folded : (xs pre : List Node) (acc : List Shape) → Sound pre acc → Chain (length acc) xs → Distinct (pre ++ xs) → Sound (pre ++ xs) (shapes_from acc xs)
folded [] pre acc g c d = rw append-nil g
folded (x ∷ xs) pre acc g c d =
    let s : Shape = node_shape acc x in
    rw (← append_assoc pre (x ∷ []) xs) (folded xs (pre ++ x ∷ []) (acc ++ s ∷ []) (pushed pre acc g x c.0 (distinct_mid pre x xs d)) (rw (length_push acc s) c.1) (rw append_assoc d))

pub good_sound : (ns : List Node) → Good ns → Sound ns (shapes_from [] ns)
good_sound ns g = folded ns [] [] start g.chain g.once

pub agrees : EachCallAgrees
agrees limits ns g c =
    let s = simulates limits ns (shapes_from [] ns) (good_sound ns g) c in
    record {
      good = record { chain = s.sound.chain; once = s.sound.once };
      answer = s.answer;
      texts = ap (map printed) s.sound.fold ∙ s.texts;
    }
