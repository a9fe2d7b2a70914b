use Rattle.std.proofs.Common.{rules, ◌≡◌, ℕ, ◌+◌, ◌-◌, ◌<◌, Option, Some, None, unwrap_or, List, length, take, drop, Bor, sym, ap, ◌∙◌, arith, length-drop}
use Rattle.std.specs.Slice.{IsGetRangeResult}
use Rattle.std.proofs.lemmas.List.{take_all, drop_all, drop-drop}
use Rattle.textlines.specs.Lines.{line_length, Next}
use Rattle.textlines.proofs.lines.LinesIterator.next.Goals as goal

-- what stands behind the first byte; nothing where there is none
left_of : (got : Option (Bor (List ℕ))) (rest : Bor (List ℕ)) → IsGetRangeResult rest.now 1 (length rest.now) got → (unwrap_or got rest).now ≡ drop 1 rest.now
left_of None rest h =
    let z : length rest.now < 1 = search rules in
    drop_all 0 rest.now (omega arith) ∙ sym (drop_all 1 rest.now (omega arith))
left_of (Some x) rest h =
    let e : x.now ≡ take (length rest.now - 1) (drop 1 rest.now) = search rules in
    e ∙ take_all (length rest.now - 1) (drop 1 rest.now) (omega (arith, length-drop 1 rest.now))

next_by : (w back left : List ℕ) (k : ℕ) → k ≡ line_length w → 0 < length w → back ≡ drop k w → left ≡ drop 1 back → Next w (take k w) left
next_by w back left k f h b l =
    let r : left ≡ drop (line_length w + 1) w = l ∙ ap (drop 1) b ∙ drop-drop 1 k w ∙ ap (λ (i : ℕ). drop (i + 1) w) f in
    record {
      filled = h;
      line = ap (λ (i : ℕ). take i w) f;
      rest = r;
      shorter = omega (arith, ap length r, length-drop (line_length w + 1) w);
    }

pub returns-clause-steps : goal.returns-clause-steps
returns-clause-steps c =
    let w = c.args.self.now.rest.now in
    let h : 0 < length w = search rules in
    let l : c.unwrap_or-self.result.now ≡ drop 1 c.split_at.result.1.now = ap (λ x. x.now) c.unwrap_or-self.ensures ∙ left_of c.get.result c.split_at.result.1 c.get.ensures.lookup in
    rw c.split_at.ensures.front (next_by w c.split_at.result.1.now _ c.line_length.result c.line_length.ensures.first h c.split_at.ensures.back l)
