use Rattle.std.proofs.Common.{◌≡◌, ◌<◌, false, length, drop, get_or, ap, sym, ◌∙◌, arith}
use Rattle.std.specs.List.{prefix_len}
use Rattle.std.proofs.lemmas.List.{take_rest}
use Rattle.std.proofs.lemmas.List.Sums.{prefix_len_is}
use Rattle.lux_lines.specs.Ends.{is_space, without_suffix}
use Rattle.lux_lines.proofs.ends.trim.Goals as goal
use Rattle.lux_lines.proofs.ends.trim.Goals.{then-loop-at-test+else-is_space, else-loop-at-test}

pub returns : goal.returns
returns c =
    let text = c.args.text.now in
    let stops : c.loop-at.at < length c.args.text.now → is_space (get_or c.args.text.now c.loop-at.at 0) ≡ false = λ inside. elim c.loop-at-test.branch [
      | then-loop-at-test+else-is_space w ↦ sym w.is_space.ensures ∙ w.if-is_space.false
      | else-loop-at-test w ↦ absurd (omega arith)
    ] in
    let at : prefix_len is_space c.args.text.now ≡ c.loop-at.at = prefix_len_is is_space c.args.text.now c.loop-at.at 0 c.loop-at.invariant.within c.loop-at.invariant.passed stops in
    c.trim_end.ensures ∙ (ap (without_suffix is_space) (take_rest c.args.text.now c.loop-at.at) ∙ ap (λ k. without_suffix is_space (drop k c.args.text.now)) (sym at))
