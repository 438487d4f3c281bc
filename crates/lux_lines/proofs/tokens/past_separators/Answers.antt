use Rattle.std.proofs.Common.{◌≡◌, ◌+◌, ◌<◌, ◌≤◌, true, get_or, length, take, sym, ◌∙◌, arith, add-one, eq-eqb}
use Rattle.std.specs.Prelude.{count_by}
use Rattle.std.proofs.lemmas.List.Sums.{count_by_more_yes, count_by_more_no}
use Rattle.std.proofs.lemmas.Bool.{ne_eqb}
use Rattle.lux_lines.specs.Places.{is_newline}
use Rattle.lux_lines.specs.Tokens.{is_separator}
use Rattle.lux_lines.proofs.TokenSteps.{tokens_past}
use Rattle.lux_lines.proofs.tokens.past_separators.Goals as goal
use Rattle.lux_lines.proofs.tokens.past_separators.Goals.{then-text-at-eq10, else-text-at-eq10}

pub loop-at-preserved : goal.loop-at-preserved
loop-at-preserved c =
    let text = c.args.text.now in
    let at = c.loop-at.at in
    let within : at < length text = c.loop-at-test.true in
    let passes : is_separator (get_or text at 0) ≡ true = sym c.is_separator.ensures ∙ c.if-is_separator.true in
    let counts : (c.if-text-at-eq10.number ≤ c.loop-at.number + 1) × (c.if-text-at-eq10.number + count_by is_newline (take at text) ≡ c.loop-at.number + count_by is_newline (take (at + 1) text)) =
    elim c.if-text-at-eq10.branch [
      | then-text-at-eq10 w ↦ (omega arith, let more = count_by_more_yes is_newline text at 0 within (eq-eqb _ _ w.if-text-at-eq10.true) in omega arith)
      | else-text-at-eq10 w ↦ (omega arith, let more = count_by_more_no is_newline text at 0 within (ne_eqb _ _ w.if-text-at-eq10.false) in omega arith)
    ] in
    record {
      within = omega arith;
      forth = omega arith;
      room = omega arith;
      place = λ first h. let old = c.loop-at.invariant.place first h in (
        record { within = omega arith; counted = omega arith; between = λ _ _. rw add-one passes },
        old.1 ∙ tokens_past first text at within passes,
      );
    }
