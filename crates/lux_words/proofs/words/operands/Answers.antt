use Rattle.std.proofs.Common.{◌++◌, ◌-◌, ◌+◌, ap, sym, ◌∙◌, List, ℕ, length, map, filter, string_bytes}
use Rattle.std.specs.List.{range_with_len}
use Rattle.lux_words.specs.Words.{is_own_operand}
use Rattle.lux_words.proofs.Places.{kept_more, left_out}
use Rattle.lux_words.proofs.words.operands.Goals as goal
use Rattle.lux_words.proofs.words.operands.Goals.{then-is_own_operand+in_ok-push, else-is_own_operand}

pub loop-place-preserved : goal.loop-place-preserved
loop-place-preserved c =
    let test = is_own_operand c.args.options.now (map string_bytes c.args.words.now) in
    let end = length c.args.words.now in
    elim c.if-is_own_operand.branch [
      | then-is_own_operand+in_ok-push w ↦
          ap (λ (l : List ℕ). l ++ filter test (range_with_len (c.loop-place.place + 1) (end - (c.loop-place.place + 1)))) (ap (λ v. v.items) w.places-is ∙ w.in_ok-push.ensures.items)
          ∙ (sym (kept_more test c.loop-place.place end c.loop-place-test.true c.loop-place.places.items (sym c.is_own_operand.ensures ∙ w.if-is_own_operand.true)) ∙ c.loop-place.invariant)
      | else-is_own_operand w ↦
          ap (λ (l : List ℕ). l ++ filter test (range_with_len (c.loop-place.place + 1) (end - (c.loop-place.place + 1)))) (ap (λ v. v.items) w.places-is)
          ∙ (ap (λ (l : List ℕ). c.loop-place.places.items ++ l) (sym (left_out test c.loop-place.place end c.loop-place-test.true (sym c.is_own_operand.ensures ∙ w.if-is_own_operand.false))) ∙ c.loop-place.invariant)
    ]
