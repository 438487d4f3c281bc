use Rattle.std.proofs.Common.{◌≡◌, ℕ, ◌+◌, ◌-◌, ◌*◌, fold, length, List, ap, sym, ◌∙◌, arith}
use Rattle.std.proofs.lemmas.List.{take_all}
use Rattle.std.proofs.lemmas.List.Sums.{fold_more}
use Rattle.laws.proofs.Digits.{one_more_digit}
use Rattle.lux_num.proofs.Reading.{digit_at, room_for_digit}
use Rattle.lux_num.proofs.digits.with_digits.Goals as goal

pub overflow_mul-total : goal.overflow_mul-total
overflow_mul-total c =
    let room = room_for_digit c.loop-digit.total c.args.value c.loop-digit.digit-index (length c.args.digits.now) c.loop-digit.invariant.small c.requires.small c.requires.few c.loop-digit-test.true in
    omega arith

pub overflow_sub-digit : goal.overflow_sub-digit
overflow_sub-digit c = omega (arith, (digit_at c.args.digits.now c.loop-digit.digit-index c.requires.digits c.loop-digit-test.true).0)

pub overflow_add-total : goal.overflow_add-total
overflow_add-total c =
    let room = room_for_digit c.loop-digit.total c.args.value c.loop-digit.digit-index (length c.args.digits.now) c.loop-digit.invariant.small c.requires.small c.requires.few c.loop-digit-test.true in
    let digit = digit_at c.args.digits.now c.loop-digit.digit-index c.requires.digits c.loop-digit-test.true in
    omega (arith, digit.1)

pub loop-digit-preserved : goal.loop-digit-preserved
loop-digit-preserved c =
    let k = c.loop-digit.digit-index in
    let digit = digit_at c.args.digits.now c.loop-digit.digit-index c.requires.digits c.loop-digit-test.true in
    let more = fold_more (λ (value : ℕ) (digit : ℕ). 10 * value + (digit - 48)) c.args.value c.args.digits.now c.loop-digit.digit-index 0 c.loop-digit-test.true in
    record {
      so_far = (λ i. 10 * c.loop-digit.invariant.so_far i + c.from.ensures i) ∙ sym more;
      small = λ few first.
          let step = one_more_digit (few + c.loop-digit.digit-index) c.loop-digit.total c.from.result (c.loop-digit.invariant.small few first) (omega (arith, digit.1)) in
          let e : (few + c.loop-digit.digit-index) + 1 ≡ few + (c.loop-digit.digit-index + 1) = omega arith in
          rw (← e) step;
    }

pub returns-clause-value : goal.returns-clause-value
returns-clause-value c =
    c.loop-digit.invariant.so_far ∙ ap (λ (digits : List ℕ). fold (λ (value : ℕ) (digit : ℕ). 10 * value + (digit - 48)) c.args.value digits) (take_all c.loop-digit.digit-index c.args.digits.now c.loop-digit-test.false)

pub returns-clause-small : goal.returns-clause-small
returns-clause-small c = λ few first.
    let e : c.loop-digit.digit-index ≡ length c.args.digits.now = omega arith in
    rw (← e) (c.loop-digit.invariant.small few first)
