use Rattle.std.proofs.Common.{◌≡◌, true, false, drop, ap, ◌∙◌, sym, arith}
use Rattle.std.proofs.lemmas.List.{take_rest}
use Rattle.lux_num.specs.Digits.{digits_value, behind_sign, has_minus}
use Rattle.lux_num.proofs.Reading.{no_exponent, as_signed, negated, exponent_below, exponent_above}
use Rattle.lux_num.proofs.digits.exponent_of.Goals as goal

pub returns-then-is_empty-clause-value : goal.returns-then-is_empty-clause-value
returns-then-is_empty-clause-value c = sym (no_exponent c.args.text.now (grind arith))

pub returns-then-has_minus-clause-value : goal.returns-then-has_minus-clause-value
returns-then-has_minus-clause-value c =
    let rest = take_rest c.args.text.now 1 in
    let value : c.in_ok-power.field-0 ≡ digits_value (behind_sign (drop 1 c.args.text.now)) = c.in_ok-power.ensures.value ∙ ap digits_value (c.behind_sign.ensures.value ∙ ap behind_sign rest) in
    let minus : has_minus (drop 1 c.args.text.now) ≡ true = ap has_minus (sym rest) ∙ (sym c.has_minus.ensures ∙ c.if-has_minus.true) in
    negated c.in_ok-power.field-0 (digits_value (behind_sign (drop 1 c.args.text.now))) value (omega (arith, c.in_ok-power.ensures.small)) ∙ sym (exponent_below c.args.text.now minus)

pub returns-else-has_minus-clause-value : goal.returns-else-has_minus-clause-value
returns-else-has_minus-clause-value c =
    let rest = take_rest c.args.text.now 1 in
    let value : c.in_ok-power.field-0 ≡ digits_value (behind_sign (drop 1 c.args.text.now)) = c.in_ok-power.ensures.value ∙ ap digits_value (c.behind_sign.ensures.value ∙ ap behind_sign rest) in
    let minus : has_minus (drop 1 c.args.text.now) ≡ false = ap has_minus (sym rest) ∙ (sym c.has_minus.ensures ∙ c.if-has_minus.false) in
    as_signed c.in_ok-power.field-0 (digits_value (behind_sign (drop 1 c.args.text.now))) value (omega (arith, c.in_ok-power.ensures.small)) ∙ sym (exponent_above c.args.text.now minus)
