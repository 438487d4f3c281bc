use Rattle.std.proofs.Common.{◌≡◌, ◌+◌, ◌*◌, ◌-◌, true, false, List, ℕ, length, length-append, fold, Ok, Err, ap, sym, ◌∙◌, arith, lit<, pos, ◌-ℤ◌}
use Rattle.std.proofs.lemmas.List.Sums.{fold-append}
use Rattle.lux_num.specs.declared.decimal.NumFault.TheVariants.{BadByte}
use Rattle.lux_num.specs.Digits.{tail, digits, digits_value, whole_digits, fraction_digits, may_be_exponent, is_exponent, exponent_value}
use Rattle.lux_num.specs.Decimal.{number_value}
use Rattle.lux_num.proofs.TenPowers.{power_positive}
use Rattle.lux_num.proofs.Reading.{is_bad_byte, is_empty, has_too_many, has_bad_exponent, is_number, exponent_sum, digits_fit}
use Rattle.lux_num.proofs.decimal.Decimal.read.Goals as goal

pub returns-then-not-may_be_exponent : goal.returns-then-not-may_be_exponent
returns-then-not-may_be_exponent c =
    let parts = c.parts_of-parts.ensures in
    let text = c.args.text.now in
    let test : may_be_exponent (tail c.args.text.now) ≡ false = ap may_be_exponent (sym parts.tail) ∙ (sym c.may_be_exponent.ensures ∙ c.if-not-may_be_exponent.true) in
    sym (is_bad_byte c.args.text.now test ∙ ap (λ (rest : List ℕ). Err (BadByte (length c.args.text.now - length rest))) (sym parts.tail))

pub returns-then-count-eq0 : goal.returns-then-count-eq0
returns-then-count-eq0 c =
    let parts = c.parts_of-parts.ensures in
    let test : may_be_exponent (tail c.args.text.now) ≡ true = ap may_be_exponent (sym parts.tail) ∙ (sym c.may_be_exponent.ensures ∙ c.if-not-may_be_exponent.false) in
    sym (is_empty c.args.text.now test (omega (arith, length-append (whole_digits c.args.text.now) (fraction_digits c.args.text.now), ap length parts.whole, ap length parts.fraction)))

pub returns-then-count-gt30 : goal.returns-then-count-gt30
returns-then-count-gt30 c =
    let parts = c.parts_of-parts.ensures in
    let test : may_be_exponent (tail c.args.text.now) ≡ true = ap may_be_exponent (sym parts.tail) ∙ (sym c.may_be_exponent.ensures ∙ c.if-not-may_be_exponent.false) in
    sym (has_too_many c.args.text.now test (omega (arith, length-append (whole_digits c.args.text.now) (fraction_digits c.args.text.now), ap length parts.whole, ap length parts.fraction)))

pub returns-in_default : goal.returns-in_default
returns-in_default c =
    let parts = c.parts_of-parts.ensures in
    let test : may_be_exponent (tail c.args.text.now) ≡ true = ap may_be_exponent (sym parts.tail) ∙ (sym c.may_be_exponent.ensures ∙ c.if-not-may_be_exponent.false) in
    let count : length (digits c.args.text.now) ≡ length c.parts_of-parts.result.whole.now + length c.parts_of-parts.result.fraction.now = omega (arith, length-append (whole_digits c.args.text.now) (fraction_digits c.args.text.now), ap length parts.whole, ap length parts.fraction) in
    let none : is_exponent (tail c.args.text.now) ≡ false = ap is_exponent (sym parts.tail) ∙ sym c.in_default.ensures.exactly in
    sym (has_bad_exponent c.args.text.now test (omega arith) (omega arith) none)

pub with_digits-requires-clause-small : goal.with_digits-requires-clause-small
with_digits-requires-clause-small c = power_positive (30 - length c.parts_of-parts.result.whole.now)

pub with_digits-requires-2-clause-small : goal.with_digits-requires-2-clause-small
with_digits-requires-2-clause-small c =
    let small = c.with_digits.ensures.small 0 (lit< tt) in
    digits_fit c.with_digits.result (length c.parts_of-parts.result.whole.now) (length c.parts_of-parts.result.fraction.now) small (omega arith)

pub returns : goal.returns
unfolding number_value
returns c =
    let parts = c.parts_of-parts.ensures in
    let test : may_be_exponent (tail c.args.text.now) ≡ true = ap may_be_exponent (sym parts.tail) ∙ (sym c.may_be_exponent.ensures ∙ c.if-not-may_be_exponent.false) in
    let count : length (digits c.args.text.now) ≡ length c.parts_of-parts.result.whole.now + length c.parts_of-parts.result.fraction.now = omega (arith, length-append (whole_digits c.args.text.now) (fraction_digits c.args.text.now), ap length parts.whole, ap length parts.fraction) in
    let some : is_exponent (tail c.args.text.now) ≡ true = ap is_exponent (sym parts.tail) ∙ sym c.in-Some.ensures.exactly in
    let value : c.with_digits-2.result ≡ digits_value (digits c.args.text.now) =
    c.with_digits-2.ensures.value
    ∙ ((λ k. fold (λ (value : ℕ) (digit : ℕ). 10 * value + (digit - 48)) ((c.with_digits.ensures.value ∙ ap digits_value parts.whole) k) (parts.fraction k))
    ∙ sym (fold-append (λ (value : ℕ) (digit : ℕ). 10 * value + (digit - 48)) 0 (whole_digits c.args.text.now) (fraction_digits c.args.text.now))) in
    let power : c.in-Some.power ≡ exponent_value (tail c.args.text.now) = c.in-Some.ensures.value ∙ ap exponent_value parts.tail in
    let exponent = exponent_sum c.in-Some.power (length c.parts_of-parts.result.fraction.now) (omega arith) c.in-Some.ensures.least c.in-Some.ensures.most in
    let power_is : ◌-ℤ◌ c.in-Some.power (pos (length c.parts_of-parts.result.fraction.now)) ≡ ◌-ℤ◌ (exponent_value (tail c.args.text.now)) (pos (length (fraction_digits c.args.text.now))) = (λ k. ◌-ℤ◌ (power k) (pos (length (parts.fraction k)))) in
    sym (is_number c.args.text.now test (omega arith) (omega arith) some ∙ (λ k. Ok record { negative = sym c.has_minus.ensures k; mantissa = sym value k; exponent = sym (exponent ∙ power_is) k }))
