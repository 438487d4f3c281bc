use Rattle.std.proofs.Common.{◌≡◌, ◌≢◌, ℕ, ◌+◌, ◌*◌, ◌/◌, sym, ap, ◌∙◌, arith}
use Rattle.lux_num.proofs.Roots.{exact_up, inexact_up, quotient_below, up_is}
use Rattle.lux_num.proofs.quotients.mul_div_ceil.Goals as goal

pub returns-else-quotient-divisor : goal.returns-else-quotient-divisor
returns-else-quotient-divisor c =
    let product = c.in_ok-product.ensures in
    let quotient = c.in_ok-quotient.ensures in
    let inexact : c.args.a * c.args.b / c.args.divisor * c.args.divisor ≢ c.args.a * c.args.b = rw (quotient.1, product.1) at c.if-quotient-divisor.false in
    let up = inexact_up (c.args.a * c.args.b) c.args.divisor quotient.0 inexact in
    let is : c.args.a * c.args.b / c.args.divisor ≡ c.in_ok-quotient.quotient = sym (rw product.1 at quotient.1) in
    up_is c.args.a c.args.b c.args.divisor (c.in_ok-quotient.quotient + 1) product.0 quotient.0 (omega (arith, product.0, quotient_below (c.args.a * c.args.b) c.args.divisor quotient.0 inexact)) (up ∙ ap (λ (q : ℕ). q + 1) is)

pub returns-then-quotient-divisor : goal.returns-then-quotient-divisor
returns-then-quotient-divisor c =
    let product = c.in_ok-product.ensures in
    let quotient = c.in_ok-quotient.ensures in
    let exact : c.args.a * c.args.b / c.args.divisor * c.args.divisor ≡ c.args.a * c.args.b = rw (quotient.1, product.1) at c.if-quotient-divisor.true in
    let up = exact_up (c.args.a * c.args.b) c.args.divisor quotient.0 exact in
    let is : c.args.a * c.args.b / c.args.divisor ≡ c.in_ok-quotient.quotient = sym (rw product.1 at quotient.1) in
    up_is c.args.a c.args.b c.args.divisor c.in_ok-quotient.quotient product.0 quotient.0 (omega arith) (up ∙ is)
