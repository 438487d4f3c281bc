use Rattle.std.proofs.Common.{sym, length, arith}
use Rattle.std.proofs.lemmas.Nat.{mul-le}
use Rattle.photo_web.proofs.Tests.{valid_planes, valid_gammas}
use Rattle.photo_web.proofs.checks.web_fault.Goals as goal

-- there are at most as many values as a full web has
pub overflow_cast-result : goal.overflow_cast-result
overflow_cast-result c =
    let planes = valid_planes c.args.planes.now (sym c.in_default.ensures) in
    let gammas = valid_gammas c.args.gammas.now (sym c.in_default-gammas_fault.ensures) in
    let most = mul-le (length c.args.planes.now) (length c.args.gammas.now) 1441 721 planes.few gammas.few in
    omega (arith, c.in-Some-first_too_bright.ensures.inside)
