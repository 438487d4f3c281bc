use Rattle.std.proofs.Common.{ℕ, ◌^◌, arith, rules}
use Rattle.std.proofs.lemmas.Iterator.{YieldsList-from_slice, YieldsList-from_map}
use Rattle.std.proofs.lemmas.Iterator.Consumers.{fits_from_yields_list}
use Rattle.compliance.proofs.Sides.{sum-lows-le, sum-highs-le}
use Rattle.compliance.proofs.judging.sums.Goals as goal

pub sum-requires-clause-fits : goal.sum-requires-clause-fits
sum-requires-clause-fits c =
    let points = c.args.points.now in
    let few = sum-lows-le points c.requires in
    let count = c.requires.few in
    fits_from_yields_list _ (2 ^ 128) (YieldsList-from_map _ (λ (ends : ℕ × ℕ). ends.0) (YieldsList-from_slice points cc) c.map.ensures.closure (λ x r q k. search rules)) (omega arith)

pub sum-requires-2-clause-fits : goal.sum-requires-2-clause-fits
sum-requires-2-clause-fits c =
    let points = c.args.points.now in
    let few = sum-highs-le points c.requires in
    let count = c.requires.few in
    fits_from_yields_list _ (2 ^ 128) (YieldsList-from_map _ (λ (ends : ℕ × ℕ). ends.1) (YieldsList-from_slice points cc) c.map-2.ensures.closure (λ x r q k. search rules)) (omega arith)
