use Rattle.std.proofs.Common.{rules, ◌≡◌, ◌<◌, ◌+◌, ◌%◌, ℕ, Option, Some, length, sym, subst, arith}
use Rattle.picker.specs.Picks.{sweep_pick, IsPick}
use Rattle.picker.proofs.Choices.{IsPick-sweep}
use Rattle.picker.proofs.picks.sweep.Goals as goal

pub returns-in_err-place-clause-pick : goal.returns-in_err-place-clause-pick
returns-in_err-place-clause-pick c =
    let some : 0 < length c.args.values.now = grind arith in
    let is : c.from_residual.result ≡ sweep_pick c.args.offset c.args.values.now c.args.threshold = search rules in
    subst (λ (r : Option ℕ). IsPick c.args.values.now c.args.threshold r) (sym is) (IsPick-sweep c.args.offset c.args.values.now some c.args.threshold)

pub returns-clause-pick : goal.returns-clause-pick
returns-clause-pick c =
    let some : 0 < length c.args.values.now = grind arith in
    let is : Some ((c.args.offset % length c.args.values.now + c.in_ok-place.place) % length c.args.values.now) ≡ sweep_pick c.args.offset c.args.values.now c.args.threshold = search rules in
    subst (λ (r : Option ℕ). IsPick c.args.values.now c.args.threshold r) (sym is) (IsPick-sweep c.args.offset c.args.values.now some c.args.threshold)
