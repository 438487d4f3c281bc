use Rattle.std.proofs.Common.{ℕ, List, sum, ap, arith}
use Rattle.lit_room.specs.LitRooms.{system_of, flux_of}
use Rattle.lux_top.proofs.Limited.{few_nanolumens}
use Rattle.lux_top.proofs.reports.report.Goals as goal

pub shoot-requires-clause-few : goal.shoot-requires-clause-few
shoot-requires-clause-few g c κs within =
    rw c.flux-flux.ensures.value (few_nanolumens (system_of c.args.lit_room.now) (flux_of c.args.lit_room.now) c.flux-flux.ensures.limited)

pub report_on-requires-clause-done : goal.report_on-requires-clause-done
report_on-requires-clause-done g c =
    let few = few_nanolumens (system_of c.args.lit_room.now) (flux_of c.args.lit_room.now) c.flux-flux.ensures.limited in
    let same = ap (λ (xs : List ℕ). sum xs) c.in-Ok.ensures.direct in
    let flux = ap (λ (xs : List ℕ). sum xs) c.flux-flux.ensures.value in
    record { balanced = rw c.system.ensures at c.in-Ok.ensures.balanced; finished = rw c.system.ensures at c.in-Ok.ensures.finished; limited = omega arith }
