use Rattle.std.proofs.Common.{◌≤◌, ◌+◌, ◌++◌, ◌∙◌, arith}
use Rattle.flux_system.specs.System.{FluxSystem}
use Rattle.flux_system.specs.Shapes.{system_without_threshold}
use Rattle.flux_system.proofs.Dense.{columns-joined}
use Rattle.flux_system.proofs.lists.columns_from.Goals as goal

pub loop-done-preserved : goal.loop-done-preserved
loop-done-preserved c =
    let s : FluxSystem = system_without_threshold c.args.reflectance.now c.args.shares.now in
    let before = c.loop-done.invariant in
    let within : c.loop-done.done + c.min-more.result ≤ c.args.many = omega (arith, c.min-more.ensures) in
    record {
      columns = c.in_ok-append.ensures.items
          ∙ ((λ k. before.columns k ++ c.in_ok-group.ensures k) ∙ columns-joined s c.args.first c.loop-done.done c.min-more.result);
      inside = within;
    }
