use Rattle.std.proofs.Common.{◌≡◌, ◌∙◌, ◌++◌, ◌∷◌, [], length, sym, ap, arith}
use Rattle.std.specs.List.{sum}
use Rattle.std.proofs.lemmas.List.FromFn.{length-map-range_with_len, map-range_with_len_more}
use Rattle.duties.proofs.Orders.{each_none, each_more, each_fails}
use Rattle.flux_system.specs.System.{FluxSystem, patches, share, row_total, keep}
use Rattle.flux_system.specs.Validity.{row_duty}
use Rattle.flux_system.specs.Shapes.{system_without_threshold}
use Rattle.flux_system.proofs.Sums.{sum-range}
use Rattle.flux_system.proofs.Keeping.{kept-is}
use Rattle.flux_system.proofs.Tests.{row_met, row_refused}
use Rattle.flux_system.proofs.kept.kept_rows.Goals as goal

pub loop-patch-init : goal.loop-patch-init
loop-patch-init c = record { kept = c.in_ok-kept.ensures.items; met = each_none _ }

pub total_of-total-requires : goal.total_of-total-requires
total_of-total-requires c =
    let long = ap length c.row_at.ensures ∙ length-map-range_with_len _ 0 (length c.args.reflectance.now) in
    let few = c.requires.few in
    omega arith

pub returns-then-total-ge-WHOLE_ROW-clause-answer : goal.returns-then-total-ge-WHOLE_ROW-clause-answer
returns-then-total-ge-WHOLE_ROW-clause-answer c =
    let s : FluxSystem = system_without_threshold c.args.reflectance.now c.args.shares.now in
    let total : c.total_of-total.result ≡ row_total s c.loop-patch.patch = c.total_of-total.ensures ∙ (ap sum c.row_at.ensures ∙ sum-range (share s c.loop-patch.patch) (patches s)) in
    λ _. each_fails (row_duty s) (patches s) c.loop-patch.patch _ c.loop-patch-test.true c.loop-patch.invariant.met (row_refused s c.loop-patch.patch c.total_of-total.result total c.if-total-ge-WHOLE_ROW.true)

pub loop-patch-preserved : goal.loop-patch-preserved
loop-patch-preserved c =
    let s : FluxSystem = system_without_threshold c.args.reflectance.now c.args.shares.now in
    let total : c.total_of-total.result ≡ row_total s c.loop-patch.patch = c.total_of-total.ensures ∙ (ap sum c.row_at.ensures ∙ sum-range (share s c.loop-patch.patch) (patches s)) in
    record {
      kept = c.in_ok-push.ensures.items
          ∙ ((λ k. c.loop-patch.invariant.kept k ++ kept-is s c.loop-patch.patch _ c.total_of-total.result c.from.ensures total k ∷ [])
          ∙ sym (map-range_with_len_more (keep s) 0 c.loop-patch.patch c.loop-patch.patch (omega arith)));
      met = each_more (row_duty s) c.loop-patch.patch c.loop-patch.invariant.met ∙ row_met s c.loop-patch.patch c.total_of-total.result total c.if-total-ge-WHOLE_ROW.false;
    }
