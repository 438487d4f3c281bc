use Rattle.std.proofs.Common.{Option, Result, Ok, Err, sym, subst}
use Rattle.std.specs.Prelude.{OnOk}
use Rattle.duties.specs.Duties.{first, Answers}
use Rattle.flux_system.specs.declared.faults.SystemFault.{SystemFault}
use Rattle.flux_system.specs.declared.faults.SystemFault.TheVariants.{Memory}
use Rattle.flux_system.specs.System.{FluxSystem, coefficient}
use Rattle.flux_system.specs.Validity.{IsSystem, system_duties}
use Rattle.flux_system.proofs.Tests.{too_few, too_many, no_square, too_low, too_high, size_met, threshold_met, refused_by_size, refused_by_threshold, refused_by_reflectance, rows_decide, reflectances_met, valid_where_met}
use Rattle.flux_system.proofs.kept.kept_parts.Goals.{then-n-lt1-via-then-n-lt1, then-n-lt1-via-else-n-lt1+then-n-gt-MOST_PATCHES, then-n-lt1-via-else-n-lt1+else-n-gt-MOST_PATCHES+then-shares-n}
use Rattle.flux_system.proofs.kept.kept_parts.Goals.{then-threshold-lt1-via-then-threshold-lt1, then-threshold-lt1-via-else-threshold-lt1+then-threshold-gt-MOST_THRESHOLD}
use Rattle.flux_system.proofs.kept.kept_parts.Goals as goal

pub returns-then-n-lt1-clause-answer : goal.returns-then-n-lt1-clause-answer
returns-then-n-lt1-clause-answer c =
    let s : FluxSystem = record { threshold = c.args.threshold; reflectance = c.args.reflectance.now; shares = c.args.shares.now } in
    λ _. refused_by_size s (elim c.then-n-lt1.branch [
      | then-n-lt1-via-then-n-lt1 w ↦ too_few s w.if-n-lt1.true
      | then-n-lt1-via-else-n-lt1+then-n-gt-MOST_PATCHES w ↦ too_many s w.if-n-gt-MOST_PATCHES.true
      | then-n-lt1-via-else-n-lt1+else-n-gt-MOST_PATCHES+then-shares-n w ↦ no_square s w.if-shares-n.true
    ])

pub returns-then-threshold-lt1-clause-answer : goal.returns-then-threshold-lt1-clause-answer
returns-then-threshold-lt1-clause-answer c =
    let s : FluxSystem = record { threshold = c.args.threshold; reflectance = c.args.reflectance.now; shares = c.args.shares.now } in
    λ _. refused_by_threshold s (size_met s c.if-n-lt1.false c.if-n-gt-MOST_PATCHES.false c.if-shares-n.false) (elim c.then-threshold-lt1.branch [
      | then-threshold-lt1-via-then-threshold-lt1 w ↦ too_low s w.if-threshold-lt1.true
      | then-threshold-lt1-via-else-threshold-lt1+then-threshold-gt-MOST_THRESHOLD w ↦ too_high s w.if-threshold-gt-MOST_THRESHOLD.true
    ])

pub returns-in-Some-clause-answer : goal.returns-in-Some-clause-answer
returns-in-Some-clause-answer c =
    let s : FluxSystem = record { threshold = c.args.threshold; reflectance = c.args.reflectance.now; shares = c.args.shares.now } in
    λ _. refused_by_reflectance s c.in-Some.fault (size_met s c.if-n-lt1.false c.if-n-gt-MOST_PATCHES.false c.if-shares-n.false) (threshold_met s c.if-threshold-lt1.false c.if-threshold-gt-MOST_THRESHOLD.false) (sym c.in-Some.ensures)

pub kept_rows-requires-clause-limited : goal.kept_rows-requires-clause-limited
kept_rows-requires-clause-limited c =
    let s : FluxSystem = record { threshold = c.args.threshold; reflectance = c.args.reflectance.now; shares = c.args.shares.now } in
    reflectances_met s (sym c.in_default.ensures)

pub returns-clause-answer : goal.returns-clause-answer
returns-clause-answer c =
    let s : FluxSystem = record { threshold = c.args.threshold; reflectance = c.args.reflectance.now; shares = c.args.shares.now } in
    let decided = rows_decide s (size_met s c.if-n-lt1.false c.if-n-gt-MOST_PATCHES.false c.if-shares-n.false) (threshold_met s c.if-threshold-lt1.false c.if-threshold-gt-MOST_THRESHOLD.false) (sym c.in_default.ensures) in
    subst (λ (duty : Option SystemFault). Answers Memory duty c.kept_rows.result) (sym decided) c.kept_rows.ensures.answer

pub returns-clause-kept : goal.returns-clause-kept
unfolding coefficient
returns-clause-kept c = c.kept_rows.ensures.kept

valid_where_ok : {T : Type 0} (s : FluxSystem) (result : Result T SystemFault) → Answers Memory (first (system_duties s)) result → OnOk result (IsSystem s)
valid_where_ok s (Ok kept) met = valid_where_met s met
valid_where_ok s (Err fault) met = tt

pub returns-clause-valid : goal.returns-clause-valid
returns-clause-valid c = valid_where_ok (record { threshold = c.args.threshold; reflectance = c.args.reflectance.now; shares = c.args.shares.now }) c.kept_rows.result (returns-clause-answer c)
