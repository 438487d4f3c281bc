use Rattle.std.proofs.Common.{◌≡◌, ℕ, List, length, sym, ap, subst, ◌∙◌}
use Rattle.std.specs.Prelude.{slice_index}
use Rattle.flux_system.specs.declared.entries.Entry.{Entry}
use Rattle.flux_system.specs.Sums.{least_below}
use Rattle.flux_system.specs.System.{FluxSystem}
use Rattle.flux_system.specs.Entries.{row_entries, column_entries, all_rows, all_columns}
use Rattle.flux_system.specs.Shapes.{system_without_threshold, IsSystemWithLists}
use Rattle.flux_system.proofs.Dense.{rows_stand_for}
use Rattle.flux_system.proofs.Keeping.{least-kept}
use Rattle.flux_system.proofs.system.System.of_parts.Goals as goal

-- the lists know nothing of the threshold
of_rows : (threshold : ℕ) (reflectance shares : List ℕ) (rows : List (List Entry)) → rows ≡ all_rows (system_without_threshold reflectance shares) → rows ≡ all_rows (record { threshold = threshold; reflectance = reflectance; shares = shares })
unfolding row_entries
of_rows threshold reflectance shares rows is = is

of_columns : (threshold : ℕ) (reflectance shares : List ℕ) (columns : List (List Entry)) → columns ≡ all_columns (system_without_threshold reflectance shares) → columns ≡ all_columns (record { threshold = threshold; reflectance = reflectance; shares = shares })
unfolding column_entries
of_columns threshold reflectance shares columns is = is

pub invariant_of-result : goal.invariant_of-result
invariant_of-result c =
    let s : FluxSystem = record { threshold = c.args.threshold; reflectance = c.args.reflectance.items; shares = c.args.shares.now } in
    let rows = of_rows c.args.threshold c.args.reflectance.items c.args.shares.now c.args.rows.items c.requires.rows in
    let columns = of_columns c.args.threshold c.args.reflectance.items c.args.shares.now c.args.columns.items c.requires.columns in
    let least = c.least_of-least.ensures ∙ (ap (λ (kept : List ℕ). least_below (length kept) (slice_index kept)) c.as_slice.ensures.value ∙ least-kept s c.args.kept.items c.requires.valid c.requires.kept) in
    let with_lists : IsSystemWithLists s c.args.rows.items c.args.columns.items c.args.kept.items c.least_of-least.result =
    record { valid = c.requires.valid; of_rows = rows; of_columns = columns; of_kept = c.requires.kept; of_least = least } in
    subst (λ (q : FluxSystem). IsSystemWithLists q c.args.rows.items c.args.columns.items c.args.kept.items c.least_of-least.result)
    (λ k. record { threshold = c.args.threshold; reflectance = c.args.reflectance.items; shares = sym (rows_stand_for s c.args.rows.items c.requires.valid.square rows) k })
    with_lists

pub returns : goal.returns
returns c =
    let s : FluxSystem = record { threshold = c.args.threshold; reflectance = c.args.reflectance.items; shares = c.args.shares.now } in
    let rows = of_rows c.args.threshold c.args.reflectance.items c.args.shares.now c.args.rows.items c.requires.rows in
    λ k. record { threshold = c.args.threshold; reflectance = c.args.reflectance.items; shares = rows_stand_for s c.args.rows.items c.requires.valid.square rows k }
