use Rattle.std.proofs.Common.{◌≡◌, ◌<◌, ◌∙◌, ◌++◌, ◌∷◌, [], length, ap, sym, arith}
use Rattle.std.proofs.lemmas.List.Elements.{All-push}
use Rattle.duties.proofs.Orders.{each_hands_on, each_more, each_none}
use Rattle.toml.specs.View.{items_view, table_view}
use Rattle.project_file.specs.declared.faults.ProjFault.TheVariants.{Memory}
use Rattle.project_file.specs.Fields.{toml_items}
use Rattle.project_file.specs.Projects.{listed_table, check_duty, check_spec, IsCheck}
use Rattle.project_file.proofs.Lists.{length_listed}
use Rattle.project_file.proofs.ListedTables.{one_more, how_many, all_said}
use Rattle.project_file.proofs.checks.read_checks.Goals as goal

pub loop-number-init : goal.loop-number-init
loop-number-init c =
    let none = c.in_ok-checks.ensures.items in
    record { checks = none; met = each_none _; valid = rw none (λ k d inside. absurd (omega arith)) }

pub returns-in_err-read_check-clause-answer : goal.returns-in_err-read_check-clause-answer
returns-in_err-read_check-clause-answer c =
    let items = toml_items (items_view c.args.items.now) in
    let i = c.loop-number.number in
    let inside : i < length items = omega (arith, length_listed c.args.items.now) in
    each_hands_on Memory _ _ (check_duty items) (length items) i inside c.loop-number.invariant.met c.from_residual-in_err-read_check.ensures.1 (rw c.listed_table-table.ensures at c.in_err-read_check.ensures.answer)

pub loop-number-preserved : goal.loop-number-preserved
loop-number-preserved c =
    let items = toml_items (items_view c.args.items.now) in
    let i = c.loop-number.number in
    let before = c.loop-number.invariant in
    let table : table_view c.listed_table-table.result.now ≡ listed_table items i = c.listed_table-table.ensures in
    let here = c.in_ok-read_check.ensures in
    record {
      checks = c.in_ok-push.ensures.items ∙ ((λ j. before.checks j ++ (rw table at here.value) j ∷ []) ∙ sym (one_more check_spec items i));
      met = each_more (check_duty items) i before.met ∙ (rw table at here.answer);
      valid = rw c.in_ok-push.ensures.items (All-push IsCheck _ _ before.valid here.valid);
    }

pub returns-clause-answer : goal.returns-clause-answer
returns-clause-answer c =
    let all : c.loop-number.number ≡ length (toml_items (items_view c.args.items.now)) = omega (arith, length_listed c.args.items.now) in
    rw all at c.loop-number.invariant.met

pub returns-clause-value : goal.returns-clause-value
returns-clause-value c =
    let all : c.loop-number.number ≡ length (toml_items (items_view c.args.items.now)) = omega (arith, length_listed c.args.items.now) in
    (rw all at c.loop-number.invariant.checks) ∙ all_said check_spec (toml_items (items_view c.args.items.now))

pub returns-clause-many : goal.returns-clause-many
returns-clause-many c =
    let all : c.loop-number.number ≡ length c.args.items.now = omega arith in
    ap length c.loop-number.invariant.checks ∙ (how_many check_spec (toml_items (items_view c.args.items.now)) c.loop-number.number ∙ all)
