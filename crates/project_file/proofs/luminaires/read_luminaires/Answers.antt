use Rattle.std.proofs.Common.{◌≡◌, ◌<◌, ◌∙◌, ◌++◌, ◌∷◌, [], ◌+◌, length, ap, sym, arith}
use Rattle.duties.proofs.Orders.{each_hands_on, each_more, each_none}
use Rattle.toml.specs.View.{items_view, table_view}
use Rattle.project_file.specs.declared.faults.ProjFault.TheVariants.{Memory}
use Rattle.project_file.specs.Fields.{toml_items}
use Rattle.project_file.specs.Projects.{listed_table, luminaire_duty}
use Rattle.project_file.specs.Shapes.{texts, are_names}
use Rattle.project_file.proofs.Lists.{length_listed}
use Rattle.project_file.proofs.Webs.{files_named, files_are, all_files_are, all_fixtures_are, files_more, fixtures_more, many, webs, used}
use Rattle.project_file.proofs.luminaires.read_luminaires.Goals as goal

pub loop-number-init : goal.loop-number-init
loop-number-init c =
    let none = c.new-files.ensures.empty in
    record {
      files = ap texts none;
      fixtures = c.in_ok-fixtures.ensures.items;
      met = each_none _;
      few = omega (arith, c.new-files.ensures.len);
      named = ap (λ ks. are_names (texts ks)) none;
    }

pub returns-in_err-read_luminaire-clause-answer : goal.returns-in_err-read_luminaire-clause-answer
returns-in_err-read_luminaire-clause-answer c =
    let ls = toml_items (items_view c.args.items.now) in
    let i = c.loop-number.number in
    let inside : i < length ls = omega (arith, length_listed c.args.items.now) in
    each_hands_on Memory _ _ (luminaire_duty ls) (length ls) i inside c.loop-number.invariant.met c.from_residual-in_err-read_luminaire.ensures.1
    (rw (c.listed_table-table.ensures, c.loop-number.invariant.files, ← files_more ls i, files_are ls (i + 1) (omega arith)) at c.in_err-read_luminaire.ensures.answer)

pub loop-number-preserved : goal.loop-number-preserved
loop-number-preserved c =
    let ls = toml_items (items_view c.args.items.now) in
    let i = c.loop-number.number in
    let before = c.loop-number.invariant in
    let table : table_view c.listed_table-table.result.now ≡ listed_table ls i = c.listed_table-table.ensures in
    let here = c.in_ok-read_luminaire.ensures in
    let files : texts c.read_luminaire.new.files.keys ≡ files_named ls (i + 1) = rw (table, before.files, ← files_more ls i) at here.files in
    record {
      files = files;
      fixtures = c.in_ok-push.ensures.items ∙ ((λ j. before.fixtures j ++ (rw (table, files) at here.value) j ∷ []) ∙ sym (fixtures_more ls i));
      met = each_more (luminaire_duty ls) i before.met ∙ (rw (table, before.files, ← files_more ls i, files_are ls (i + 1) (omega (arith, length_listed c.args.items.now))) at here.answer);
      few = here.few;
      named = here.named;
    }

pub returns-clause-answer : goal.returns-clause-answer
returns-clause-answer c =
    let all : c.loop-number.number ≡ length (toml_items (items_view c.args.items.now)) = omega (arith, length_listed c.args.items.now) in
    rw all at c.loop-number.invariant.met

pub returns-clause-files : goal.returns-clause-files
returns-clause-files c =
    let all : c.loop-number.number ≡ length (toml_items (items_view c.args.items.now)) = omega (arith, length_listed c.args.items.now) in
    c.in_ok-names.ensures.value ∙ ((rw all at c.loop-number.invariant.files) ∙ all_files_are (toml_items (items_view c.args.items.now)))

pub returns-clause-fixtures : goal.returns-clause-fixtures
returns-clause-fixtures c =
    let all : c.loop-number.number ≡ length (toml_items (items_view c.args.items.now)) = omega (arith, length_listed c.args.items.now) in
    rw (c.in_ok-names.ensures.value, c.loop-number.invariant.files, all) ((rw all at c.loop-number.invariant.fixtures) ∙ all_fixtures_are (toml_items (items_view c.args.items.now)) _)

pub returns-clause-many : goal.returns-clause-many
returns-clause-many c =
    let all : c.loop-number.number ≡ length c.args.items.now = omega arith in
    let ls = toml_items (items_view c.args.items.now) in
    ap length c.loop-number.invariant.fixtures ∙ (many ls (files_named ls c.loop-number.number) c.loop-number.number ∙ all)

pub returns-clause-webs : goal.returns-clause-webs
returns-clause-webs c =
    rw (c.in_ok-names.ensures.value, c.loop-number.invariant.files, c.loop-number.invariant.fixtures) (webs (toml_items (items_view c.args.items.now)) c.loop-number.number)

pub returns-clause-used : goal.returns-clause-used
returns-clause-used c =
    rw (c.in_ok-names.ensures.value, c.loop-number.invariant.files, c.loop-number.invariant.fixtures) (used (toml_items (items_view c.args.items.now)) c.loop-number.number)
