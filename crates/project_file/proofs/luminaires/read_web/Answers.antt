use Rattle.std.proofs.Common.{◌≡◌, ◌∙◌, ap, sym, Some, false, true, nat_le, length, arith}
use Rattle.std.proofs.lemmas.Bool.Decides.{nat_tests}
use Rattle.std.proofs.lemmas.List.{length-map}
use Rattle.duties.proofs.Orders.{hands_on, this_met, this_fails, unless_fails, unless_holds, last_decides}
use Rattle.toml.specs.View.{table_view}
use Rattle.project_file.specs.declared.faults.ProjFault.TheVariants.{Memory}
use Rattle.project_file.specs.Projects.{file_name}
use Rattle.project_file.specs.Shapes.{texts, with_file}
use Rattle.project_file.proofs.luminaires.read_web.Goals as goal

pub returns-in_err-file-clause-answer : goal.returns-in_err-file-clause-answer
returns-in_err-file-clause-answer c = hands_on Memory _ _ _ _ c.from_residual.ensures.1 c.in_err-file.ensures.answer (λ h. this_fails _ _ _ h)

pub returns-then-len-gt-MOST_FILES-clause-answer : goal.returns-then-len-gt-MOST_FILES-clause-answer
returns-then-len-gt-MOST_FILES-clause-answer c = λ ne.
    let files : texts c.add_file.new.files.keys ≡ with_file (texts c.args.files.now.keys) (file_name (table_view c.args.section.now.table.now)) = rw c.in_ok-file.ensures.value at c.in_ok-web.ensures.files in
    let many : nat_le (length (texts c.add_file.new.files.keys)) 32 ≡ false = rw length-map (grind (arith, nat_tests)) in
    this_met _ _ c.in_ok-file.ensures.answer ∙ (this_fails _ _ _ (unless_fails _ _ (rw files at many) ∙ ap Some (sym (c.range_fault.ensures ne))))

pub returns-clause-answer : goal.returns-clause-answer
returns-clause-answer c =
    let files : texts c.add_file.new.files.keys ≡ with_file (texts c.args.files.now.keys) (file_name (table_view c.args.section.now.table.now)) = rw c.in_ok-file.ensures.value at c.in_ok-web.ensures.files in
    let few : nat_le (length (texts c.add_file.new.files.keys)) 32 ≡ true = rw length-map (grind (arith, nat_tests)) in
    this_met _ _ c.in_ok-file.ensures.answer ∙ (last_decides _ ∙ unless_holds _ _ (rw files at few))
