use Rattle.duties.proofs.Orders.{hands_on, this_fails}
use Rattle.project_file.specs.declared.faults.ProjFault.TheVariants.{Memory}
use Rattle.project_file.specs.Projects.{luminaire_table_duty}
use Rattle.project_file.proofs.Steps.{fourth_answers, middle_fails}
use Rattle.project_file.proofs.luminaires.read_luminaire.Goals as goal

pub returns-in_err-check_keys-clause-answer : goal.returns-in_err-check_keys-clause-answer
unfolding luminaire_table_duty
returns-in_err-check_keys-clause-answer c = hands_on Memory _ _ _ _ c.from_residual.ensures.1 c.in_err-check_keys.ensures (λ h. this_fails _ _ _ h)

pub returns-in_err-web-clause-answer : goal.returns-in_err-web-clause-answer
unfolding luminaire_table_duty
returns-in_err-web-clause-answer c =
    hands_on Memory _ _ _ _ c.from_residual-in_err-web.ensures.1 c.in_err-web.ensures.answer (λ h. middle_fails _ _ _ _ _ c.in_ok-check_keys.ensures h)

pub returns-clause-answer : goal.returns-clause-answer
unfolding luminaire_table_duty
returns-clause-answer c = fourth_answers Memory _ _ _ _ _ c.in_ok-check_keys.ensures c.in_ok-web.ensures.answer c.read_fixture.ensures.answer
