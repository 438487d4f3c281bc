use Rattle.std.proofs.Common.{◌∙◌}
use Rattle.duties.proofs.Orders.{hands_on, this_met, this_fails}
use Rattle.eulumdat_reader.specs.declared.faults.LdtFault.TheVariants.{Memory}
use Rattle.eulumdat_reader.specs.Heads.{head_duties}
use Rattle.eulumdat_reader.proofs.head.read_head.Goals as goal

pub returns-in_err-counts-clause-answer : goal.returns-in_err-counts-clause-answer
unfolding head_duties
returns-in_err-counts-clause-answer c = hands_on Memory _ _ _ _ c.from_residual.ensures.1 c.in_err-counts.ensures.answer (λ h. this_fails _ _ _ h)

pub returns-in_err-factor-clause-answer : goal.returns-in_err-factor-clause-answer
unfolding head_duties
returns-in_err-factor-clause-answer c =
    let a = c.in_ok-counts.ensures in
    hands_on Memory _ _ _ _ c.from_residual-in_err-factor.ensures.1 (rw a.same at c.in_err-factor.ensures.answer)
    (λ h. this_met _ _ a.answer ∙ this_fails _ _ _ h)

pub returns-in_err-flux-clause-answer : goal.returns-in_err-flux-clause-answer
unfolding head_duties
returns-in_err-flux-clause-answer c =
    let a = c.in_ok-counts.ensures in
    let b = c.in_ok-factor.ensures in
    hands_on Memory _ _ _ _ c.from_residual-in_err-flux.ensures.1 (rw (b.same ∙ a.same) at c.in_err-flux.ensures.answer)
    (λ h. this_met _ _ a.answer ∙ (this_met _ _ (rw a.same at b.answer) ∙ this_fails _ _ _ h))
