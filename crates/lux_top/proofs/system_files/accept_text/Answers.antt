use Rattle.std.proofs.Common.{sym}
use Rattle.duties.proofs.Orders.{judged_is, judged_ok, judged_refuses, judged_err}
use Rattle.flux_system.specs.Limits.{limit_duties}
use Rattle.system_file.specs.SystemText.{system_of}
use Rattle.lux_answers.specs.declared.answers.Answer.TheVariants.{System, Limits}
use Rattle.lux_plans.proofs.Chains.{gives_then}
use Rattle.lux_plans.proofs.Taking.{gives_ok, gives_err}
use Rattle.lux_top.specs.SystemFiles.{Problem, problem_in_limits, system_text, within_limits}
use Rattle.lux_top.proofs.system_files.accept_text.Goals as goal

pub returns-in-Ok-takes_bound : goal.returns-in-Ok-takes_bound
returns-in-Ok-takes_bound c =
    let problem : Problem = (c.in-Ok.system, c.in-Ok.flux.items) in
    let met = (judged_is _ _ _ (sym c.in-Ok-takes_bound.ensures.answer)).1 in
    gives_then (system_text c.args.text.items) within_limits problem _ (gives_ok (system_of c.args.text.items) System problem (rw c.deref.ensures.value at c.in-Ok.ensures.ok))
    (gives_ok (problem_in_limits problem) Limits problem (judged_ok (limit_duties problem.0 problem.1) problem (rw c.deref-in-Ok.ensures.value at met)))

pub returns-in-Ok : goal.returns-in-Ok
returns-in-Ok c =
    let problem : Problem = (c.in-Ok.system, c.in-Ok.flux.items) in
    let refused = judged_refuses _ _ _ (sym c.in-Err-takes_bound.ensures.answer) in
    gives_then (system_text c.args.text.items) within_limits problem _ (gives_ok (system_of c.args.text.items) System problem (rw c.deref.ensures.value at c.in-Ok.ensures.ok))
    (gives_err (problem_in_limits problem) Limits _ (judged_err (limit_duties problem.0 problem.1) problem _ (rw c.deref-in-Ok.ensures.value at refused)))
