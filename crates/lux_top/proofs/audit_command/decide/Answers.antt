use Rattle.lux_plans.proofs.Chains.{takes_then}
use Rattle.lux_top.specs.AuditCommand.{ledger_audit}
use Rattle.lux_top.specs.SystemFiles.{problem_file}
use Rattle.lux_top.proofs.audit_command.decide.Goals as goal

pub returns-in-Ok : goal.returns-in-Ok
returns-in-Ok g c = takes_then (problem_file c.args.system.now) (ledger_audit c.args.ledger.now) _ _ _ _ _ c.in-Ok.ensures c.audit_file.ensures
