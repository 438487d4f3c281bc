use Rattle.lux_plans.proofs.Caused.{follows_of}
use Rattle.lux_top.specs.AuditCommand.{audit_plan}
use Rattle.lux_top.proofs.AuditRows.{audit_row}
use Rattle.lux_top.proofs.Plain.{plain_audit}
use Rattle.lux_top.proofs.audit_command.audit_files.Goals as goal

pub returns-clause-follows : goal.returns-clause-follows
returns-clause-follows g c = follows_of (audit_plan c.args.system.now c.args.ledger.now) _ _ _ _ (plain_audit c.args.system.now c.args.ledger.now) c.decide-decided.ensures (c.conclude.ensures _ _)

pub returns-clause-row : goal.returns-clause-row
returns-clause-row g c =
    audit_row c.args.system.now c.args.ledger.now _ _ _
    (follows_of (audit_plan c.args.system.now c.args.ledger.now) _ _ _ _ (plain_audit c.args.system.now c.args.ledger.now) c.decide-decided.ensures (c.conclude.ensures _ _)).runs
