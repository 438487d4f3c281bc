use Rattle.lux_plans.proofs.Caused.{follows_of}
use Rattle.lux_top.proofs.Plain.{plain_plan}
use Rattle.lux_top.proofs.CommandLines.{memory_row, usage_row}
use Rattle.lux_plans.proofs.Taking.{takes_memory, takes_refuse}
use Rattle.lux_top.proofs.top.lux.Goals as goal

pub returns-in-Err-clause-follows : goal.returns-in-Err-clause-follows
returns-in-Err-clause-follows g c = follows_of _ _ _ _ _ (plain_plan _) (takes_memory _ _) (c.conclude.ensures _ _)

pub returns-in-Err-clause-row : goal.returns-in-Err-clause-row
returns-in-Err-clause-row g c = memory_row _ _ _ _ (c.conclude.ensures _ _)

pub returns-in-Ok-None-clause-follows : goal.returns-in-Ok-None-clause-follows
returns-in-Ok-None-clause-follows g c =
    let none = rw c.in-Ok-None.field-0-is at c.in-Ok-None.ensures in
    rw (← none) (follows_of _ _ _ _ _ tt (takes_refuse _ _) (c.conclude-in-Ok-None.ensures _ _))

pub returns-in-Ok-None-clause-row : goal.returns-in-Ok-None-clause-row
returns-in-Ok-None-clause-row g c =
    let none = rw c.in-Ok-None.field-0-is at c.in-Ok-None.ensures in
    rw (← none) (usage_row _ _ _ (c.conclude-in-Ok-None.ensures _ _))
