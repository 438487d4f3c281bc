use Rattle.std.proofs.Common.{sym}
use Rattle.boxes.proofs.Counts.{length-box}
use Rattle.boxes.proofs.checks.box_patch_count.Goals as goal

pub returns-clause-value : goal.returns-clause-value
returns-clause-value c = sym (length-box c.args.spec)
