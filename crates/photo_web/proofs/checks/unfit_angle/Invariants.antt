use Rattle.std.proofs.Common.{◌≡◌, None}
use Rattle.duties.specs.Duties.{each}
use Rattle.photo_web.specs.Validity.{rise_duty}
use Rattle.photo_web.proofs.checks.unfit_angle.Given as goal

abbrev pub invariant-loop-at : goal.invariant-loop-at
invariant-loop-at l = each l.at (rise_duty l.most l.angles) ≡ None
