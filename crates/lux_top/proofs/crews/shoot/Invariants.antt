use Rattle.std.proofs.Common.{◌≡◌, length}
use Rattle.lux_top.proofs.crews.shoot.Given as goal

abbrev pub invariant-loop-number : goal.invariant-loop-number
invariant-loop-number g l = length l.pickers.items ≡ l.number
