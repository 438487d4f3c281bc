use Rattle.std.proofs.Common.{◌≡◌, ◌++◌, map, take}
use Rattle.system_file.specs.Shapes.{narrow_number}
use Rattle.system_file.proofs.rows.append_narrow.Given as goal

abbrev pub invariant-loop-number : goal.invariant-loop-number
invariant-loop-number l = l.into.items ≡ l.fn.into.items ++ map narrow_number (take l.number-index l.row)
