use Rattle.std.proofs.Common.{◌≡◌, ◌+◌, ◌≤◌, length, take}
use Rattle.std.specs.List.{suffix_len}
use Rattle.lux_lines.specs.Ends.{is_ending}
use Rattle.lux_lines.proofs.ends.without_endings.Given as goal

abbrev pub invariant-loop-len : goal.invariant-loop-len
invariant-loop-len l = record { within : l.len ≤ length l.text; left : l.len + suffix_len is_ending l.text ≡ length l.text + suffix_len is_ending (take l.len l.text) }

abbrev pub decreases-loop-len : goal.decreases-loop-len
decreases-loop-len l = l.len
