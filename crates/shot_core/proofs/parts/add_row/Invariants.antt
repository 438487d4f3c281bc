use Rattle.std.proofs.Common.{◌≡◌, ℕ, ◌+◌, ◌*◌, ◌<◌, length, get_or, drop}
use Rattle.flux_system.specs.Shapes.{share_in}
use Rattle.shot_core.proofs.parts.add_row.Given as goal

-- what is there and what the rest of the row adds is what all of it adds
abbrev pub invariant-loop-entry : goal.invariant-loop-entry
invariant-loop-entry l = record {
  of_highs : length l.highs ≡ length l.fn.highs;
  of_lows : length l.lows ≡ length l.fn.highs;
  of_high : (j : ℕ) → j < length l.fn.highs → get_or l.highs j 0 + l.high * share_in (drop l.entry-index l.row) j ≡ get_or l.fn.highs j 0 + l.high * share_in l.row j;
  of_low : (j : ℕ) → j < length l.fn.highs → get_or l.lows j 0 + l.low * share_in (drop l.entry-index l.row) j ≡ get_or l.fn.lows j 0 + l.low * share_in l.row j;
}
