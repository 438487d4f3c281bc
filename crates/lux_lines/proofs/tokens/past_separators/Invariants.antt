use Rattle.std.proofs.Common.{◌≡◌, ℕ, ◌+◌, ◌-◌, ◌<◌, ◌≤◌, ◌^◌, length}
use Rattle.lux_lines.specs.Tokens.{tokens_from}
use Rattle.lux_lines.specs.Cursors.{IsBetweenTokens}
use Rattle.lux_lines.proofs.tokens.past_separators.Given as goal

abbrev pub invariant-loop-at : goal.invariant-loop-at
invariant-loop-at l = record {
  within : l.at ≤ length l.text;
  forth : l.fn.at ≤ l.at;
  room : l.number + (length l.text - l.at) < 2 ^ 32;
  place : (first : ℕ) → IsBetweenTokens first l.text l.fn.at l.fn.number → IsBetweenTokens first l.text l.at l.number × (tokens_from first l.text l.fn.at ≡ tokens_from first l.text l.at);
}

abbrev pub decreases-loop-at : goal.decreases-loop-at
decreases-loop-at l = length l.text - l.at
