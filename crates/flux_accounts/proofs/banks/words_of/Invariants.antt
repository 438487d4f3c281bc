use Rattle.std.proofs.Common.{◌≡◌, ℕ, ◌+◌, ◌<◌, length, get_or}
use Rattle.std.specs.Slots.{slots_items}
use Rattle.flux_accounts.proofs.banks.words_of.Given as goal

-- the words of the patches below j
abbrev pub invariant-loop-j : goal.invariant-loop-j
invariant-loop-j l = record {
  long : length l.words.items ≡ l.j;
  same : (k : ℕ) → k < l.j → get_or l.words.items k 0 ≡ get_or (slots_items l.closed.words) (k + 1) 0;
}
