use Rattle.std.proofs.Common.{◌≡◌, ℕ, ◌<◌, ◌≤◌, ◌++◌, length, get_or}
use Rattle.std.proofs.Common.{[]}
use Rattle.flux_system.specs.Entries.{entry_of}
use Rattle.flux_system.proofs.lists.add_row.Given as goal

-- the columns so far have the entry, the others are as before
abbrev pub invariant-loop-j : goal.invariant-loop-j
invariant-loop-j l = record {
  long : length l.columns ≡ length l.row;
  written : (k : ℕ) → k < l.j → get_or l.columns k [] ≡ get_or l.fn.columns k [] ++ entry_of l.patch (get_or l.row k 0);
  others : (k : ℕ) → l.j ≤ k → get_or l.columns k [] ≡ get_or l.fn.columns k [];
}
