use Rattle.std.proofs.Common.{◌≡◌, ◌*◌, length, take, map}
use Rattle.std.specs.List.{flat_map}
use Rattle.transfer_shares.specs.Shares.{weight, shares_of}
use Rattle.transfer_shares.proofs.bands.write_rows_quickly.Given as goal

abbrev pub invariant-loop-i : goal.invariant-loop-i
invariant-loop-i l = record {
  places : length l.weights ≡ l.n;
  written : take (l.i * l.n) l.into ≡ flat_map (λ from. shares_of (map (weight from) l.patches)) (take l.i l.band);
}
