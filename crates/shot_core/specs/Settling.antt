-- The settled ledger: the first patch of the greatest residual shoots, again and again while that residual reaches the threshold
-- (the order of progressive refinement, Cohen, Chen, Wallace and Greenberg 1988).
use Rattle.std.specs.Prelude.{ℕ, zero, suc, Bool, if◌then◌else◌, nat_le, List, slice_index, replicate}
use Rattle.picker.specs.Greatest.{greatest_place}
use Rattle.flux_system.specs.System.{FluxSystem, patches}
use Rattle.flux_ledger.specs.Balance.{unshot}
use Rattle.flux_ledger.specs.declared.ledger.Ledger.{Ledger}
use Rattle.shot_core.specs.Shots.{shot}

-- the first patch of the greatest residual
abbrev pub brightest_patch : List ℕ → ℕ
brightest_patch residual = greatest_place residual

-- some residual reaches the threshold
abbrev pub reaches : FluxSystem → Ledger → Bool
reaches s l = nat_le s.threshold (slice_index l.residual (brightest_patch l.residual))

-- so many shots at most, each of the brightest patch, while its residual reaches the threshold
abbrev pub settled_ledger_within : ℕ → FluxSystem → Ledger → Ledger
settled_ledger_within zero s l = l
settled_ledger_within (suc shots) s l = if reaches s l then settled_ledger_within shots s (shot s l (brightest_patch l.residual)) else l

-- the ledger that all those shots lead to: each shot lowers what is unshot by what the patch keeps, so there are fewer shots than parts of it
abbrev pub settled_ledger : FluxSystem → Ledger → Ledger
settled_ledger s l = settled_ledger_within (unshot s l) s l

-- a ledger of which nothing was taken yet
abbrev pub untouched_ledger : FluxSystem → List ℕ → Ledger
untouched_ledger s direct = record {
  direct = direct;
  taken = replicate (patches s) 0;
  residual = direct;
  err = replicate (patches s) 0;
  parts = 1;
  wins = 0;
}
