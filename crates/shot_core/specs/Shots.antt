-- A shot: the whole residual of a patch is taken, and what the patch passes on goes to all patches
-- (a step of progressive refinement, Cohen, Chen, Wallace and Greenberg 1988; that fractions are carried is this project's own rule).
use Rattle.std.specs.Prelude.{ℕ, ◌+◌, ◌*◌, ◌/◌, ◌%◌, List, map, slice_index, slice_set}
use Rattle.std.specs.List.{range_with_len}
use Rattle.flux_system.specs.System.{FluxSystem, scale, patches, coefficient}
use Rattle.flux_ledger.specs.declared.ledger.Ledger.{Ledger}

-- the list of f at each patch
abbrev pub at_each_patch : FluxSystem → (ℕ → ℕ) → List ℕ
at_each_patch s f = map f (range_with_len 0 (patches s))

-- what patch j has to its fraction, in parts of a nanolumen, once patch i shot t nanolumens
abbrev pub parts_after : FluxSystem → ℕ → ℕ → List ℕ → ℕ → ℕ
parts_after s i t err j = slice_index err j + t * coefficient s i j

-- the whole nanolumens of that go to the amounts
abbrev pub amounts_after : FluxSystem → ℕ → ℕ → List ℕ → List ℕ → List ℕ
amounts_after s i t amounts err = at_each_patch s (λ j. slice_index amounts j + parts_after s i t err j / scale)

-- and the rest stays as the fraction
abbrev pub fractions_after : FluxSystem → ℕ → ℕ → List ℕ → List ℕ
fractions_after s i t err = at_each_patch s (λ j. parts_after s i t err j % scale)

-- the ledger after the whole residual of patch i was taken and given on
abbrev pub shot : FluxSystem → Ledger → ℕ → Ledger
shot s l i = let t = slice_index l.residual i in record l {
  taken = slice_set l.taken i (slice_index l.taken i + t);
  residual = amounts_after s i t (slice_set l.residual i 0) l.err;
  err = fractions_after s i t l.err;
  wins = l.wins + 1;
}
