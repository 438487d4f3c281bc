-- Settling takes nothing back: neither what was taken nor the wins become less.
use Rattle.std.proofs.Common.{ℕ, suc, zero, ◌+◌, ◌≤◌, List, [], ◌∷◌, Bool, true, false, cond, slice_index, slice_set, arith}
use Rattle.flux_ledger.specs.Balance.{unshot}
use Rattle.flux_system.specs.System.{FluxSystem}
use Rattle.flux_ledger.specs.declared.ledger.Ledger.{Ledger}
use Rattle.shot_core.specs.Settling.{settled_ledger, settled_ledger_within, brightest_patch, reaches}
use Rattle.shot_core.specs.Shots.{shot}

-- no less was taken anywhere, and no fewer takes were won
pub record GoesOn (before after : Ledger) : Type 0 where
  pub wins : before.wins ≤ after.wins
  pub taken : (j : ℕ) → slice_index before.taken j ≤ slice_index after.taken j

goes_on_further : (first second third : Ledger) → GoesOn first second → GoesOn second third → GoesOn first third
goes_on_further first second third one two = record {
  wins = let a = one.wins in let b = two.wins in omega arith;
  taken = λ j. let a = one.taken j in let b = two.taken j in omega arith;
}

-- a number that is set to a greater one
set_greater : (xs : List ℕ) (i v j : ℕ) → slice_index xs i ≤ v → slice_index xs j ≤ slice_index (slice_set xs i v) j
set_greater [] i v j le = omega arith
set_greater (x ∷ xs) zero v zero le = le
set_greater (x ∷ xs) zero v (suc j) le = omega arith
set_greater (x ∷ xs) (suc i) v zero le = omega arith
set_greater (x ∷ xs) (suc i) v (suc j) le = set_greater xs i v j le

after_shot : (s : FluxSystem) (l : Ledger) (i : ℕ) → GoesOn l (shot s l i)
after_shot s l i = record { wins = omega arith; taken = λ j. set_greater l.taken i (slice_index l.taken i + slice_index l.residual i) j (omega arith) }

either : (b : Bool) (l first second : Ledger) → GoesOn l first → GoesOn l second → GoesOn l (cond b first second)
either true l first second one other = one
either false l first second one other = other

after_shots : (shots : ℕ) (s : FluxSystem) (l : Ledger) → GoesOn l (settled_ledger_within shots s l)
after_shots zero s l = record { wins = omega arith; taken = λ j. omega arith }
after_shots (suc shots) s l =
    let next = shot s l (brightest_patch l.residual) in
    either (reaches s l) l (settled_ledger_within shots s next) l
    (goes_on_further l next (settled_ledger_within shots s next) (after_shot s l (brightest_patch l.residual)) (after_shots shots s next))
    (record { wins = omega arith; taken = λ j. omega arith })

pub after_settling : (s : FluxSystem) (l : Ledger) → GoesOn l (settled_ledger s l)
after_settling s l = after_shots (unshot s l) s l
