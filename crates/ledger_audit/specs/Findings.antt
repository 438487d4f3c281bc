-- What an audit of a ledger finds: the tests in their order, each with what it tells where it isn't passed. They are this project's own.
use Rattle.std.specs.Prelude.{◌≡◌, ℕ, ◌+◌, ◌*◌, ◌==◌, ◌&&◌, Bool, true, false, nat_lt, nat_le, List, [], ◌∷◌, length, slice_index, slice_index_or, unwrap_or}
use Rattle.duties.specs.Duties.{Duty, unless, first, each}
use Rattle.flux_system.specs.System.{FluxSystem, scale, patches, bound_of_takes}
use Rattle.flux_ledger.specs.declared.ledger.Ledger.{Ledger}
use Rattle.flux_ledger.specs.Balance.{passed_to, IsBalanced, IsFinished}
use Rattle.enclosure.specs.Interval.{interval_of}
use Rattle.ledger_audit.specs.declared.findings.Finding.{Finding}
use Rattle.ledger_audit.specs.declared.findings.Finding.TheVariants.{Balanced, Size, Direct, Err, Residual, Unbalanced, Wins, Bounds}

-- the ledger has as many patches as the system
abbrev pub size_duty : FluxSystem → Ledger → Duty Finding
size_duty s l = unless (patches s == length l.direct) (Size (patches s) (length l.direct))

-- the direct flux of patch j is the one that the ledger has
abbrev pub direct_duty : List ℕ → Ledger → ℕ → Duty Finding
direct_duty direct l j = unless (slice_index direct j == slice_index l.direct j) (Direct j (slice_index direct j) (slice_index l.direct j))

-- the fraction of patch j is below a nanolumen for each account
abbrev pub err_duty : Ledger → ℕ → Duty Finding
err_duty l j = unless (nat_lt (slice_index l.err j) (scale * l.parts)) (Err j (slice_index l.err j))

-- the residual of patch j is below the threshold
abbrev pub residual_duty : FluxSystem → Ledger → ℕ → Duty Finding
residual_duty s l j = unless (nat_lt (slice_index l.residual j) s.threshold) (Residual j (slice_index l.residual j))

-- what was taken of patch j and what is left there, its fraction with it, in parts of a nanolumen
abbrev pub left_side : Ledger → ℕ → ℕ
left_side l j = scale * (slice_index l.taken j + slice_index l.residual j) + slice_index l.err j

-- what came to patch j directly and was passed on to it, in parts of a nanolumen
abbrev pub right_side : FluxSystem → Ledger → ℕ → ℕ
right_side s l j = scale * slice_index l.direct j + passed_to s l.taken j

-- both sides of patch j are one
abbrev pub balance_duty : FluxSystem → Ledger → ℕ → Duty Finding
balance_duty s l j = unless (left_side l j == right_side s l j) (Unbalanced j (left_side l j) (right_side s l j))

-- there are no more wins than the bound of takes
abbrev pub wins_duty : FluxSystem → List ℕ → ℕ → Duty Finding
wins_duty s direct wins = unless (nat_le wins (bound_of_takes s direct)) (Wins wins (bound_of_takes s direct))

-- the tests of a ledger for a flux system and a direct flux, in their order, each over all patches
unfoldable pub audit_duties : FluxSystem → List ℕ → Ledger → List (Duty Finding)
audit_duties s direct l =
    size_duty s l
    ∷ each (patches s) (direct_duty direct l)
    ∷ each (patches s) (err_duty l)
    ∷ each (patches s) (residual_duty s l)
    ∷ each (patches s) (balance_duty s l)
    ∷ wins_duty s direct l.wins
    ∷ []

-- what an audit finds: the first test that isn't passed, or that all are
abbrev pub finding_of : FluxSystem → List ℕ → Ledger → Finding
finding_of s direct l = unwrap_or (first (audit_duties s direct l)) Balanced

-- the ledger is balanced and finished for the system, and of this direct flux
pub record IsAccountOf (s : FluxSystem) (flux : List ℕ) (l : Ledger) : Type 0 where
  pub balanced : IsBalanced s l
  pub finished : IsFinished s l
  pub direct : l.direct ≡ flux

-- both ends of the pair are those of the interval
abbrev pub is_pair : ℕ × ℕ → ℕ × ℕ → Bool
is_pair pair interval = pair.0 == interval.0 && pair.1 == interval.1

-- the pair that was given for patch j is its interval
abbrev pub bounds_duty : FluxSystem → Ledger → List (ℕ × ℕ) → ℕ → Duty Finding
bounds_duty s l given j = unless (is_pair (slice_index_or given j (0, 0)) (interval_of s l j)) (Bounds j (interval_of s l j).0 (interval_of s l j).1)

-- what an audit of given intervals finds: the first that isn't the interval of its patch, or that all are
abbrev pub bounds_finding : FluxSystem → Ledger → List (ℕ × ℕ) → Finding
bounds_finding s l given = unwrap_or (each (patches s) (bounds_duty s l given)) Balanced

-- the finding tells of an interval, or of nothing amiss
abbrev pub is_of_bounds : Finding → Bool
is_of_bounds Balanced = true
is_of_bounds (Bounds patch low high) = true
is_of_bounds _ = false
