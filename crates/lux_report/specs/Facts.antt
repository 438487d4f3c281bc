-- What a report is written of, beside a project and a ledger.
use Rattle.std.specs.Prelude.{◌≡◌, ℕ, List, length, map, Vec}
use Rattle.std.specs.List.{zip}
use Rattle.std.specs.declared.alloc.Global.{Global}
use Rattle.compliance.specs.declared.checks.CheckSpec.{CheckSpec}
use Rattle.compliance.specs.declared.judging.Judged.{Judged}
use Rattle.flux_ledger.specs.declared.ledger.Ledger.{Ledger}
use Rattle.flux_ledger.specs.Balance.{HasPatches}
use Rattle.project_file.specs.Projects.{Project}

-- how many shooters the run had, the ends of each patch in nanolumens, the ends of each point of each check in nanolux, and
-- what each check is answered
pub record Facts : Type 0 where
  pub shooters : ℕ
  pub bounds : List (ℕ × ℕ)
  pub points : List (List (ℕ × ℕ))
  pub judged : List Judged

-- the lists that the code keeps
abbrev pub lists_of : List (Vec (ℕ × ℕ) Global) → List (List (ℕ × ℕ))
lists_of vectors = map (λ vector. vector.items) vectors

-- the checks of a project, each with the ends of its points and with what it is answered
abbrev pub judged_checks : Project → Facts → List (CheckSpec × (List (ℕ × ℕ) × Judged))
judged_checks project facts = zip project.checks (zip facts.points facts.judged)

-- each list of the ledger has a number for each patch, and there are ends for each
pub record CoversPatches (ledger : Ledger) (facts : Facts) : Type 0 where
  pub lists : HasPatches (length ledger.direct) ledger
  pub bounds : length facts.bounds ≡ length ledger.direct

-- for each check of the project there are points and an answer
pub record CoversChecks (project : Project) (facts : Facts) : Type 0 where
  pub points : length facts.points ≡ length project.checks
  pub judged : length facts.judged ≡ length project.checks

-- a ledger and facts that have all that a report of this project says
pub record AreWhole (project : Project) (ledger : Ledger) (facts : Facts) : Type 0 where
  pub patches : CoversPatches ledger facts
  pub checks : CoversChecks project facts
