-- A system file: the problem that it says, within the limits.
use Rattle.std.specs.Prelude.{◌≡◌, ℕ, List, Result, Ok, None}
use Rattle.duties.specs.Duties.{first, judged}
use Rattle.flux_system.specs.System.{FluxSystem}
use Rattle.flux_system.specs.Limits.{limit_duties}
use Rattle.flux_system.specs.declared.faults.LimitFault.{LimitFault}
use Rattle.lux_io.specs.Shelves.{ShelfState, IsFile}
use Rattle.system_file.specs.SystemText.{system_of}
use Rattle.lux_answers.specs.declared.answers.Answer.TheVariants.{System, Limits}
use Rattle.lux_plans.specs.Plans.{Plan, file, accept, and_then}

-- a flux system and a direct flux for its patches
abbrev pub Problem : Type 0
Problem = FluxSystem × List ℕ

-- the most bytes of a system text: 16 MiB
abbrev pub most_system_bytes : ℕ
most_system_bytes = 16777216

-- the problem of a text, or the refusal of the text
abbrev pub system_text : List ℕ → Plan Problem
system_text text = accept (system_of text) System

-- the problem of a file
abbrev pub system_file : List ℕ → Plan Problem
system_file name = and_then (file name most_system_bytes) system_text

-- the problem once more, where it is within the limits, or the limit that it passes
abbrev pub problem_in_limits : Problem → Result Problem LimitFault
problem_in_limits problem = judged (limit_duties problem.0 problem.1) problem

abbrev pub within_limits : Problem → Plan Problem
within_limits problem = accept (problem_in_limits problem) Limits

-- the problem of a file, within the limits
abbrev pub problem_file : List ℕ → Plan Problem
problem_file name = and_then (system_file name) within_limits

-- the file has a text that says this flux system and this direct flux
pub record IsFileProblem (shelf : ShelfState) (name : List ℕ) (problem : Problem) : Type 0 where
  pub text : List ℕ
  pub is_file : IsFile shelf name most_system_bytes text
  pub accepted : system_of text ≡ Ok problem

-- the problem is within the limits
abbrev pub IsWithinLimits : Problem → Type 0
IsWithinLimits problem = first (limit_duties problem.0 problem.1) ≡ None
