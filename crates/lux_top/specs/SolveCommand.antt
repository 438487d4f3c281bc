-- `solve FILE`: a system text is read, its flux settled on one thread, and what is exact enclosed.
use Rattle.std.specs.Prelude.{◌≡◌, ℕ, List, Err, Some}
use Rattle.duties.specs.Duties.{first}
use Rattle.flux_ledger.specs.declared.ledger.Ledger.{Ledger}
use Rattle.flux_system.specs.Limits.{limit_duties}
use Rattle.lux_io.specs.Shelves.{ShelfState, IsFile}
use Rattle.system_file.specs.SystemText.{system_of}
use Rattle.lux_answers.specs.declared.answers.Answer.{Answer}
use Rattle.lux_answers.specs.declared.answers.Answer.TheVariants.{Read, TooLong, System, Limits, Memory}
use Rattle.lux_plans.specs.Plans.{Plan, Unread, and_then}
use Rattle.lux_plans.specs.Runs.{World, Row}
use Rattle.lux_plans.specs.Writings.{Writing}
use Rattle.lux_top.specs.Settlements.{IsSettledLedger, IsSolved, IsCutOff, ledger_with_intervals, no_verdict, settlement}
use Rattle.lux_top.specs.SystemFiles.{Problem, problem_file, most_system_bytes, IsFileProblem}

-- what it reads, and what it then writes
abbrev pub solve_plan : List ℕ → Plan Writing
solve_plan name = and_then (problem_file name) settlement

-- why a file is refused: this read failed; or found too many bytes; the file has no system text, with its first fault;
-- or what it says is past a limit, with the first. Want of memory needs no reason, and no other answer refuses.
abbrev pub SolveRefusal : List ℕ → ShelfState → ShelfState → Answer → Type 0
SolveRefusal name before after (Read file) = Unread name most_system_bytes before after (Read file)
SolveRefusal name before after (TooLong file) = Unread name most_system_bytes before after (TooLong file)
SolveRefusal name before after (System fault) = (text : List ℕ) × IsFile before name most_system_bytes text × (system_of text ≡ Err fault)
SolveRefusal name before after (Limits fault) = (problem : Problem) × IsFileProblem before name problem × (first (limit_duties problem.0 problem.1) ≡ Some fault)
SolveRefusal name before after Memory = Unit {0}
SolveRefusal name before after _ = ⊥

-- the problem itself, and its text
abbrev pub problem_itself : Problem → Problem
problem_itself problem = problem

abbrev pub problem_text : Problem → Ledger → List ℕ
problem_text problem ledger = ledger_with_intervals problem.0 ledger

-- the file's problem was solved, and all or a part of its text was written
abbrev pub SolvesFile : List ℕ → World → World → Answer → Type 0
SolvesFile name before after = IsSolved (IsFileProblem before.shelf name) problem_itself IsSettledLedger no_verdict problem_text before after

abbrev pub SolvesFileInPart : List ℕ → World → World → Type 0
SolvesFileInPart name before after = IsCutOff (IsFileProblem before.shelf name) problem_itself IsSettledLedger problem_text before after

-- when each answer comes
abbrev pub SolveRow : List ℕ → World → World → Answer → Type 0
SolveRow name before after = Row (SolvesFile name before after) (SolvesFileInPart name before after) (SolveRefusal name before.shelf after.shelf) before after
