-- The commands, which are this project's own: which of them some words are, what it reads and answers, and when each answer
-- comes. A new command adds a line to each table.
use Rattle.std.specs.Prelude.{ℕ, ◌&&◌, if◌then◌else◌, List, [], ◌∷◌, codes, Option, Some, None, option_and_then}
use Rattle.std.specs.Option.{option_map}
use Rattle.lux_answers.specs.declared.answers.Answer.{Answer}
use Rattle.lux_answers.specs.declared.answers.Answer.TheVariants.{Usage, Memory}
use Rattle.lux_lines.specs.Numerals.{is_numeral, numeral_value}
use Rattle.lux_plans.specs.Plans.{Plan, Refuse}
use Rattle.lux_plans.specs.Runs.{World, Refuses}
use Rattle.lux_plans.specs.Writings.{Writing}
use Rattle.lux_words.specs.Words.{no_options, only_operand, two_operands}
use Rattle.run_words.specs.RunWords.{run_of}
use Rattle.lux_top.specs.declared.commands.Command.{Command}
use Rattle.lux_top.specs.declared.commands.Command.TheVariants.{Solve, Photo, Run, Audit, Generate}
use Rattle.lux_top.specs.AuditCommand.{audit_plan, AuditRow}
use Rattle.lux_top.specs.GenerateCommand.{generate_plan, GenerateRow}
use Rattle.lux_top.specs.PhotoCommand.{photo_plan, PhotoRow}
use Rattle.lux_top.specs.ProjectNumbers.{is_project_number}
use Rattle.lux_top.specs.RunCommand.{run_plan, RunRow}
use Rattle.lux_top.specs.SolveCommand.{solve_plan, SolveRow}

-- the number of a project that a word says: a numeral of at most 9,999
abbrev pub number_in : List ℕ → Option ℕ
number_in word = if is_numeral word && is_project_number (numeral_value word) then Some (numeral_value word) else None

-- the words of `gen`: the number of a project
abbrev pub number_of : List (List ℕ) → Option ℕ
number_of words = option_and_then number_in (only_operand (codes "gen") no_options words)

-- the first of some readings of the words that is a command
abbrev pub first_command : List (Option Command) → Option Command
first_command [] = None
first_command (None ∷ others) = first_command others
first_command (Some command ∷ others) = Some command

-- the command that the words are, where they are one
abbrev pub command_of : List (List ℕ) → Option Command
command_of words = first_command (
    option_map Solve (only_operand (codes "solve") no_options words)
    ∷ option_map Photo (only_operand (codes "photo") no_options words)
    ∷ option_map Run (run_of words)
    ∷ option_map (λ files. Audit files.0 files.1) (two_operands (codes "audit") no_options words)
    ∷ option_map Generate (number_of words)
    ∷ [])

-- what each command reads and answers; other words are answered by the usage
abbrev pub plan_of : Option Command → Plan Writing
plan_of None = Refuse Usage
plan_of (Some (Solve name)) = solve_plan name
plan_of (Some (Photo name)) = photo_plan name
plan_of (Some (Run words)) = run_plan words
plan_of (Some (Audit system ledger)) = audit_plan system ledger
plan_of (Some (Generate number)) = generate_plan number

-- words that are no command get the usage line, or want of memory, and nothing is written
abbrev pub UsageRow : World → World → Answer → Type 0
UsageRow before after Usage = Refuses Usage before after
UsageRow before after Memory = Refuses Memory before after
UsageRow before after _ = ⊥

-- the row of an answer, for the command that the words are
abbrev pub CommandRow : Option Command → World → World → Answer → Type 0
CommandRow None before after answer = UsageRow before after answer
CommandRow (Some (Solve name)) before after answer = SolveRow name before after answer
CommandRow (Some (Photo name)) before after answer = PhotoRow name before after answer
CommandRow (Some (Run words)) before after answer = RunRow words before after answer
CommandRow (Some (Audit system ledger)) before after answer = AuditRow system ledger before after answer
CommandRow (Some (Generate number)) before after answer = GenerateRow number before after answer
