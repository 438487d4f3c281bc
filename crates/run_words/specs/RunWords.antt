-- The words of `run`, without the program's name. The rules are this project's own: behind the keyword the file of a project
-- has to stand, and the flag `--csv` and the option `--shooters` with its number may, wherever they like but none of them twice.
use Rattle.std.specs.Prelude.{ℕ, ◌&&◌, Bool, if◌then◌else◌, List, [], ◌∷◌, codes, Option, Some, None, option_and_then}
use Rattle.std.specs.Option.{option_map, option_map_or}
use Rattle.lux_lines.specs.Numerals.{is_numeral, numeral_value}
use Rattle.lux_words.specs.Words.{Options, is_among, only_operand, setting_of}
use Rattle.run_words.specs.ShooterCounts.{is_shooter_count, default_shooters}
use Rattle.run_words.specs.declared.report_forms.ReportForm.{ReportForm}
use Rattle.run_words.specs.declared.report_forms.ReportForm.TheVariants as form
use Rattle.run_words.specs.declared.readings.RunWords.{RunWords}

-- `run` takes a flag, and an option with a value
abbrev pub run_options : Options
run_options = record { flags = codes "--csv" ∷ []; settings = codes "--shooters" ∷ [] }

-- the number of shooters that a word says: a numeral of 1 to 64
abbrev pub shooters_in : List ℕ → Option ℕ
shooters_in word = if is_numeral word && is_shooter_count (numeral_value word) then Some (numeral_value word) else None

-- the number of shooters that words ask for: what the option's value says, or the default where the option isn't there
abbrev pub shooters_of : List (List ℕ) → Option ℕ
shooters_of words = option_map_or shooters_in (setting_of (codes "--shooters") words) (Some default_shooters)

-- the words ask for a table
abbrev pub is_csv : List (List ℕ) → Bool
is_csv words = is_among words (codes "--csv")

-- the form of the report that words ask for
abbrev pub form_of : List (List ℕ) → ReportForm
form_of words = if is_csv words then form.Csv else form.Text

-- what the words of `run` say: its one file, a number of shooters, and a form of the report
abbrev pub run_of : List (List ℕ) → Option RunWords
run_of words =
    option_and_then (λ project. option_map (λ shooters. record { project = project; shooters = shooters; form = form_of words }) (shooters_of words))
    (only_operand (codes "run") run_options words)
