-- The command by which `clap` reads the words of `run`.
use Rattle.std.proofs.Common.{◌≡◌, ◌∙◌, ℕ, List, [], ◌∷◌, true, false, Some, codes, ap, ap₂}
use Rattle.clap.specs.Walk.{Rule, rule_of}
use Rattle.clap.specs.Simple.{App, Shape, app_of, app_of_fields, new_app, new_rule, new_shape, on_top, with_rule}
use Rattle.clap.specs.Built.{AddsArg}
use Rattle.clap.specs.declared.builder.arg.Arg.{Arg}
use Rattle.clap.specs.declared.builder.command.Command.{Command}
use Rattle.clap.specs.declared.builder.command.Command.TheViews.{out-Command}
use Rattle.clap.specs.declared.builder.action.ArgAction.TheVariants.{Set, SetTrue}
use Rattle.clap.specs.declared.builder.range.ValueRange.{ValueRange}
use Rattle.clap.specs.declared.builder.value_parser.ValueParser.TheVariants as parser

-- the arguments as the code makes them
abbrev pub project_asked : Rule
project_asked = record (new_rule (codes "project")) { required = true; action = Some Set }

abbrev pub shooters_asked : Rule
shooters_asked = record (new_rule (codes "shooters")) { long = Some (codes "shooters"); action = Some Set }

abbrev pub csv_asked : Rule
csv_asked = record (new_rule (codes "csv")) { long = Some (codes "csv"); action = Some SetTrue }

abbrev pub app : App
app = with_rule (with_rule (with_rule (on_top (λ s. record s { disable_help_flag = true }) (new_app (codes "run"))) project_asked) shooters_asked) csv_asked

abbrev exactly : ℕ → ValueRange
exactly n = record { start_inclusive = n; end_inclusive = n }

-- the arguments as `clap` fills them in
abbrev pub project : Rule
project = record project_asked { parser = Some parser.String; range = Some (exactly 1); index = Some 1 }

abbrev pub shooters : Rule
shooters = record shooters_asked { parser = Some parser.String; range = Some (exactly 1) }

abbrev pub csv : Rule
csv = record csv_asked { parser = Some parser.Bool; range = Some (exactly 0); defaults = codes "false" ∷ []; missing = codes "true" ∷ [] }

abbrev pub rules : List Rule
rules = project ∷ shooters ∷ csv ∷ []

abbrev pub shape : Shape
shape = record (new_shape (codes "run")) { rules = rules; disable_help_flag = true; disable_help_subcommand = true; is_built = true }

-- the command that the code builds step by step
pub app_is : (fresh bare one two all : Command) (file value table : Arg) → app_of fresh ≡ new_app (codes "run") → out-Command bare ≡ record (out-Command fresh) { disable_help_flag = true }
    → AddsArg bare file one → AddsArg one value two → AddsArg two table all → file.global ≡ false → value.global ≡ false → table.global ≡ false
    → rule_of file ≡ project_asked → rule_of value ≡ shooters_asked → rule_of table ≡ csv_asked → app_of all ≡ app
app_is fresh bare one two all file value table is_fresh is_bare first second third local_file local_value local_table file_is value_is table_is =
    let without_help = ap app_of_fields is_bare ∙ ap (on_top (λ s. record s { disable_help_flag = true })) is_fresh in
    third.shape local_table ∙ ap₂ with_rule (second.shape local_value ∙ ap₂ with_rule (first.shape local_file ∙ ap₂ with_rule without_help file_is) value_is) table_is
