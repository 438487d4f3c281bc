-- A ledger file: the ledger that it says, perhaps with intervals.
use Rattle.std.specs.Prelude.{◌≡◌, ℕ, List, Ok}
use Rattle.ledger_file.specs.LedgerFiles.{LedgerFile, ledger_of}
use Rattle.lux_io.specs.Shelves.{ShelfState, IsFile}
use Rattle.lux_answers.specs.declared.answers.Answer.TheVariants.{LedgerText}
use Rattle.lux_plans.specs.Plans.{Plan, file, accept, and_then}

-- the most bytes of a ledger text: 16 MiB
abbrev pub most_ledger_bytes : ℕ
most_ledger_bytes = 16777216

-- what a text says, or the refusal of the text
abbrev pub ledger_text : List ℕ → Plan LedgerFile
ledger_text text = accept (ledger_of text) LedgerText

-- what a file says
abbrev pub ledger_file : List ℕ → Plan LedgerFile
ledger_file name = and_then (file name most_ledger_bytes) ledger_text

-- the file has a text that says this ledger and these intervals
pub record IsFileLedger (shelf : ShelfState) (name : List ℕ) (said : LedgerFile) : Type 0 where
  pub text : List ℕ
  pub is_file : IsFile shelf name most_ledger_bytes text
  pub accepted : ledger_of text ≡ Ok said
