-- What the duties and the numbers of one line are.
use Rattle.std.proofs.Common.{◌≡◌, ℕ, ◌+◌, ◌<◌, ◌==◌, ◌&&◌, Bool, true, false, List, [], ◌∷◌, ◌++◌, None, Some, slice_index, refl, arith}
use Rattle.std.proofs.lemmas.Bool.Decides.{nat_tests}
use Rattle.duties.specs.Duties.{unless}
use Rattle.lux_lines.specs.Lines.{lines, line_text}
use Rattle.lux_lines.specs.Words.{words}
use Rattle.laws.proofs.Ranges.{map-more}
use Rattle.ledger_file.specs.declared.faults.LedgerFault.TheVariants.{Number}
use Rattle.ledger_file.specs.Forms.{interval_form, have_form, line_numbers, line_duty}
use Rattle.ledger_file.specs.LedgerFiles.{patch_number, patch_numbers, interval_duty, ends_in}
use Rattle.std.specs.Prelude.{nat_lt, length}

-- the numbers at one place of one line more
pub numbers_more : (text : List ℕ) (place n : ℕ) → patch_numbers text (n + 1) place ≡ patch_numbers text n place ++ patch_number text place n ∷ []
unfolding patch_numbers
numbers_more text place n = map-more (patch_number text place) n

pub numbers_none : (text : List ℕ) (place : ℕ) → patch_numbers text 0 place ≡ []
unfolding patch_numbers
numbers_none text place = refl

-- a line that is there, and passes its test or not
pub line_passes : (text : List ℕ) (k : ℕ) (test : Bool) → k < length (lines text) → test ≡ true → line_duty text k test ≡ None
unfolding line_duty unless
line_passes text k test there passes = let here : nat_lt k (length (lines text)) ≡ true = grind (arith, nat_tests) in rw (here, passes) refl

pub line_fails : (text : List ℕ) (k : ℕ) (test : Bool) → k < length (lines text) → test ≡ false → line_duty text k test ≡ Some (Number (k + 1))
unfolding line_duty unless
line_fails text k test there fails = let here : nat_lt k (length (lines text)) ≡ true = grind (arith, nat_tests) in rw (here, fails) refl

-- the interval line of patch j is line k
module _ (text : List ℕ) (n j k : ℕ) (is : 4 + n + j ≡ k) where
  pub interval_at : interval_duty text n j ≡ line_duty text k (have_form interval_form (words (line_text text k)) && (slice_index (line_numbers interval_form text k) 0 == j))
  interval_at = rw is refl

  pub ends_at : ends_in text n j ≡ (slice_index (line_numbers interval_form text k) 1, slice_index (line_numbers interval_form text k) 2)
  ends_at = rw is refl
