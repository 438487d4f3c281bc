-- What `ledger_text` writes of a ledger is read as this ledger, without intervals.
use Rattle.std.proofs.Common.{◌≡◌, ◌≢◌, ℕ, ◌+◌, false, List, [], ◌∷◌, ◌++◌, None, Result, Ok, Err, IfErr, length, refl, sym, ap, ◌∙◌, arith, append-nil}
use Rattle.std.specs.Prelude.{nat_lt}
use Rattle.std.proofs.lemmas.Bool.Decides.{nat_tests}
use Rattle.duties.specs.Duties.{first, each}
use Rattle.flux_ledger.specs.LedgerText.{ledger_text}
use Rattle.flux_ledger.specs.declared.ledger.Ledger.{Ledger}
use Rattle.lux_lines.specs.Lines.{lines}
use Rattle.ledger_file.specs.declared.faults.LedgerFault.{LedgerFault}
use Rattle.ledger_file.specs.declared.faults.LedgerFault.TheVariants.{Header, Short, Number, Trailing, Size, Memory}
use Rattle.ledger_file.specs.LedgerFiles.{IsWritable, LedgerFile, patch_duty, has_intervals, intervals_duty, end_duty, ledger_in, intervals_in, ledger_of}
use Rattle.ledger_file.proofs.Endings.{closed_here, no_intervals}
use Rattle.ledger_file.proofs.Inverse.{count, patch_count_is, head_met, patches_met, ledger_is}
use Rattle.ledger_file.proofs.Joined.{joined}
use Rattle.ledger_file.proofs.Whole.{all_met}
use Rattle.ledger_file.proofs.Written.{ledger_lines, text_joined}

module _ (l : Ledger) (w : IsWritable l) where
  abbrev n : ℕ
  n = length l.direct

  abbrev text : List ℕ
  text = joined (ledger_lines l ++ [])

  last : nat_lt (4 + n) (length (lines text)) ≡ false
  last = let len = count l w [] refl in grind (arith, nat_tests)

  closed : has_intervals text n ≡ false
  closed = rw last refl

  abbrev said : LedgerFile
  said = record { ledger = l; intervals = None }

  of_lines : ledger_of text ≡ Ok said
  of_lines =
      let counted = patch_count_is l w [] refl in
      all_met text (head_met l w [] refl) (ap (λ (m : ℕ). each m (patch_duty text)) counted ∙ patches_met l w [] refl)
      (ap (λ (m : ℕ). first (intervals_duty text m ∷ end_duty text m ∷ [])) counted ∙ closed_here text n closed last)
      ∙ (λ k. Ok (record { ledger = (ap (ledger_in text) counted ∙ ledger_is l w [] refl) k; intervals = (ap (intervals_in text) counted ∙ no_intervals text n closed) k }))

  pub reads_back : ledger_of (ledger_text l) ≡ Ok (record { ledger = l; intervals = None })
  reads_back = ap ledger_of (text_joined l ∙ ap joined (sym (append-nil (ledger_lines l)))) ∙ of_lines

-- a text that says something is refused for want of memory alone
only_memory : (text : List ℕ) (said : LedgerFile) (fault : LedgerFault) → ledger_of text ≡ Ok said → (fault ≢ Memory → ledger_of text ≡ Err fault) → fault ≡ Memory
only_memory text said Memory is refused = refl
only_memory text said Header is refused = let no : ledger_of text ≡ Err Header = refused (λ e. absurd (cc)) in absurd (cc)
only_memory text said Short is refused = let no : ledger_of text ≡ Err Short = refused (λ e. absurd (cc)) in absurd (cc)
only_memory text said (Number line) is refused = let no : ledger_of text ≡ Err (Number line) = refused (λ e. absurd (cc)) in absurd (cc)
only_memory text said (Trailing line) is refused = let no : ledger_of text ≡ Err (Trailing line) = refused (λ e. absurd (cc)) in absurd (cc)
only_memory text said (Size m) is refused = let no : ledger_of text ≡ Err (Size m) = refused (λ e. absurd (cc)) in absurd (cc)

-- a call that answers as the text says refuses it for want of memory alone
pub refuses_memory : (text : List ℕ) (said : LedgerFile) {V : Type 0} (result : Result V LedgerFault) → ledger_of text ≡ Ok said → IfErr result (λ fault. fault ≢ Memory → ledger_of text ≡ Err fault) → IfErr result (λ fault. fault ≡ Memory)
refuses_memory text said (Ok value) is refused = tt
refuses_memory text said (Err fault) is refused = only_memory text said fault is refused
