-- What stands behind the lines of n patches.
use Rattle.std.proofs.Common.{◌≡◌, ℕ, ◌+◌, Bool, true, false, List, [], ◌∷◌, None, Some, map, refl, sym, ◌∙◌, arith}
use Rattle.std.proofs.lemmas.Bool.Decides.{nat_tests}
use Rattle.std.specs.Prelude.{nat_lt, length, bytes_eq, codes}
use Rattle.std.specs.List.{range_with_len}
use Rattle.duties.specs.Duties.{first, each}
use Rattle.duties.proofs.Orders.{this_met, this_fails, none_left, unless_holds, unless_fails}
use Rattle.lux_lines.specs.Lines.{lines, line_text}
use Rattle.lux_lines.specs.Words.{words, word_at}
use Rattle.ledger_file.specs.declared.faults.LedgerFault.{LedgerFault}
use Rattle.ledger_file.specs.declared.faults.LedgerFault.TheVariants.{Trailing}
use Rattle.ledger_file.specs.LedgerFiles.{has_intervals, interval_duty, intervals_duty, end_duty, ends_in, intervals_in}

module _ (text : List ℕ) (n : ℕ) where
  module _ (closed : has_intervals text n ≡ false) where
    pub no_intervals : intervals_in text n ≡ None
    unfolding intervals_in
    no_intervals = rw closed refl

    -- nothing more stands there
    pub closed_here : nat_lt (4 + n) (length (lines text)) ≡ false → first (intervals_duty text n ∷ end_duty text n ∷ []) ≡ None
    closed_here last = rw closed (this_met _ _ refl ∙ (this_met _ _ (unless_holds _ _ (grind (arith, nat_tests))) ∙ none_left))

    -- a line that opens no intervals
    pub closed_but : nat_lt (4 + n) (length (lines text)) ≡ true → first (intervals_duty text n ∷ end_duty text n ∷ []) ≡ Some (Trailing (4 + n + 1))
    closed_but more = rw closed (this_met _ _ refl ∙ this_fails _ _ _ (unless_fails _ _ (grind (arith, nat_tests))))

  module _ (opened : has_intervals text n ≡ true) where
    pub some_intervals : intervals_in text n ≡ Some (map (ends_in text n) (range_with_len 0 n))
    unfolding intervals_in
    some_intervals = rw opened refl

    -- an interval line that isn't as it should be
    pub open_fails : (fault : LedgerFault) → each n (interval_duty text n) ≡ Some fault → first (intervals_duty text n ∷ end_duty text n ∷ []) ≡ Some fault
    open_fails fault fails = rw opened (this_fails _ _ _ fails)

    -- nothing stands behind them
    pub open_ends : each n (interval_duty text n) ≡ None → nat_lt (4 + n + n) (length (lines text)) ≡ false → first (intervals_duty text n ∷ end_duty text n ∷ []) ≡ None
    open_ends met last = rw opened (this_met _ _ met ∙ (this_met _ _ (unless_holds _ _ (grind (arith, nat_tests))) ∙ none_left))

    -- a line stands behind them
    pub open_but : each n (interval_duty text n) ≡ None → nat_lt (4 + n + n) (length (lines text)) ≡ true → first (intervals_duty text n ∷ end_duty text n ∷ []) ≡ Some (Trailing (4 + n + n + 1))
    open_but met more = rw opened (this_met _ _ met ∙ this_fails _ _ _ (unless_fails _ _ (grind (arith, nat_tests))))

-- a line behind those of n patches, whose first word was compared
pub compared : (text : List ℕ) (n read : ℕ) (opens : Bool) (line : List ℕ) → read ≡ 4 + n → true ≡ nat_lt read (length (lines text)) → line ≡ line_text text read
    → opens ≡ bytes_eq (word_at (words line) 0) (codes "interval") → has_intervals text n ≡ opens
compared text n read opens line place there is told = let more = rw place at there in let here = rw place at is in rw (← more, ← here) (sym told)
