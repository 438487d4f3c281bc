-- The parts of a ledger text's meaning.
use Rattle.std.proofs.Common.{◌≡◌, ℕ, List, [], ◌∷◌, Some, None, Ok, Err, length, map, ◌∙◌, Bool, true, false, if◌then◌else◌, IfSome}
use Rattle.std.specs.List.{range_with_len}
use Rattle.std.proofs.lemmas.List.FromFn.{length-map-range_with_len}
use Rattle.duties.specs.Duties.{first, each}
use Rattle.duties.proofs.Orders.{fault_in_front, front_met, judged_ok, judged_err, this_met, this_fails}
use Rattle.ledger_file.specs.declared.faults.LedgerFault.{LedgerFault}
use Rattle.ledger_file.specs.LedgerFiles.{LedgerFile, patch_count, patch_duty, patch_number, patch_numbers, has_intervals, ends_in, intervals_duty, end_duty, head_duties, list_duties, text_duties, ledger_in, intervals_in, ledger_of}

module _ (text : List ℕ) where
  abbrev said : LedgerFile
  said = record { ledger = ledger_in text (patch_count text); intervals = intervals_in text (patch_count text) }

  -- the head's first fault is the text's
  pub head_fails : (fault : LedgerFault) → first (head_duties text) ≡ Some fault → ledger_of text ≡ Err fault
  unfolding text_duties
  head_fails fault h = judged_err (text_duties text) said fault (fault_in_front (head_duties text) (list_duties text (patch_count text)) fault h)

  -- behind a head that is met, the lists decide
  lists_decide : first (head_duties text) ≡ None → first (text_duties text) ≡ first (list_duties text (patch_count text))
  unfolding text_duties
  lists_decide head = front_met (head_duties text) (list_duties text (patch_count text)) head

  -- the first fault of the lines of patches
  pub patches_fail : (fault : LedgerFault) → first (head_duties text) ≡ None → each (patch_count text) (patch_duty text) ≡ Some fault → ledger_of text ≡ Err fault
  unfolding list_duties
  patches_fail fault head h = judged_err (text_duties text) said fault (lists_decide head ∙ this_fails _ _ _ h)

  -- behind these, the first fault of what stands there
  pub ending_fails : (fault : LedgerFault) → first (head_duties text) ≡ None → each (patch_count text) (patch_duty text) ≡ None
      → first (intervals_duty text (patch_count text) ∷ end_duty text (patch_count text) ∷ []) ≡ Some fault → ledger_of text ≡ Err fault
  unfolding list_duties
  ending_fails fault head patches h = judged_err (text_duties text) said fault (lists_decide head ∙ (this_met _ _ patches ∙ h))

  -- where all is met, what the text says
  pub all_met : first (head_duties text) ≡ None → each (patch_count text) (patch_duty text) ≡ None → first (intervals_duty text (patch_count text) ∷ end_duty text (patch_count text) ∷ []) ≡ None
      → ledger_of text ≡ Ok (record { ledger = ledger_in text (patch_count text); intervals = intervals_in text (patch_count text) })
  unfolding list_duties
  all_met head patches ending = judged_ok (text_duties text) said (lists_decide head ∙ (this_met _ _ patches ∙ ending))

  -- a list has a number for each patch
  pub numbers_len : (n place : ℕ) → length (patch_numbers text n place) ≡ n
  unfolding patch_numbers
  numbers_len n place = length-map-range_with_len (patch_number text place) 0 n

  -- there are intervals for each patch, where there are any
  pub intervals_len : (n : ℕ) → IfSome (intervals_in text n) (λ ends. length ends ≡ n)
  unfolding intervals_in
  intervals_len n = by_case (has_intervals text n)
    where
      by_case : (b : Bool) → IfSome (if b then Some (map (ends_in text n) (range_with_len 0 n)) else None) (λ ends. length ends ≡ n)
      by_case true = length-map-range_with_len (ends_in text n) 0 n
      by_case false = tt
