-- The parts of a system text's meaning.
use Rattle.std.proofs.Common.{◌≡◌, ℕ, List, [], ◌∷◌, ◌++◌, Some, None, Result, Ok, Err, ap, ◌∙◌}
use Rattle.std.specs.Prelude.{option_map}
use Rattle.duties.specs.Duties.{first}
use Rattle.duties.proofs.Orders.{fault_in_front, front_met, judged_ok, judged_err, this_met, this_fails, none_left}
use Rattle.flux_system.specs.Validity.{system_duties}
use Rattle.flux_system.specs.declared.faults.SystemFault.{SystemFault}
use Rattle.system_file.specs.declared.faults.SysFault.{SysFault}
use Rattle.system_file.specs.SystemText.{patch_count, head_duties, list_duties, text_duties, system_in, direct_in, of_system, system_of}

module _ (text : List ℕ) where
  -- the head's first fault is the text's
  pub head_fails : (fault : SysFault) → first (head_duties text) ≡ Some fault → system_of text ≡ Err fault
  unfolding text_duties
  head_fails fault h =
      judged_err (text_duties text) (system_in text, direct_in text) fault
      (fault_in_front (head_duties text) (list_duties text (patch_count text) ++ option_map of_system (first (system_duties (system_in text))) ∷ []) fault h)

  -- behind a head that is met, the lists' first fault is the text's
  pub lists_fail : (fault : SysFault) → first (head_duties text) ≡ None → first (list_duties text (patch_count text)) ≡ Some fault → system_of text ≡ Err fault
  unfolding text_duties
  lists_fail fault head h =
      judged_err (text_duties text) (system_in text, direct_in text) fault
      (front_met (head_duties text) (list_duties text (patch_count text) ++ option_map of_system (first (system_duties (system_in text))) ∷ []) head
      ∙ fault_in_front (list_duties text (patch_count text)) (option_map of_system (first (system_duties (system_in text))) ∷ []) fault h)

  -- what is left where all lines are met
  lines_met : first (head_duties text) ≡ None → first (list_duties text (patch_count text)) ≡ None → first (text_duties text) ≡ first (option_map of_system (first (system_duties (system_in text))) ∷ [])
  unfolding text_duties
  lines_met head lists =
      front_met (head_duties text) (list_duties text (patch_count text) ++ option_map of_system (first (system_duties (system_in text))) ∷ []) head
      ∙ front_met (list_duties text (patch_count text)) (option_map of_system (first (system_duties (system_in text))) ∷ []) lists

  -- behind lines that are met, the flux system's first fault is the text's
  pub system_fails : (refusal : SystemFault) → first (head_duties text) ≡ None → first (list_duties text (patch_count text)) ≡ None → first (system_duties (system_in text)) ≡ Some refusal → system_of text ≡ Err (of_system refusal)
  system_fails refusal head lists h =
      judged_err (text_duties text) (system_in text, direct_in text) (of_system refusal)
      (lines_met head lists ∙ this_fails _ [] (of_system refusal) (ap (option_map of_system) h))

  -- where all is met, the text says its system and its direct flux
  pub all_met : first (head_duties text) ≡ None → first (list_duties text (patch_count text)) ≡ None → first (system_duties (system_in text)) ≡ None → system_of text ≡ Ok (system_in text, direct_in text)
  all_met head lists h =
      judged_ok (text_duties text) (system_in text, direct_in text)
      (lines_met head lists ∙ (this_met _ [] (ap (option_map of_system) h) ∙ none_left))
