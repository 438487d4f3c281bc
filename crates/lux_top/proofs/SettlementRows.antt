-- What is known where a ledger was found, and what is written of it.
use Rattle.std.proofs.Common.{◌≡◌, ℕ, List, Some, Ok, Err, ap, subst}
use Rattle.compliance.specs.declared.verdicts.Worst.{Worst}
use Rattle.flux_ledger.specs.declared.ledger.Ledger.{Ledger}
use Rattle.lux_io.specs.Shelves.{ShelfState}
use Rattle.lux_io.specs.Sinks.{Wrote, WroteSome}
use Rattle.lux_answers.specs.declared.answers.Answer.{Answer}
use Rattle.lux_answers.specs.declared.answers.Answer.TheVariants.{Done, Write}
use Rattle.lux_answers.specs.Notes.{PutsNote}
use Rattle.lux_plans.specs.Plans.{Plan, Choose, Give, Decides}
use Rattle.lux_plans.specs.Runs.{World}
use Rattle.lux_plans.specs.Writings.{Writing}
use Rattle.lux_top.specs.Settlements.{IsSolvedBy, IsSolved, IsCutOff}
use Rattle.lux_top.specs.SystemFiles.{Problem}

module _ (writing_of : Ledger → Writing) (before after : ShelfState) where
  module _ (IsLedger : Ledger → Type 0) where
    -- some ledger of which a fact holds, and what is written of it
    abbrev of_some_ledger : Plan Writing
    of_some_ledger = Choose IsLedger (λ ledger. Give (writing_of ledger))

    pub settlement_is : (writing : Writing) → Decides of_some_ledger before after (Ok writing)
        → (ledger : Ledger) × IsLedger ledger × (writing ≡ writing_of ledger)
    settlement_is writing (ledger, fact, (is, same)) =
        let this : writing ≡ writing_of ledger = cc in
        (ledger, fact, this)

    -- it is never refused
    pub never_refused : (answer : Answer) → Decides of_some_ledger before after (Err answer) → ⊥
    never_refused answer (ledger, fact, (is, same)) = absurd (cc)

module _ {P : Type 0} (Says : P → Type 0) (problem_of : P → Problem) (IsLedger : P → Ledger → Type 0) (worst_of : P → Ledger → Worst) (bytes_of : P → Ledger → List ℕ) where
  -- a value that is said was solved, and this is what is written of it
  abbrev pub IsWrittenOf : Writing → Type 0
  IsWrittenOf writing =
      (value : P) × (ledger : Ledger) × IsSolvedBy Says problem_of IsLedger value ledger
      × (writing ≡ record { answer = Done (Some ledger) (worst_of value ledger); bytes = bytes_of value ledger })

  module _ (before after : World) (writing : Writing) where
    -- all of it was written
    pub solved_whole : IsWrittenOf writing → Wrote before.out after.out writing.bytes → after.notes ≡ before.notes → IsSolved Says problem_of IsLedger worst_of bytes_of before after writing.answer
    solved_whole by wrote same = record {
      value = by.0;
      ledger = by.1;
      solved = by.2;
      is_answered = ap (λ (w : Writing). w.answer) by.3;
      wrote = subst (λ (w : Writing). Wrote before.out after.out w.bytes) by.3 wrote;
      no_note = same;
    }

    -- or a part from the front
    pub solved_in_part : IsWrittenOf writing → WroteSome before.out after.out writing.bytes → PutsNote Write before.notes after.notes → IsCutOff Says problem_of IsLedger bytes_of before after
    solved_in_part by some noted = record {
      value = by.0;
      ledger = by.1;
      solved = by.2;
      wrote = subst (λ (w : Writing). WroteSome before.out after.out w.bytes) by.3 some;
      noted = noted;
    }
