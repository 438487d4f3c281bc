-- The rows of `photo`, from its plan.
use Rattle.std.proofs.Common.{◌≡◌, inl, inr, ℕ, List, refl, subst, ap, Ok, Err, None}
use Rattle.lux_io.specs.Shelves.{ShelfState}
use Rattle.lux_io.specs.Sinks.{Wrote, WroteSome}
use Rattle.photo_text.specs.PhotometryText.{photometry_text}
use Rattle.photo_web.specs.declared.photometry.Photometry.{Photometry}
use Rattle.lux_answers.specs.declared.answers.Answer.{Answer}
use Rattle.lux_answers.specs.declared.answers.Answer.TheVariants as answer
use Rattle.lux_answers.specs.declared.answers.Outcome.{Outcome}
use Rattle.compliance.specs.declared.verdicts.Worst.TheVariants.{AllPass}
use Rattle.lux_answers.specs.Notes.{PutsNote}
use Rattle.lux_plans.specs.Plans.{Decides, Unread}
use Rattle.lux_plans.specs.Runs.{World, Runs}
use Rattle.lux_plans.specs.Writings.{Writing}
use Rattle.lux_plans.proofs.Parts.{given_parts, refused_parts}
use Rattle.lux_plans.proofs.Rows.{row_of}
use Rattle.lux_top.specs.PhotoCommand.{photometry_output, photo_plan, WritesPhotometry, WritesPhotometryInPart, PhotoRefusal, PhotoRow}
use Rattle.lux_top.specs.PhotometryFiles.{photometry_in, photometry_refusal, photometry_file, most_photometry_bytes, IsFilePhotometry}
use Rattle.lux_top.proofs.Plain.{plain_photo}
use Rattle.lux_top.proofs.Reading.{file_says, file_refuses}

-- the photometry of a file that was read
pub photometry_is : (name : List ℕ) (before after : ShelfState) (photometry : Photometry) → Decides (photometry_file name) before after (Ok photometry) → IsFilePhotometry before name photometry
photometry_is name before after photometry h =
    let text = file_says name most_photometry_bytes photometry_in (photometry_refusal name) before after photometry h in
    record { text = text.0; is_file = text.1; accepted = text.2 }

module _ (name : List ℕ) (before after : ShelfState) where
  unread_refusal : (refusal : Answer) → Unread name most_photometry_bytes before after refusal → PhotoRefusal name before after refusal
  unread_refusal (answer.Read file) h = h
  unread_refusal (answer.TooLong file) h = h
  unread_refusal _ h = absurd h

  -- why a photometry file is refused
  pub file_reason : (refusal : Answer) → Decides (photometry_file name) before after (Err refusal) → PhotoRefusal name before after refusal
  file_reason refusal h = elim (file_refuses name most_photometry_bytes photometry_in (photometry_refusal name) before after refusal h) [
    | inl unread ↦ unread_refusal refusal unread
    | inr text ↦ rw text.2.2 (refl, (text.0, text.1, text.2.1))
  ]

module _ (name : List ℕ) (before after : World) where
  output_is : (photometry : Photometry) (writing : Writing) → Decides (photometry_output photometry) before.shelf after.shelf (Ok writing) → writing ≡ record { answer = answer.Done None AllPass; bytes = photometry_text photometry }
  output_is photometry writing (is, same) = cc

  completes : (writing : Writing) → Decides (photo_plan name) before.shelf after.shelf (Ok writing) → Wrote before.out after.out writing.bytes → after.notes ≡ before.notes → WritesPhotometry name before after writing.answer
  completes writing h wrote same =
      let parts = given_parts (photometry_file name) photometry_output before.shelf after.shelf writing h in
      let is = output_is parts.0 writing parts.2 in
      record {
        photometry = parts.0;
        is_read = photometry_is name before.shelf before.shelf parts.0 parts.1;
        is_answered = ap (λ (w : Writing). w.answer) is;
        wrote = subst (λ (w : Writing). Wrote before.out after.out w.bytes) is wrote;
        no_note = same;
      }

  cuts_off : (writing : Writing) → Decides (photo_plan name) before.shelf after.shelf (Ok writing) → WroteSome before.out after.out writing.bytes → PutsNote answer.Write before.notes after.notes → WritesPhotometryInPart name before after
  cuts_off writing h some noted =
      let parts = given_parts (photometry_file name) photometry_output before.shelf after.shelf writing h in
      let is = output_is parts.0 writing parts.2 in
      record {
        photometry = parts.0;
        is_read = photometry_is name before.shelf before.shelf parts.0 parts.1;
        wrote = subst (λ (w : Writing). WroteSome before.out after.out w.bytes) is some;
        noted = noted;
      }

  reason : (refusal : Answer) → Decides (photo_plan name) before.shelf after.shelf (Err refusal) → PhotoRefusal name before.shelf after.shelf refusal
  reason refusal h = elim (refused_parts (photometry_file name) photometry_output before.shelf after.shelf refusal h) [
    | inl first ↦ file_reason name before.shelf after.shelf refusal first
    | inr parts ↦ absurd (never parts.0 parts.2)
  ]
    where
      never : (photometry : Photometry) → Decides (photometry_output photometry) before.shelf after.shelf (Err refusal) → ⊥
      never photometry (is, same) = absurd (cc)

  -- the row of each answer
  pub photo_row : (outcome : Outcome) → Runs (photo_plan name) before after outcome → PhotoRow name before after outcome.answer
  photo_row outcome runs =
      row_of (photo_plan name) (WritesPhotometry name before after) (WritesPhotometryInPart name before after) (PhotoRefusal name before.shelf after.shelf) before after (plain_photo name)
      (record { completes = completes; cuts_off = cuts_off; reasons = reason; memory = tt }) outcome runs
