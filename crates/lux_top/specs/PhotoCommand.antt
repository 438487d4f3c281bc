-- `photo FILE`: a photometry file is read, and its web written.
use Rattle.std.specs.Prelude.{◌≡◌, ℕ, List, Err, None}
use Rattle.lux_io.specs.Shelves.{ShelfState, IsFile}
use Rattle.lux_io.specs.Sinks.{Wrote, WroteSome}
use Rattle.photo_text.specs.PhotometryText.{photometry_text}
use Rattle.photo_web.specs.declared.photometry.Photometry.{Photometry}
use Rattle.lux_answers.specs.declared.answers.Answer.{Answer}
use Rattle.lux_answers.specs.declared.answers.Answer.TheVariants as answer
use Rattle.compliance.specs.declared.verdicts.Worst.TheVariants.{AllPass}
use Rattle.lux_answers.specs.Notes.{PutsNote}
use Rattle.lux_plans.specs.Plans.{Plan, Give, Unread, and_then}
use Rattle.lux_plans.specs.Runs.{World, Row}
use Rattle.lux_plans.specs.Writings.{Writing}
use Rattle.lux_top.specs.PhotometryFiles.{photometry_in, photometry_file, most_photometry_bytes, IsFilePhotometry}

-- the text of a photometry, without a ledger
abbrev pub photometry_output : Photometry → Plan Writing
photometry_output photometry = Give (record { answer = answer.Done None AllPass; bytes = photometry_text photometry })

-- what it reads, and what it then writes
abbrev pub photo_plan : List ℕ → Plan Writing
photo_plan name = and_then (photometry_file name) photometry_output

-- the photometry of the file was written whole, and no note was put; there is no ledger
pub record WritesPhotometry (name : List ℕ) (before after : World) (answered : Answer) : Type 0 where
  pub photometry : Photometry
  pub is_read : IsFilePhotometry before.shelf name photometry
  pub is_answered : answered ≡ answer.Done None AllPass
  pub wrote : Wrote before.out after.out (photometry_text photometry)
  pub no_note : after.notes ≡ before.notes

-- the output had a fault, and took a part of that text from the front
pub record WritesPhotometryInPart (name : List ℕ) (before after : World) : Type 0 where
  pub photometry : Photometry
  pub is_read : IsFilePhotometry before.shelf name photometry
  pub wrote : WroteSome before.out after.out (photometry_text photometry)
  pub noted : PutsNote answer.Write before.notes after.notes

-- why a file is refused: this read failed; or found too many bytes; or its text is no photometry, with its first fault.
-- Want of memory needs no reason, and no other answer refuses.
abbrev pub PhotoRefusal : List ℕ → ShelfState → ShelfState → Answer → Type 0
PhotoRefusal name before after (answer.Read file) = Unread name most_photometry_bytes before after (answer.Read file)
PhotoRefusal name before after (answer.TooLong file) = Unread name most_photometry_bytes before after (answer.TooLong file)
PhotoRefusal name before after (answer.Photometry file fault) = (file ≡ name) × ((text : List ℕ) × IsFile before name most_photometry_bytes text × (photometry_in text ≡ Err fault))
PhotoRefusal name before after answer.Memory = Unit {0}
PhotoRefusal name before after _ = ⊥

-- when each answer comes
abbrev pub PhotoRow : List ℕ → World → World → Answer → Type 0
PhotoRow name before after = Row (WritesPhotometry name before after) (WritesPhotometryInPart name before after) (PhotoRefusal name before.shelf after.shelf) before after
