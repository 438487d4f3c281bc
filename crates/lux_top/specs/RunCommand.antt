-- `run PROJECT [--shooters N] [--csv]`: a project and the photometry of its luminaires are read, its room is lit, its flux shot by so
-- many shooters and then settled, what is exact enclosed, its checks judged, and all of it reported.
use Rattle.std.specs.Prelude.{◌≡◌, ℕ, List, Some, Err}
use Rattle.compliance.specs.declared.verdicts.Worst.{Worst}
use Rattle.compliance.specs.Worst.{verdicts_of, worst_of}
use Rattle.flux_ledger.specs.declared.ledger.Ledger.{Ledger}
use Rattle.lit_room.specs.LitRooms.{Lighting, system_of, flux_of, lit_room_of}
use Rattle.lit_room.specs.declared.faults.LightFault.{LightFault}
use Rattle.lit_room.specs.declared.faults.LightFault.TheVariants as light
use Rattle.lux_io.specs.Shelves.{ShelfState, IsFile}
use Rattle.project_file.specs.Projects.{project_of}
use Rattle.lux_answers.specs.declared.answers.Answer.{Answer}
use Rattle.lux_answers.specs.declared.answers.Answer.TheVariants as answer
use Rattle.lux_plans.specs.Plans.{Plan, Give, Choose, Unread, and_then}
use Rattle.lux_plans.specs.Runs.{World, Row}
use Rattle.lux_plans.specs.Writings.{Writing}
use Rattle.lux_report.specs.Report.{report_text, report_csv}
use Rattle.room_facts.specs.RoomFacts.{answers_of, facts_of}
use Rattle.room_facts.specs.Truth.{AreTrue}
use Rattle.run_words.specs.declared.readings.RunWords.{RunWords}
use Rattle.run_words.specs.declared.report_forms.ReportForm.{ReportForm}
use Rattle.run_words.specs.declared.report_forms.ReportForm.TheVariants.{Text, Csv}
use Rattle.lux_top.specs.PhotometryFiles.{photometry_in, most_photometry_bytes}
use Rattle.lux_top.specs.ProjectFiles.{lit_room_file, most_project_bytes, IsFileLighting, IsFileLitRoom, IsNextFile, IsNextPhotometry}
use Rattle.lux_top.specs.Settlements.{IsCrewLedger, IsSolved, IsCutOff}
use Rattle.lux_top.specs.SystemFiles.{Problem}

-- the flux system of a lit room, and the direct flux of its luminaires
abbrev pub problem_of : Lighting → Problem
problem_of lighting = (system_of lighting, flux_of lighting)

-- A ledger that so many shooters leave of a lit room, and what it says is true: its intervals enclose the exact flux of each patch and
-- the exact light at each point of the checks, and a pass or a fail is the exact verdict.
pub record IsRoomLedger (shooters : ℕ) (lighting : Lighting) (ledger : Ledger) : Type 0 where
  pub is_crew_ledger : IsCrewLedger shooters (problem_of lighting) ledger
  pub true_facts : AreTrue lighting (facts_of lighting shooters ledger)

-- the report on it
abbrev pub report_bytes : ReportForm → ℕ → Lighting → Ledger → List ℕ
report_bytes Text shooters lighting ledger = report_text lighting.project ledger (facts_of lighting shooters ledger)
report_bytes Csv shooters lighting ledger = report_csv lighting.project ledger (facts_of lighting shooters ledger)

-- what the verdicts on the checks come to
abbrev pub worst_verdict : Lighting → Ledger → Worst
worst_verdict lighting ledger = worst_of (verdicts_of (answers_of lighting ledger))

-- what is written of it
abbrev pub report_writing : ReportForm → ℕ → Lighting → Ledger → Writing
report_writing form shooters lighting ledger = record { answer = answer.Done (Some ledger) (worst_verdict lighting ledger); bytes = report_bytes form shooters lighting ledger }

-- some ledger that so many shooters leave of a lit room, and the report on it: which one it is may depend on who took what when
abbrev pub crew_report : ReportForm → ℕ → Lighting → Plan Writing
crew_report form shooters lighting = Choose (IsRoomLedger shooters lighting) (λ ledger. Give (report_writing form shooters lighting ledger))

-- what it reads, and what it then writes
abbrev pub run_plan : RunWords → Plan Writing
run_plan words = and_then (lit_room_file words.project) (crew_report words.form words.shooters)

-- the file says a project and webs that are no lit room, for this reason
pub record IsUnlit (shelf : ShelfState) (name : List ℕ) (fault : LightFault) : Type 0 where
  pub lighting : Lighting
  pub is_read : IsFileLighting shelf name lighting
  pub refused : lit_room_of lighting ≡ Err fault

-- why a project is refused: the read of the next file failed; or found too many bytes; the file has no project, with its
-- first fault; the next photometry file has no photometry, with its first fault; or what was read is no lit room, with the
-- first fault of its room, its luminaires, the limits or the checks. Want of memory needs no reason, and no other answer refuses.
abbrev pub RunRefusal : List ℕ → ShelfState → ShelfState → Answer → Type 0
RunRefusal name before after (answer.Read file) = (limit : ℕ) × IsNextFile before name file limit × Unread file limit before after (answer.Read file)
RunRefusal name before after (answer.TooLong file) = (limit : ℕ) × IsNextFile before name file limit × Unread file limit before after (answer.TooLong file)
RunRefusal name before after (answer.Project fault) = (text : List ℕ) × IsFile before name most_project_bytes text × (project_of text ≡ Err fault)
RunRefusal name before after (answer.Photometry file fault) = IsNextPhotometry before name file × ((text : List ℕ) × IsFile before file most_photometry_bytes text × (photometry_in text ≡ Err fault))
RunRefusal name before after (answer.Room fault) = IsUnlit before name (light.Room fault)
RunRefusal name before after (answer.Fixture fault) = IsUnlit before name (light.Fixture fault)
RunRefusal name before after (answer.Limits fault) = IsUnlit before name (light.Limits fault)
RunRefusal name before after (answer.Grid check fault) = IsUnlit before name (light.Grid check fault)
RunRefusal name before after answer.Memory = Unit {0}
RunRefusal name before after _ = ⊥

-- the file's lit room was solved, and all or a part of the report was written
abbrev pub SolvesProject : RunWords → World → World → Answer → Type 0
SolvesProject words before after =
    IsSolved (IsFileLitRoom before.shelf words.project) problem_of (IsRoomLedger words.shooters) worst_verdict (report_bytes words.form words.shooters) before after

abbrev pub SolvesProjectInPart : RunWords → World → World → Type 0
SolvesProjectInPart words before after =
    IsCutOff (IsFileLitRoom before.shelf words.project) problem_of (IsRoomLedger words.shooters) (report_bytes words.form words.shooters) before after

-- when each answer comes
abbrev pub RunRow : RunWords → World → World → Answer → Type 0
RunRow words before after =
    Row (SolvesProject words before after) (SolvesProjectInPart words before after) (RunRefusal words.project before.shelf after.shelf) before after
