-- The rows of `run`, from its plan.
use Rattle.std.proofs.Common.{◌≡◌, inl, inr, ℕ, List, [], ◌∷◌, take, refl, sym, subst, Ok, Err}
use Rattle.lit_room.specs.LitRooms.{Lighting, lit_room_of}
use Rattle.lit_room.specs.declared.faults.LightFault.{LightFault}
use Rattle.lit_room.specs.declared.faults.LightFault.TheVariants as light
use Rattle.lit_room.proofs.Lighting.{within_limits, lit_room_itself}
use Rattle.lux_io.specs.Shelves.{ShelfState, IsFile}
use Rattle.lux_io.specs.Sinks.{Wrote, WroteSome}
use Rattle.photo_web.specs.Web.{PhotometricWeb}
use Rattle.project_file.specs.Projects.{Project, project_of}
use Rattle.lux_answers.specs.declared.answers.Answer.{Answer}
use Rattle.lux_answers.specs.declared.answers.Answer.TheVariants as answer
use Rattle.lux_answers.specs.declared.answers.Outcome.{Outcome}
use Rattle.lux_answers.specs.Notes.{PutsNote}
use Rattle.lux_plans.specs.Plans.{Give, Decides, Unread, and_then, each}
use Rattle.lux_plans.specs.Runs.{World, Runs}
use Rattle.lux_plans.specs.Writings.{Writing}
use Rattle.lux_plans.proofs.Parts.{given_parts, refused_parts, accepted_is, refused_is}
use Rattle.lux_plans.proofs.Rows.{row_of}
use Rattle.lux_plans.proofs.Steps.{first_given, refused_step}
use Rattle.lux_top.specs.PhotoCommand.{PhotoRefusal}
use Rattle.lux_top.specs.PhotometryFiles.{photometry_in, photometry_file, most_photometry_bytes}
use Rattle.lux_top.specs.ProjectFiles.{project_file, most_project_bytes, web_file, lit_room, lit_project, lit_room_file, light_refusal, IsFileProject, IsFileWeb, AreFileWebs, IsFileLitRoom, IsNextOf}
use Rattle.lux_top.specs.RunCommand.{problem_of, run_plan, crew_report, report_bytes, report_writing, worst_verdict, IsRoomLedger, RunRefusal, RunRow, SolvesProject, SolvesProjectInPart}
use Rattle.run_words.specs.declared.readings.RunWords.{RunWords}
use Rattle.run_words.specs.declared.report_forms.ReportForm.{ReportForm}
use Rattle.lux_top.proofs.Plain.{plain_run}
use Rattle.lux_top.proofs.PhotoRows.{photometry_is, file_reason}
use Rattle.lux_top.proofs.Reading.{file_says, file_refuses}
use Rattle.lux_top.proofs.SettlementRows.{IsWrittenOf, settlement_is, never_refused, solved_whole, solved_in_part}

-- the web of a file that was read
web_is : (name : List ℕ) (before after : ShelfState) (web : PhotometricWeb) → Decides (web_file name) before after (Ok web) → IsFileWeb before name web
web_is name before after web h =
    let parts = given_parts (photometry_file name) (λ photometry. Give photometry.web) before after web h in
    let this : web ≡ parts.0.web = cc in
    record { photometry = parts.0; is_read = photometry_is name before before parts.0 parts.1; same = this }

-- why the web of a file is refused
web_reason : (name : List ℕ) (before after : ShelfState) (refusal : Answer) → Decides (web_file name) before after (Err refusal) → PhotoRefusal name before after refusal
web_reason name before after refusal h = elim (refused_parts (photometry_file name) (λ photometry. Give photometry.web) before after refusal h) [
  | inl first ↦ file_reason name before after refusal first
  | inr parts ↦ absurd (cc)
]

-- the webs of files that were read
webs_are : (names : List (List ℕ)) (before after : ShelfState) (webs : List PhotometricWeb) → Decides (each web_file names) before after (Ok webs) → AreFileWebs before names webs
webs_are [] before after webs (is, same) = let none : webs ≡ [] = cc in rw none tt
webs_are (name ∷ names) before after webs h =
    let parts = first_given web_file name names before after webs h in
    rw parts.2 (web_is name before before parts.0 parts.3, webs_are names before before parts.1 parts.4)

module _ (name : List ℕ) (before after : ShelfState) where
  project_is : (project : Project) → Decides (project_file name) before before (Ok project) → IsFileProject before name project
  project_is project h =
      let text = file_says name most_project_bytes project_of answer.Project before before project h in
      record { text = text.0; is_file = text.1; accepted = text.2 }

  project_reason : (refusal : Answer) → Decides (project_file name) before after (Err refusal) → RunRefusal name before after refusal
  project_reason refusal h = elim (file_refuses name most_project_bytes project_of answer.Project before after refusal h) [
    | inl unread ↦ unread_reason refusal unread
    | inr text ↦ rw text.2.2 (text.0, text.1, text.2.1)
  ]
    where
      unread_reason : (refusal : Answer) → Unread name most_project_bytes before after refusal → RunRefusal name before after refusal
      unread_reason (answer.Read file) h = (most_project_bytes, inl (h.0, refl), subst (λ (n : List ℕ). Unread n most_project_bytes before after (answer.Read file)) (sym h.0) h)
      unread_reason (answer.TooLong file) h = (most_project_bytes, inl (h.0, refl), subst (λ (n : List ℕ). Unread n most_project_bytes before after (answer.TooLong file)) (sym h.0) h)
      unread_reason _ h = absurd h

  module _ (project : Project) (is : IsFileProject before name project) where
    -- a photometry file of the project is refused
    next_reason : (file : List ℕ) → IsNextOf before project.files file → (refusal : Answer) → PhotoRefusal file before after refusal → RunRefusal name before after refusal
    next_reason file next (answer.Read other) h =
        let of_other = subst (λ (n : List ℕ). IsNextOf before project.files n) (sym h.0) next in (
          most_photometry_bytes,
          inr (record { project = project; is_read = is; next = of_other }, refl),
          subst (λ (n : List ℕ). Unread n most_photometry_bytes before after (answer.Read other)) (sym h.0) h,
        )
    next_reason file next (answer.TooLong other) h =
        let of_other = subst (λ (n : List ℕ). IsNextOf before project.files n) (sym h.0) next in (
          most_photometry_bytes,
          inr (record { project = project; is_read = is; next = of_other }, refl),
          subst (λ (n : List ℕ). Unread n most_photometry_bytes before after (answer.TooLong other)) (sym h.0) h,
        )
    next_reason file next (answer.Photometry other fault) h =
        let of_other = subst (λ (n : List ℕ). IsNextOf before project.files n) (sym h.0) next in (
          record { project = project; is_read = is; next = of_other },
          subst (λ (n : List ℕ). (text : List ℕ) × IsFile before n most_photometry_bytes text × (photometry_in text ≡ Err fault)) (sym h.0) h.1,
        )
    next_reason file next answer.Memory h = tt
    next_reason file next _ h = absurd h

    webs_reason : (refusal : Answer) → Decides (each web_file project.files) before after (Err refusal) → RunRefusal name before after refusal
    webs_reason refusal h =
        let at = refused_step web_file project.files before after refusal h in
        next_reason at.1 (record { before = at.0; is_next = at.3; webs = at.2; are_read = webs_are (take at.0 project.files) before before at.2 at.4 }) refusal (web_reason at.1 before after refusal at.5)

    -- what was read is no lit room
    light_reason : (webs : List PhotometricWeb) → AreFileWebs before project.files webs → (fault : LightFault) → lit_room_of (record { project = project; webs = webs }) ≡ Err fault → RunRefusal name before after (light_refusal fault)
    light_reason webs are (light.Room fault) refused = record { lighting = record { project = project; webs = webs }; is_read = record { project = is; webs = are }; refused = refused }
    light_reason webs are (light.Fixture fault) refused = record { lighting = record { project = project; webs = webs }; is_read = record { project = is; webs = are }; refused = refused }
    light_reason webs are (light.Limits fault) refused = record { lighting = record { project = project; webs = webs }; is_read = record { project = is; webs = are }; refused = refused }
    light_reason webs are (light.Grid check fault) refused = record { lighting = record { project = project; webs = webs }; is_read = record { project = is; webs = are }; refused = refused }
    light_reason webs are light.Memory refused = tt

    lit_reason : (refusal : Answer) → Decides (lit_project project) before after (Err refusal) → RunRefusal name before after refusal
    lit_reason refusal h = elim (refused_parts (each web_file project.files) (λ webs. lit_room (record { project = project; webs = webs })) before after refusal h) [
      | inl first ↦ webs_reason refusal first
      | inr parts ↦
          let refused = refused_is (lit_room_of (record { project = project; webs = parts.0 })) light_refusal before after refusal parts.2 in
          rw refused.2 (light_reason parts.0 (webs_are project.files before before parts.0 parts.1) refused.0 refused.1)
    ]

  -- why a project is refused
  reason : (form : ReportForm) (shooters : ℕ) (refusal : Answer) → Decides (and_then (lit_room_file name) (crew_report form shooters)) before after (Err refusal) → RunRefusal name before after refusal
  reason form shooters refusal h = elim (refused_parts (lit_room_file name) (crew_report form shooters) before after refusal h) [
    | inl first ↦ elim (refused_parts (project_file name) lit_project before after refusal first) [
      | inl of_file ↦ project_reason refusal of_file
      | inr parts ↦ lit_reason parts.0 (project_is parts.0 parts.1) refusal parts.2
    ]
    | inr parts ↦ absurd (never_refused (report_writing form shooters parts.0) before after (IsRoomLedger shooters parts.0) refusal parts.2)
  ]

  -- the lit room of a file
  lit_room_is : (lighting : Lighting) → Decides (lit_room_file name) before before (Ok lighting) → IsFileLitRoom before name lighting
  lit_room_is lighting h =
      let project = given_parts (project_file name) lit_project before before lighting h in
      let webs = given_parts (each web_file project.0.files) (λ webs. lit_room (record { project = project.0; webs = webs })) before before lighting project.2 in
      let found = accepted_is (lit_room_of (record { project = project.0; webs = webs.0 })) light_refusal before before lighting webs.2 in
      let is : lighting ≡ record { project = project.0; webs = webs.0 } = lit_room_itself (record { project = project.0; webs = webs.0 }) lighting found in
      let itself : Lighting = record { project = project.0; webs = webs.0 } in
      let of_itself : IsFileLitRoom before name itself = record {
        is_read = record { project = project_is project.0 project.1; webs = webs_are project.0.files before before webs.0 webs.1 };
        accepted = subst (λ (l : Lighting). lit_room_of itself ≡ Ok l) is found;
      } in
      subst (λ (l : Lighting). IsFileLitRoom before name l) (sym is) of_itself

module _ (words : RunWords) (before after : World) where
  -- what was solved, and the report on it
  solved : (writing : Writing) → Decides (run_plan words) before.shelf after.shelf (Ok writing)
      → IsWrittenOf (IsFileLitRoom before.shelf words.project) problem_of (IsRoomLedger words.shooters) worst_verdict (report_bytes words.form words.shooters) writing
  solved writing h =
      let parts = given_parts (lit_room_file words.project) (crew_report words.form words.shooters) before.shelf after.shelf writing h in
      let said = lit_room_is words.project before.shelf before.shelf parts.0 parts.1 in
      let settled = settlement_is (report_writing words.form words.shooters parts.0) before.shelf after.shelf (IsRoomLedger words.shooters parts.0) writing parts.2 in
      (parts.0, settled.0, record { is_said = said; within_limits = within_limits parts.0 said.accepted; is_ledger = settled.1 }, settled.2)

  completes : (writing : Writing) → Decides (run_plan words) before.shelf after.shelf (Ok writing) → Wrote before.out after.out writing.bytes → after.notes ≡ before.notes → SolvesProject words before after writing.answer
  completes writing h = solved_whole (IsFileLitRoom before.shelf words.project) problem_of (IsRoomLedger words.shooters) worst_verdict (report_bytes words.form words.shooters) before after writing (solved writing h)

  cuts_off : (writing : Writing) → Decides (run_plan words) before.shelf after.shelf (Ok writing) → WroteSome before.out after.out writing.bytes → PutsNote answer.Write before.notes after.notes → SolvesProjectInPart words before after
  cuts_off writing h = solved_in_part (IsFileLitRoom before.shelf words.project) problem_of (IsRoomLedger words.shooters) worst_verdict (report_bytes words.form words.shooters) before after writing (solved writing h)

  -- the row of each answer
  pub run_row : (outcome : Outcome) → Runs (run_plan words) before after outcome → RunRow words before after outcome.answer
  run_row outcome runs =
      row_of (run_plan words) (SolvesProject words before after) (SolvesProjectInPart words before after) (RunRefusal words.project before.shelf after.shelf) before after (plain_run words)
      (record { completes = completes; cuts_off = cuts_off; reasons = reason words.project before.shelf after.shelf words.form words.shooters; memory = tt }) outcome runs
