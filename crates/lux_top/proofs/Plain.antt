-- Each refusal of a command's plan comes from the words and what was read, and each of its values is a success.
use Rattle.std.proofs.Common.{ℕ, List, refl, Option, Some, None}
use Rattle.lit_room.specs.LitRooms.{lit_room_of}
use Rattle.lit_room.specs.declared.faults.LightFault.{LightFault}
use Rattle.lit_room.specs.declared.faults.LightFault.TheVariants as light
use Rattle.project_file.specs.Projects.{Project, project_of}
use Rattle.system_file.specs.SystemText.{system_of}
use Rattle.ledger_file.specs.LedgerFiles.{LedgerFile, ledger_of}
use Rattle.lux_answers.specs.Answers.{cause_of}
use Rattle.lux_answers.specs.declared.answers.Answer.TheVariants as answer
use Rattle.lux_plans.specs.Plans.{Give, accept, each}
use Rattle.lux_plans.proofs.Caused.{IsPlain, IsAny, IsSuccess, NeedsNothing, plain_accept, plain_then, plain_file, plain_each}
use Rattle.run_words.specs.declared.readings.RunWords.{RunWords}
use Rattle.lux_top.specs.declared.commands.Command.{Command}
use Rattle.lux_top.specs.declared.commands.Command.TheVariants.{Solve, Photo, Run, Audit, Generate}
use Rattle.lux_top.specs.AuditCommand.{audited, audit_report, file_audit, ledger_audit, audit_plan}
use Rattle.lux_top.specs.GenerateCommand.{generated_lighting, summary_of, generate_plan}
use Rattle.lux_top.specs.LedgerFiles.{most_ledger_bytes, ledger_file}
use Rattle.lux_top.specs.PhotoCommand.{photometry_output, photo_plan}
use Rattle.lux_top.specs.PhotometryFiles.{photometry_in, photometry_refusal, photometry_file, most_photometry_bytes}
use Rattle.lux_top.specs.ProjectFiles.{most_project_bytes, project_file, web_file, lit_project, lit_room, lit_room_file, light_refusal}
use Rattle.lux_top.specs.RunCommand.{run_plan, crew_report}
use Rattle.lux_top.specs.Settlements.{settlement}
use Rattle.lux_top.specs.SolveCommand.{solve_plan}
use Rattle.lux_top.specs.SystemFiles.{Problem, most_system_bytes, problem_in_limits, within_limits, system_file, problem_file}
use Rattle.lux_top.specs.Commands.{plan_of}

plain_problem : (name : List ℕ) → IsPlain IsAny (problem_file name)
plain_problem name =
    plain_then IsAny IsAny (system_file name) within_limits (plain_file name most_system_bytes system_of answer.System (λ fault. tt))
    (λ problem any. plain_accept (problem_in_limits problem) answer.Limits (λ fault. tt))

pub plain_solve : (name : List ℕ) → IsPlain IsSuccess (solve_plan name)
plain_solve name = plain_then IsAny IsSuccess (problem_file name) settlement (plain_problem name) (λ problem any. λ ledger. refl)

plain_photometry : (name : List ℕ) → IsPlain IsAny (photometry_file name)
plain_photometry name = plain_file name most_photometry_bytes photometry_in (photometry_refusal name) (λ fault. tt)

pub plain_photo : (name : List ℕ) → IsPlain IsSuccess (photo_plan name)
plain_photo name = plain_then IsAny IsSuccess (photometry_file name) photometry_output (plain_photometry name) (λ photometry any. refl)

plain_web : (name : List ℕ) → IsPlain IsAny (web_file name)
plain_web name = plain_then IsAny IsAny (photometry_file name) (λ photometry. Give photometry.web) (plain_photometry name) (λ photometry any. tt)

plain_light : (fault : LightFault) → NeedsNothing (cause_of (light_refusal fault))
plain_light (light.Room fault) = tt
plain_light (light.Fixture fault) = tt
plain_light (light.Limits fault) = tt
plain_light (light.Grid check fault) = tt
plain_light light.Memory = tt

plain_lit_project : (project : Project) → IsPlain IsAny (lit_project project)
plain_lit_project project =
    plain_then IsAny IsAny (each web_file project.files) (λ webs. lit_room (record { project = project; webs = webs })) (plain_each web_file plain_web project.files)
    (λ webs any. plain_accept (lit_room_of (record { project = project; webs = webs })) light_refusal plain_light)

plain_lit_room : (name : List ℕ) → IsPlain IsAny (lit_room_file name)
plain_lit_room name =
    plain_then IsAny IsAny (project_file name) lit_project (plain_file name most_project_bytes project_of answer.Project (λ fault. tt))
    (λ project any. plain_lit_project project)

pub plain_run : (words : RunWords) → IsPlain IsSuccess (run_plan words)
plain_run words = plain_then IsAny IsSuccess (lit_room_file words.project) (crew_report words.form words.shooters) (plain_lit_room words.project) (λ lighting any. λ ledger. refl)

plain_file_audit : (problem : Problem) (file : LedgerFile) → IsPlain IsSuccess (file_audit problem file)
plain_file_audit problem file =
    plain_then IsAny IsSuccess (accept (audited problem file) answer.AuditNo) (audit_report problem) (plain_accept (audited problem file) answer.AuditNo (λ found. tt)) (λ ledger any. λ choice. refl)

plain_ledger_audit : (name : List ℕ) (problem : Problem) → IsPlain IsSuccess (ledger_audit name problem)
plain_ledger_audit name problem =
    plain_then IsAny IsSuccess (ledger_file name) (file_audit problem) (plain_file name most_ledger_bytes ledger_of answer.LedgerText (λ fault. tt)) (λ file any. plain_file_audit problem file)

pub plain_audit : (system ledger : List ℕ) → IsPlain IsSuccess (audit_plan system ledger)
plain_audit system ledger = plain_then IsAny IsSuccess (problem_file system) (ledger_audit ledger) (plain_problem system) (λ problem any. plain_ledger_audit ledger problem)

pub plain_generate : (number : ℕ) → IsPlain IsSuccess (generate_plan number)
plain_generate number =
    plain_then IsAny IsSuccess (lit_room (generated_lighting number)) (summary_of number) (plain_accept (lit_room_of (generated_lighting number)) light_refusal plain_light) (λ lighting any. λ ledger. refl)

pub plain_plan : (command : Option Command) → IsPlain IsSuccess (plan_of command)
plain_plan None = tt
plain_plan (Some (Solve name)) = plain_solve name
plain_plan (Some (Photo name)) = plain_photo name
plain_plan (Some (Run words)) = plain_run words
plain_plan (Some (Audit system ledger)) = plain_audit system ledger
plain_plan (Some (Generate number)) = plain_generate number
