-- `gen NUMBER`: the project of a number is lit, its flux shot by as many shooters as a run has by default and then settled, and a
-- summary written. It reads no file.
use Rattle.std.specs.Prelude.{◌≡◌, ℕ, ◌+◌, ◌++◌, List, [], ◌∷◌, length, sum, codes, Some, Ok, Err}
use Rattle.std.specs.Fmt.{decimal}
use Rattle.compliance.specs.declared.verdicts.Worst.TheVariants.{AllPass}
use Rattle.flux_ledger.specs.Balance.{IsBalanced, IsFinished, IsPaid}
use Rattle.flux_ledger.specs.declared.ledger.Ledger.{Ledger}
use Rattle.lit_room.specs.LitRooms.{Lighting, system_of, flux_of, lit_room_of}
use Rattle.lit_room.specs.declared.faults.LightFault.TheVariants as light
use Rattle.lux_answers.specs.declared.answers.Answer.{Answer}
use Rattle.lux_answers.specs.declared.answers.Answer.TheVariants as answer
use Rattle.lux_plans.specs.Plans.{Plan, Give, Choose, and_then}
use Rattle.lux_plans.specs.Runs.{World, Row}
use Rattle.lux_plans.specs.Writings.{Writing}
use Rattle.run_words.specs.ShooterCounts.{default_shooters}
use Rattle.workload.specs.Generator.{generated_project, generated_web}
use Rattle.lux_top.specs.ProjectFiles.{lit_room}
use Rattle.lux_top.specs.RunCommand.{problem_of}
use Rattle.lux_top.specs.Settlements.{IsSolved, IsCutOff, no_verdict}

-- the project of a number, with the one web of its luminaires
abbrev pub generated_lighting : ℕ → Lighting
generated_lighting number = record { project = generated_project number; webs = generated_web ∷ [] }

-- the summary: what the number gives, and that the ledger balances, which every ledger does that is written of
abbrev pub summary_text : ℕ → Lighting → List ℕ
summary_text number lighting =
    codes "gen " ++ decimal number ++ codes "\npatches " ++ decimal (length (flux_of lighting)) ++ codes "\nluminaires " ++ decimal (length lighting.project.fixtures)
    ++ codes "\nshooters " ++ decimal default_shooters ++ codes "\ndirect " ++ decimal (sum (flux_of lighting)) ++ codes "\nbalanced yes\n"

-- what is written of a ledger
abbrev pub summary_writing : ℕ → Lighting → Ledger → Writing
summary_writing number lighting ledger = record { answer = answer.Done (Some ledger) AllPass; bytes = summary_text number lighting }

-- A ledger of a lit room that as many shooters and a desk have an account of as a run has by default: it is finished, balanced and paid
-- for the room's flux system, and its direct flux is the room's.
pub record IsDefaultLedger (lighting : Lighting) (ledger : Ledger) : Type 0 where
  pub accounts : ledger.parts ≡ 1 + default_shooters
  pub finished : IsFinished (system_of lighting) ledger
  pub balanced : IsBalanced (system_of lighting) ledger
  pub paid : IsPaid (system_of lighting) ledger
  pub same_flux : ledger.direct ≡ flux_of lighting

-- some such ledger, and the summary
abbrev pub summary_of : ℕ → Lighting → Plan Writing
summary_of number lighting = Choose (IsDefaultLedger lighting) (λ ledger. Give (summary_writing number lighting ledger))

-- what it writes
abbrev pub generate_plan : ℕ → Plan Writing
generate_plan number = and_then (lit_room (generated_lighting number)) (summary_of number)

-- why a number is refused: its project is no lit room, for this reason. Want of memory needs no reason, and no other answer refuses.
abbrev pub GenerateRefusal : ℕ → Answer → Type 0
GenerateRefusal number (answer.Room fault) = lit_room_of (generated_lighting number) ≡ Err (light.Room fault)
GenerateRefusal number (answer.Fixture fault) = lit_room_of (generated_lighting number) ≡ Err (light.Fixture fault)
GenerateRefusal number (answer.Limits fault) = lit_room_of (generated_lighting number) ≡ Err (light.Limits fault)
GenerateRefusal number (answer.Grid check fault) = lit_room_of (generated_lighting number) ≡ Err (light.Grid check fault)
GenerateRefusal number answer.Memory = Unit {0}
GenerateRefusal number _ = ⊥

-- the lighting is the number's, and it is accepted
pub record IsGenerated (number : ℕ) (lighting : Lighting) : Type 0 where
  pub is_of_number : lighting ≡ generated_lighting number
  pub accepted : lit_room_of lighting ≡ Ok lighting

-- the number's lit room was solved, and all or a part of the summary was written
abbrev pub SolvesGenerated : ℕ → World → World → Answer → Type 0
SolvesGenerated number before after = IsSolved (IsGenerated number) problem_of IsDefaultLedger no_verdict (λ lighting ledger. summary_text number lighting) before after

abbrev pub SolvesGeneratedInPart : ℕ → World → World → Type 0
SolvesGeneratedInPart number before after = IsCutOff (IsGenerated number) problem_of IsDefaultLedger (λ lighting ledger. summary_text number lighting) before after

-- when each answer comes
abbrev pub GenerateRow : ℕ → World → World → Answer → Type 0
GenerateRow number before after = Row (SolvesGenerated number before after) (SolvesGeneratedInPart number before after) (GenerateRefusal number) before after
