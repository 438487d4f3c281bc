-- Every generated project is accepted: its room is valid, and its luminaires can be placed there, all with web 0.
use Rattle.std.proofs.Common.{◌≡◌, ℕ, ◌<◌, [], ◌∷◌, None, length, codes, refl, arith}
use Rattle.std.specs.Prelude.{All}
use Rattle.std.proofs.lemmas.Nat.{mul-le}
use Rattle.std.proofs.lemmas.List.Elements.{All-nil, All-weaker}
use Rattle.duties.specs.Duties.{first}
use Rattle.room_patches.specs.Validity.{room_duties}
use Rattle.fixtures.specs.Placing.{placing_duty}
use Rattle.project_file.specs.Projects.{IsProject, IsCheck, project_room}
use Rattle.workload.specs.Generator.{generated_room, generated_layout, luminaires, generated_project}
use Rattle.workload.specs.Shapes.{IsLayout}
use Rattle.workload.proofs.Validity.{generated_valid, room_met}
use Rattle.workload.proofs.Luminaires.{IsHung, length-luminaires, luminaires_hung, placing_met, web_used}

pub generated_is_layout : (number : ℕ) → IsLayout (generated_layout number)
generated_is_layout number = record {
  room = generated_valid number;
  some_columns = omega arith;
  few_columns = omega arith;
  some_rows = omega arith;
  few_rows = omega arith;
}

pub generated_is_project : (number : ℕ) → IsProject [] 10000000 (codes "gen" ∷ []) (luminaires (generated_layout number)) []
generated_is_project number =
    let layout = generated_is_layout number in
    let count = length-luminaires (generated_layout number) in
    let some = mul-le 1 1 (generated_layout number).rows (generated_layout number).columns layout.some_rows layout.some_columns in
    let few = mul-le (generated_layout number).rows (generated_layout number).columns 3 4 layout.few_rows layout.few_columns in
    let hung = luminaires_hung (generated_layout number) in
    record {
      few_regions = omega arith;
      some_threshold = omega arith;
      low_threshold = omega arith;
      few_fixtures = omega arith;
      few_files = omega arith;
      webs = All-weaker (IsHung (generated_room number)) (λ f. f.web < 1) (λ f h. let web = h.web in omega arith) _ hung;
      used = web_used (generated_room number) _ hung (omega arith);
      few_checks = omega arith;
      are_checks = All-nil IsCheck;
    }

pub one_file : (number : ℕ) → length (generated_project number).files ≡ 1
unfolding generated_project
one_file number = refl

pub one_web : (number : ℕ) → All (λ f. f.web ≡ 0) (generated_project number).fixtures
unfolding generated_project
one_web number = All-weaker (IsHung (generated_room number)) (λ f. f.web ≡ 0) (λ f h. h.web) _ (luminaires_hung (generated_layout number))

pub accepted_room : (number : ℕ) → first (room_duties (project_room (generated_project number))) ≡ None
unfolding generated_project
accepted_room number = room_met (generated_room number) (generated_valid number)

pub accepted_fixtures : (number : ℕ) → placing_duty (generated_project number).room (generated_project number).fixtures ≡ None
unfolding generated_project
accepted_fixtures number = placing_met (generated_room number) (luminaires (generated_layout number)) (luminaires_hung (generated_layout number))
