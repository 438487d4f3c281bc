use Rattle.std.proofs.Common.{◌≡◌, List, [], ◌∷◌, ℕ, ap, ◌∙◌, codes}
use Rattle.workload.specs.Generator.{generated_layout, luminaires}
use Rattle.workload.proofs.Accepted.{generated_is_project}
use Rattle.workload.proofs.projects.generate_project.Goals as goal

pub new-requires-3 : goal.new-requires-3
new-requires-3 c =
    let fixtures : c.in_ok-fixtures.fixtures.items ≡ luminaires (generated_layout c.args.number) =
    c.in_ok-fixtures.ensures ∙ ap luminaires c.generate-layout.ensures.value in
    let files : c.in_ok-files.files.items ≡ codes "gen" ∷ [] = c.in_ok-files.ensures.items ∙ ap (λ (name : List ℕ). name ∷ []) c.in_ok-file_name.ensures in
    rw (fixtures, files, c.new.ensures.items, c.new-2.ensures.items) (generated_is_project c.args.number)
