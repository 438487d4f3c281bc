use Rattle.std.proofs.Common.{◌∙◌, length, ap, rules}
use Rattle.lux_plans.specs.Plans.{each}
use Rattle.lux_plans.proofs.Chains.{takes_gives, takes_refused}
use Rattle.lux_plans.proofs.Steps.{takes_as_many}
use Rattle.lux_top.specs.ProjectFiles.{web_file, lit_room}
use Rattle.lux_top.proofs.project_files.light_project.Goals as goal

pub light-requires : goal.light-requires
light-requires g c = (search rules, takes_as_many web_file _ _ _ _ c.in-Ok.ensures ∙ ap length c.files.ensures.value)

pub returns-in-Ok : goal.returns-in-Ok
returns-in-Ok g c =
    takes_gives (each web_file c.args.project.files) (λ webs. lit_room (record { project = c.args.project; webs = webs })) _ _ _ _ (rw c.files.ensures.value at c.in-Ok.ensures) c.light.ensures

pub returns-in-Err : goal.returns-in-Err
returns-in-Err g c =
    takes_refused (each web_file c.args.project.files) (λ webs. lit_room (record { project = c.args.project; webs = webs })) _ _ _ (rw c.files.ensures.value at c.in-Err.ensures)
