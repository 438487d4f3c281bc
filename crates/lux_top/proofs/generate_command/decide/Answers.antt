use Rattle.lux_plans.proofs.Chains.{takes_gives, takes_refused}
use Rattle.lux_top.specs.GenerateCommand.{generated_lighting, summary_of}
use Rattle.lux_top.specs.ProjectFiles.{lit_room}
use Rattle.lux_top.proofs.generate_command.decide.Goals as goal

pub returns-in-Ok-light : goal.returns-in-Ok-light
returns-in-Ok-light g c = λ shelf.
    takes_gives (lit_room (generated_lighting c.args.number)) (summary_of c.args.number) _ _ _ _
    ((rw (c.in-Ok-vec.ensures.items, c.in-Ok.ensures.project, c.in-Ok.ensures.web, c.get.ensures.value) at c.in-Ok-light.ensures) shelf) c.summarize.ensures

pub returns-in-Err : goal.returns-in-Err
returns-in-Err g c = λ shelf.
    takes_refused (lit_room (generated_lighting c.args.number)) (summary_of c.args.number) _ _ _
    ((rw (c.in-Ok-vec.ensures.items, c.in-Ok.ensures.project, c.in-Ok.ensures.web, c.get.ensures.value) at c.in-Err.ensures) shelf)
