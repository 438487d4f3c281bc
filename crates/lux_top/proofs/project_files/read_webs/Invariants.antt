use Rattle.std.proofs.Common.{◌≡◌, take, Ok}
use Rattle.lux_plans.specs.Plans.{Decides, each}
use Rattle.lux_top.specs.ProjectFiles.{web_file}
use Rattle.lux_top.proofs.project_files.read_webs.Given as goal

-- the shelf is as it was, and the files before gave these webs
abbrev pub invariant-loop-name : goal.invariant-loop-name
invariant-loop-name g l = record {
  same : g.S.Shelf.state l.shelf ≡ g.S.Shelf.state l.initial.shelf;
  given : Decides (each web_file (take l.name-index l.fn.names)) (g.S.Shelf.state l.initial.shelf) (g.S.Shelf.state l.initial.shelf) (Ok l.webs.items);
}
