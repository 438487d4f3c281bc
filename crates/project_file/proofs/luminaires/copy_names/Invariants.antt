use Rattle.std.proofs.Common.{◌≡◌, take}
use Rattle.project_file.specs.Shapes.{texts}
use Rattle.project_file.proofs.luminaires.copy_names.Given as goal

abbrev pub invariant-loop-file : goal.invariant-loop-file
invariant-loop-file l = l.names.items ≡ texts (take l.file-index l.kept)
