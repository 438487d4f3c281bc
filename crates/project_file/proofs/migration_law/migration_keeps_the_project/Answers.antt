use Rattle.project_file.proofs.Migrations.{same_project}
use Rattle.project_file.proofs.migration_law.migration_keeps_the_project.Goals as goal

pub returns : goal.returns
returns c = same_project
