use Rattle.std.proofs.Common.{append_assoc, rules}
use Rattle.project_file.proofs.sections.numbered_path.Goals as goal

pub returns : goal.returns
returns c = simp append_assoc (search rules)
