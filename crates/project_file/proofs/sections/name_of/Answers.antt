use Rattle.std.proofs.Common.{◌≡◌, ap, ◌∙◌}
use native.Mathlib.Numerals.{unary_clauses}
use Rattle.project_file.specs.Names.{last_boundary, or_quotation_marks}
use Rattle.project_file.proofs.Boundaries.{last_boundary_is}
use Rattle.project_file.proofs.sections.name_of.Goals as goal

pub returns-in-Ok : goal.returns-in-Ok
returns-in-Ok c =
    let f = c.floor_char_boundary.ensures in
    let last : last_boundary c.args.path.now 255 ≡ c.floor_char_boundary.result = last_boundary_is c.args.path.now 255 c.floor_char_boundary.result f.bound f.boundary f.nearest in
    rw last (c.in-Ok.ensures.ok ∙ (c.or_quotation_marks.ensures.value ∙ ap or_quotation_marks (simp unary_clauses at c.range-cut.ensures.value)))
