use Rattle.std.proofs.Common.{◌≡◌, length, sym, ◌∙◌, arith}
use Rattle.std.specs.Prelude.{slice_index}
use Rattle.std.proofs.lemmas.List.{get_or_past}
use Rattle.std.proofs.lemmas.Bool.{eqb-true}
use Rattle.photo_web.proofs.Tests.{unfit_plane}
use Rattle.photo_web.proofs.checks.planes_fault.Goals.{else-not-is_empty-via-then-not-is_empty+else-planes-ne0, else-not-is_empty-via-else-not-is_empty}
use Rattle.photo_web.proofs.checks.planes_fault.Goals as goal

pub returns-in-Some : goal.returns-in-Some
returns-in-Some c =
    let start : slice_index c.args.planes.now 0 ≡ 0 = elim c.else-not-is_empty.branch [
      | else-not-is_empty-via-then-not-is_empty+else-planes-ne0 w ↦ w.if-planes-ne0.false
      | else-not-is_empty-via-else-not-is_empty w ↦ get_or_past c.args.planes.now 0 0 (let none = eqb-true (length c.args.planes.now) 0 (sym c.is_empty.ensures ∙ w.if-not-is_empty.false) in omega arith)
    ] in
    sym (unfit_plane c.args.planes.now _ start (sym c.in-Some.ensures))
