use Rattle.std.proofs.Common.{◌+◌, ◌∙◌, List, map, drop, sym, ap, arith}
use Rattle.duties.specs.Duties.{first}
use Rattle.duties.proofs.Orders.{hands_on, this_met, this_fails, none_left}
use Rattle.lux_lines.specs.Places.{Piece}
use Rattle.lux_lines.specs.Pieces.{line_piece}
use Rattle.eulumdat_reader.specs.declared.faults.LdtFault.TheVariants.{Memory}
use Rattle.eulumdat_reader.specs.Rows.{all_lines, blank_row}
use Rattle.laws.proofs.Left.{left_is, nothing_left}
use Rattle.eulumdat_reader.proofs.Walking.{blanks_behind}
use Rattle.eulumdat_reader.proofs.fields.read_end.Goals as goal

pub loop-line-preserved : goal.loop-line-preserved
loop-line-preserved c =
    let here = rw c.loop-line.invariant.text at c.in-Some.ensures.line in
    let left = left_is (all_lines c.args.source) c.loop-line.source.read (line_piece c.in-Some.line) (sym here) in
    record {
      text = c.in-Some.ensures.same ∙ c.loop-line.invariant.text;
      met = rw c.in-Some.ensures.next (sym (this_met _ (map blank_row (drop (c.loop-line.source.read + 1) (all_lines c.args.source))) c.in_ok-pass_blank.ensures)
          ∙ (ap (λ (l : List Piece). first (map blank_row l)) (sym left.0) ∙ c.loop-line.invariant.met));
    }

pub loop-line-smaller : goal.loop-line-smaller
loop-line-smaller c =
    let left = left_is (all_lines c.loop-line.source) c.loop-line.source.read (line_piece c.in-Some.line) (sym c.in-Some.ensures.line) in
    rw c.in-Some.ensures.same (omega (arith, left.1, c.in-Some.ensures.next))

pub returns-in_err-pass_blank : goal.returns-in_err-pass_blank
returns-in_err-pass_blank c =
    let here = rw c.loop-line.invariant.text at c.in-Some.ensures.line in
    let left = left_is (all_lines c.args.source) c.loop-line.source.read (line_piece c.in-Some.line) (sym here) in
    hands_on Memory _ _ _ _ c.from_residual.ensures.1 c.in_err-pass_blank.ensures
    (λ h. blanks_behind (all_lines c.args.source) c.args.source.read ∙ (sym c.loop-line.invariant.met
    ∙ (ap (λ (l : List Piece). first (map blank_row l)) left.0 ∙ this_fails _ _ _ h)))

pub returns : goal.returns
returns c =
    let none = rw c.loop-line.invariant.text at c.in_default.ensures.line in
    blanks_behind (all_lines c.args.source) c.args.source.read ∙ (sym c.loop-line.invariant.met
    ∙ (ap (λ (l : List Piece). first (map blank_row l)) (nothing_left (all_lines c.args.source) c.loop-line.source.read (sym none)) ∙ none_left))
