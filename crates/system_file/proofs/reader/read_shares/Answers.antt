use Rattle.std.proofs.Common.{◌∙◌, ◌+◌, ◌++◌, ℕ, List, map, codes, ap, sym, refl, arith}
use Rattle.duties.proofs.Orders.{each_hands_on, each_more, each_none}
use Rattle.lux_lines.specs.Lines.{line_text}
use Rattle.system_file.specs.declared.faults.SysFault.TheVariants.{Memory}
use Rattle.system_file.specs.Rows.{numbers, line_duty}
use Rattle.system_file.specs.Shapes.{narrow_number}
use Rattle.system_file.proofs.Reading.{shares_more}
use Rattle.system_file.proofs.reader.read_shares.Goals as goal

pub loop-i-init : goal.loop-i-init
loop-i-init c = record { text = refl; read = c.requires.place; items = c.in_ok-shares.ensures.items; met = each_none _ }

pub returns-in_err-append_row-clause-answer : goal.returns-in_err-append_row-clause-answer
returns-in_err-append_row-clause-answer c =
    let same = c.loop-i.invariant.text in
    let place = c.loop-i.invariant.read in
    each_hands_on Memory _ _ (λ (i : ℕ). line_duty c.args.source.now.text (5 + i) (codes "shares") c.args.count) c.args.count c.loop-i._i c.loop-i-test.true
    c.loop-i.invariant.met c.from_residual-in_err-append_row.ensures.1 (rw (same, place) at c.in_err-append_row.ensures.answer)

pub loop-i-preserved : goal.loop-i-preserved
loop-i-preserved c =
    let same = c.loop-i.invariant.text in
    let place = c.loop-i.invariant.read in
    let here = c.in_ok-append_row.ensures in
    record {
      text = here.same ∙ same;
      read = omega (arith, here.next, place);
      items = (rw (same, place) at here.value)
          ∙ (ap (λ (front : List ℕ). front ++ map narrow_number (numbers (line_text c.args.source.now.text (5 + c.loop-i._i)))) c.loop-i.invariant.items
          ∙ sym (shares_more c.args.source.now.text c.loop-i._i));
      met = each_more (λ (i : ℕ). line_duty c.args.source.now.text (5 + i) (codes "shares") c.args.count) c.loop-i._i c.loop-i.invariant.met
          ∙ (rw (same, place) at here.answer);
    }
