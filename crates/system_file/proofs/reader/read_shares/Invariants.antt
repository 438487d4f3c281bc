use Rattle.std.proofs.Common.{◌≡◌, ◌+◌, None, map, codes}
use Rattle.duties.specs.Duties.{each}
use Rattle.system_file.specs.Rows.{line_duty}
use Rattle.system_file.specs.SystemText.{shares_in}
use Rattle.system_file.specs.Shapes.{narrow_number}
use Rattle.system_file.proofs.reader.read_shares.Given as goal

abbrev pub invariant-loop-i : goal.invariant-loop-i
invariant-loop-i l = record {
  text : l.source.text ≡ l.fn.source.text;
  read : l.source.read ≡ 5 + l._i;
  items : l.shares.items ≡ map narrow_number (shares_in l.fn.source.text l._i);
  met : each l._i (λ i. line_duty l.fn.source.text (5 + i) (codes "shares") l.count) ≡ None;
}
