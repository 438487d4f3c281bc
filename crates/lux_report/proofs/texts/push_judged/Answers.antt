use Rattle.std.proofs.Common.{append_assoc}
use Rattle.lux_report.proofs.texts.push_judged.Goals as goal

pub returns : goal.returns
returns c =
    rw (c.in_ok-extend_from_slice-2.ensures.items, c.in_ok-push_word.ensures, c.in_ok-push_number.ensures, c.in_ok-push_ends.ensures, c.in_ok-extend_from_slice.ensures.items, c.verdict_word.ensures)
    (simp append_assoc)
