use Rattle.std.proofs.Common.{append_assoc}
use Rattle.photo_text.proofs.texts.push_head.Goals as goal

pub returns : goal.returns
returns c =
    rw (c.in_ok-extend_from_slice-2.ensures.items, c.in_ok-push_numbers.ensures, c.in_ok-extend_from_slice.ensures.items, c.in_ok-push_word-2.ensures, c.in_ok-push_word.ensures, c.kind_word.ensures, c.symmetry_word.ensures, c.gammas.ensures.value)
    (simp append_assoc)
