use Rattle.std.proofs.Common.{◌≡◌, ◌++◌, length, append_assoc}
use Rattle.std.specs.Prelude.{codes}
use Rattle.std.specs.Fmt.{decimal}
use Rattle.flux_ledger.proofs.texts.push_head.Goals as goal

pub returns : goal.returns
returns c =
    let patches : c.push_number.new.text.items ≡ c.args.text.now.items ++ codes "lux-ledger 1\npatches " ++ decimal (length c.args.ledger.now.direct) =
    rw (← c.as_slice-direct.ensures) c.in_ok-push_number.ensures in
    rw (c.in_ok-extend_from_slice.ensures.items, c.in_ok-push_number-3.ensures, c.in_ok-push_number-2.ensures, patches) (simp append_assoc)
