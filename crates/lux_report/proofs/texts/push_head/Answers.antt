use Rattle.std.proofs.Common.{◌≡◌, ◌++◌, length, append_assoc}
use Rattle.std.specs.Prelude.{codes}
use Rattle.std.specs.Fmt.{decimal}
use Rattle.lux_report.proofs.texts.push_head.Goals as goal

pub returns : goal.returns
returns c =
    let patches : c.push_number.new.text.items ≡ c.args.text.now.items ++ codes "lux report 1\npatches " ++ decimal (length c.args.ledger.now.direct) =
    rw (← c.as_slice-direct.ensures) c.in_ok-push_number.ensures in
    let luminaires : c.push_number-2.new.text.items ≡ c.push_number.new.text.items ++ codes "\nluminaires " ++ decimal (length c.args.project.now.fixtures) =
    rw (← c.fixtures.ensures.value) c.in_ok-push_number-2.ensures in
    rw (c.in_ok-extend_from_slice.ensures.items, c.in_ok-push_number-7.ensures, c.in_ok-push_number-6.ensures, c.in_ok-push_number-5.ensures, c.total_flux.ensures, c.as_slice-direct.ensures, c.in_ok-push_number-4.ensures, c.threshold.ensures.value, c.in_ok-push_number-3.ensures, c.shooters.ensures, luminaires, patches)
    (simp append_assoc)
