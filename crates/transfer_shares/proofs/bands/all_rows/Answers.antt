use Rattle.transfer_shares.proofs.Systems.{system_accepted}
use Rattle.transfer_shares.proofs.bands.all_rows.Goals as goal

pub returns-in_err-shares-clause-accepted : goal.returns-in_err-shares-clause-accepted
returns-in_err-shares-clause-accepted g c =
    system_accepted c.args.room.now _ _ c.len-n.ensures.value c.len-n.ensures.some c.len-n.ensures.few c.patches-patches.ensures.value c.patches-patches.ensures.patch

pub returns-clause-accepted : goal.returns-clause-accepted
returns-clause-accepted g c =
    system_accepted c.args.room.now _ _ c.len-n.ensures.value c.len-n.ensures.some c.len-n.ensures.few c.patches-patches.ensures.value c.patches-patches.ensures.patch
