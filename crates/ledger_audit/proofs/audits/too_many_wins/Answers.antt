use Rattle.std.proofs.Common.{IsOk, refl, sym, subst, ◌∙◌, arith}
use Rattle.duties.proofs.Orders.{judged_ok, judged_is}
use Rattle.ledger_audit.proofs.Tests.{wins_fail, wins_hold}
use Rattle.ledger_audit.proofs.audits.too_many_wins.Goals as goal

pub unwrap-limit-requires : goal.unwrap-limit-requires
unwrap-limit-requires c = subst IsOk (sym (c.takes_bound.ensures.answer ∙ judged_ok _ _ c.requires.limits)) refl

pub returns-then-from-limit : goal.returns-then-from-limit
returns-then-from-limit c =
    let is = judged_is _ _ _ (sym c.takes_bound.ensures.answer ∙ c.unwrap-limit.ensures) in
    sym (wins_fail c.args.system.now c.args.direct.now c.args.wins _ is.0 (omega arith))

pub returns : goal.returns
returns c =
    let is = judged_is _ _ _ (sym c.takes_bound.ensures.answer ∙ c.unwrap-limit.ensures) in
    sym (wins_hold c.args.system.now c.args.direct.now c.args.wins _ is.0 (omega arith))
