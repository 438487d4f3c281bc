use Rattle.std.proofs.Common.{◌≡◌, ◌∙◌, ◌&&◌, true, nat_le, arith}
use Rattle.duties.proofs.Orders.{hands_on, this_met, this_fails, unless_holds}
use Rattle.std.proofs.lemmas.Bool.Decides.{nat_tests}
use Rattle.system_file.specs.declared.faults.SysFault.TheVariants.{Memory}
use Rattle.system_file.specs.SystemText.{patch_count, head_duties}
use Rattle.system_file.specs.declared.TheConstants.{MOST_LISTED_PATCHES}
use Rattle.system_file.proofs.reader.read_head.Goals as goal

pub returns-in_err-count-clause-answer : goal.returns-in_err-count-clause-answer
unfolding head_duties
returns-in_err-count-clause-answer c =
    let a = c.in_ok-read_header.ensures in
    let second : c.read_header.new.source.read ≡ 1 = omega (arith, a.next) in
    hands_on Memory _ _ _ _ c.from_residual-in_err-count.ensures.1 (rw (a.same, second) at c.in_err-count.ensures.answer)
    (λ h. this_met _ _ (rw c.requires at a.answer) ∙ this_fails _ _ _ h)

pub returns-in_err-threshold-clause-answer : goal.returns-in_err-threshold-clause-answer
unfolding head_duties
returns-in_err-threshold-clause-answer c =
    let a = c.in_ok-read_header.ensures in
    let b = c.in_ok-count.ensures in
    let second : c.read_header.new.source.read ≡ 1 = omega (arith, a.next) in
    let third : c.read_number.new.source.read ≡ 2 = omega (arith, b.next) in
    let number : c.in_ok-count.count ≡ patch_count c.args.source.now.text = rw (a.same, second) at b.value in
    let sized : (nat_le 1 c.in_ok-count.count && nat_le c.in_ok-count.count MOST_LISTED_PATCHES) ≡ true = grind (arith, nat_tests) in
    hands_on Memory _ _ _ _ c.from_residual-in_err-threshold.ensures.1 (rw (b.same ∙ a.same, third) at c.in_err-threshold.ensures.answer)
    (λ h. this_met _ _ (rw c.requires at a.answer) ∙ (this_met _ _ (rw (a.same, second) at b.answer) ∙ (this_met _ _ (unless_holds _ _ (rw number at sized)) ∙ this_fails _ _ _ h)))
