use Rattle.std.proofs.Common.{◌≡◌, ◌∙◌, ◌&&◌, true, false, nat_le, arith}
use Rattle.std.proofs.lemmas.Bool.Decides.{nat_tests}
use Rattle.duties.proofs.Orders.{hands_on, this_met, this_fails, none_left, unless_holds, unless_fails}
use Rattle.flux_system.specs.declared.TheConstants.{MOST_PATCHES}
use Rattle.ledger_file.specs.declared.faults.LedgerFault.TheVariants.{Memory}
use Rattle.ledger_file.specs.LedgerFiles.{patch_count, head_duties}
use Rattle.ledger_file.proofs.reader.read_head.Goals.{then-patches-lt1-via-then-patches-lt1, then-patches-lt1-via-else-patches-lt1+then-patches}
use Rattle.ledger_file.proofs.reader.read_head.Goals as goal

pub returns-in_err-patches-clause-answer : goal.returns-in_err-patches-clause-answer
unfolding head_duties
returns-in_err-patches-clause-answer c =
    let a = c.in_ok-read_header.ensures in
    let second : c.read_header.new.source.read ≡ 1 = omega (arith, a.next) in
    hands_on Memory _ _ _ _ c.from_residual-in_err-patches.ensures.1 (rw (a.same, second) at c.in_err-patches.ensures.answer)
    (λ h. this_met _ _ (rw c.requires at a.answer) ∙ this_fails _ _ _ h)

pub returns-then-patches-lt1-clause-answer : goal.returns-then-patches-lt1-clause-answer
unfolding head_duties
returns-then-patches-lt1-clause-answer c = λ ne.
    let a = c.in_ok-read_header.ensures in
    let b = c.in_ok-patches.ensures in
    let second : c.read_header.new.source.read ≡ 1 = omega (arith, a.next) in
    let number : c.in_ok-patches.patches ≡ patch_count c.args.source.now.text = rw (a.same, second) at b.value in
    let sized : (nat_le 1 c.in_ok-patches.patches && nat_le c.in_ok-patches.patches MOST_PATCHES) ≡ false = elim c.then-patches-lt1.branch [
      | then-patches-lt1-via-then-patches-lt1 w ↦ grind (arith, nat_tests)
      | then-patches-lt1-via-else-patches-lt1+then-patches w ↦ grind (arith, nat_tests)
    ] in
    rw number (this_met _ _ (rw c.requires at a.answer) ∙ (this_met _ _ (rw (a.same, second) at b.answer) ∙ this_fails _ _ _ (unless_fails _ _ (rw number at sized))))

pub returns-in_err-wins-clause-answer : goal.returns-in_err-wins-clause-answer
unfolding head_duties
returns-in_err-wins-clause-answer c =
    let a = c.in_ok-read_header.ensures in
    let b = c.in_ok-patches.ensures in
    let second : c.read_header.new.source.read ≡ 1 = omega (arith, a.next) in
    let third : c.read_count.new.source.read ≡ 2 = omega (arith, b.next) in
    let number : c.in_ok-patches.patches ≡ patch_count c.args.source.now.text = rw (a.same, second) at b.value in
    let sized : (nat_le 1 c.in_ok-patches.patches && nat_le c.in_ok-patches.patches MOST_PATCHES) ≡ true = grind (arith, nat_tests) in
    hands_on Memory _ _ _ _ c.from_residual-in_err-wins.ensures.1 (rw (b.same ∙ a.same, third) at c.in_err-wins.ensures.answer)
    (λ h. this_met _ _ (rw c.requires at a.answer) ∙ (this_met _ _ (rw (a.same, second) at b.answer) ∙ (this_met _ _ (unless_holds _ _ (rw number at sized)) ∙ this_fails _ _ _ h)))

pub returns-in_err-parts-clause-answer : goal.returns-in_err-parts-clause-answer
unfolding head_duties
returns-in_err-parts-clause-answer c =
    let a = c.in_ok-read_header.ensures in
    let b = c.in_ok-patches.ensures in
    let d = c.in_ok-wins.ensures in
    let second : c.read_header.new.source.read ≡ 1 = omega (arith, a.next) in
    let third : c.read_count.new.source.read ≡ 2 = omega (arith, b.next) in
    let fourth : c.read_count-2.new.source.read ≡ 3 = omega (arith, d.next) in
    let number : c.in_ok-patches.patches ≡ patch_count c.args.source.now.text = rw (a.same, second) at b.value in
    let sized : (nat_le 1 c.in_ok-patches.patches && nat_le c.in_ok-patches.patches MOST_PATCHES) ≡ true = grind (arith, nat_tests) in
    hands_on Memory _ _ _ _ c.from_residual-in_err-parts.ensures.1 (rw (d.same ∙ (b.same ∙ a.same), fourth) at c.in_err-parts.ensures.answer)
    (λ h. this_met _ _ (rw c.requires at a.answer)
    ∙ (this_met _ _ (rw (a.same, second) at b.answer)
    ∙ (this_met _ _ (unless_holds _ _ (rw number at sized)) ∙ (this_met _ _ (rw (b.same ∙ a.same, third) at d.answer) ∙ this_fails _ _ _ h))))

pub returns-clause-answer : goal.returns-clause-answer
unfolding head_duties
returns-clause-answer c =
    let a = c.in_ok-read_header.ensures in
    let b = c.in_ok-patches.ensures in
    let d = c.in_ok-wins.ensures in
    let e = c.in_ok-parts.ensures in
    let second : c.read_header.new.source.read ≡ 1 = omega (arith, a.next) in
    let third : c.read_count.new.source.read ≡ 2 = omega (arith, b.next) in
    let fourth : c.read_count-2.new.source.read ≡ 3 = omega (arith, d.next) in
    let number : c.in_ok-patches.patches ≡ patch_count c.args.source.now.text = rw (a.same, second) at b.value in
    let sized : (nat_le 1 c.in_ok-patches.patches && nat_le c.in_ok-patches.patches MOST_PATCHES) ≡ true = grind (arith, nat_tests) in
    this_met _ _ (rw c.requires at a.answer)
    ∙ (this_met _ _ (rw (a.same, second) at b.answer)
    ∙ (this_met _ _ (unless_holds _ _ (rw number at sized))
    ∙ (this_met _ _ (rw (b.same ∙ a.same, third) at d.answer) ∙ (this_met _ _ (rw (d.same ∙ (b.same ∙ a.same), fourth) at e.answer) ∙ none_left))))
