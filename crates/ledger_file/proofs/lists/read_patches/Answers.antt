use Rattle.std.proofs.Common.{◌≡◌, ◌∙◌, ◌+◌, ◌++◌, ◌∷◌, [], ℕ, List, ap, sym, refl, slice_index, arith}
use Rattle.duties.proofs.Orders.{each_hands_on, each_more, each_none}
use Rattle.ledger_file.specs.declared.faults.LedgerFault.TheVariants.{Memory}
use Rattle.ledger_file.specs.Forms.{patch_form, line_numbers}
use Rattle.ledger_file.specs.LedgerFiles.{patch_duty, patch_number, patch_numbers}
use Rattle.ledger_file.proofs.Reading.{numbers_more, numbers_none}
use Rattle.ledger_file.proofs.lists.read_patches.Goals as goal

pub loop-patch-init : goal.loop-patch-init
loop-patch-init c =
    let text = c.args.source.now.text in
    record {
      text = refl;
      read = c.requires.place;
      direct = c.in_ok-direct.ensures.items ∙ sym (numbers_none text 1);
      taken = c.in_ok-taken.ensures.items ∙ sym (numbers_none text 2);
      residual = c.in_ok-residual.ensures.items ∙ sym (numbers_none text 3);
      err = c.in_ok-err.ensures.items ∙ sym (numbers_none text 4);
      met = each_none _;
    }

pub returns-in_err-numbers-clause-answer : goal.returns-in_err-numbers-clause-answer
returns-in_err-numbers-clause-answer c =
    let same = c.loop-patch.invariant.text in
    let place = c.loop-patch.invariant.read in
    each_hands_on Memory _ _ (patch_duty c.args.source.now.text) c.args.count c.loop-patch.patch c.loop-patch-test.true
    c.loop-patch.invariant.met c.from_residual-in_err-numbers.ensures.1 (rw (same, place) at c.in_err-numbers.ensures.answer)

-- a list with one number of the next line more
grown : (text : List ℕ) (j place value : ℕ) (before after numbers : List ℕ) → line_numbers patch_form text (4 + j) ≡ numbers → slice_index numbers place ≡ value
    → before ≡ patch_numbers text j place → after ≡ before ++ value ∷ [] → after ≡ patch_numbers text (j + 1) place
grown text j place value before after numbers line at so_far next =
    let here : patch_number text place j ≡ value = ap (λ (ns : List ℕ). slice_index ns place) line ∙ at in
    next ∙ (ap (λ (ns : List ℕ). ns ++ value ∷ []) so_far ∙ sym (numbers_more text place j ∙ ap (λ (v : ℕ). patch_numbers text j place ++ v ∷ []) here))

pub loop-patch-preserved : goal.loop-patch-preserved
loop-patch-preserved c =
    let i = c.loop-patch.invariant in
    let j = c.loop-patch.patch in
    let text = c.args.source.now.text in
    let here = c.in_ok-numbers.ensures in
    let line = rw (i.text, i.read) at here.numbers in
    record {
      text = here.same ∙ i.text;
      read = omega (arith, here.next, i.read);
      direct = grown text j 1 _ _ _ _ line refl i.direct c.in_ok-push.ensures.items;
      taken = grown text j 2 _ _ _ _ line refl i.taken c.in_ok-push-2.ensures.items;
      residual = grown text j 3 _ _ _ _ line refl i.residual c.in_ok-push-3.ensures.items;
      err = grown text j 4 _ _ _ _ line refl i.err c.in_ok-push-4.ensures.items;
      met = each_more (patch_duty text) j i.met ∙ (rw (i.text, i.read) at here.answer);
    }
