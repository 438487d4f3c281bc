use Rattle.std.proofs.Common.{◌≡◌, ℕ, ◌≤◌, List, ◌∷◌, length, sum, sym, ap, subst, ◌∙◌, rules}
use Rattle.flux_system.specs.System.{patches}
use Rattle.flux_system.specs.Validity.{IsSystem}
use Rattle.shot_core.proofs.Opening.{opening_holds}
use Rattle.flux_accounts.proofs.Steps.{opens}
use Rattle.flux_accounts.proofs.banks.Bank.start.Goals as goal

pub of_words-requires : goal.of_words-requires
of_words-requires c =
    let s = c.of.result.value in
    let direct : List ℕ = c.of-2.result.value in
    let s_is = c.of.ensures in
    let direct_is : direct ≡ c.args.direct.now = c.of-2.ensures ∙ (c.from_vec-own.ensures ∙ c.in_ok-from_slice.ensures.items) in
    let words_are : c.as_slice.result.now ≡ 0 ∷ c.args.direct.now = search rules in
    let limit : sum direct ≤ 10000000000000000 = subst (λ (xs : List ℕ). sum xs ≤ 10000000000000000) (sym direct_is) c.requires.flux in
    opens s direct c.as_slice.result.now (words_are ∙ ap (λ (xs : List ℕ). 0 ∷ xs) (sym direct_is))
    (opening_holds s direct (subst IsSystem (sym s_is) c.len.ensures.system) (ap length direct_is ∙ (c.requires.lengths ∙ ap patches (sym s_is))) limit)
