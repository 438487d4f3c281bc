use Rattle.std.proofs.Common.{◌≡◌, ℕ, ◌+◌, List, [], ◌∷◌, ◌++◌, length, get_or, sym, ap, ◌∙◌, arith, rules}
use Rattle.std.proofs.lemmas.List.{length_push, get_or_append_left, get_or_push}
use Rattle.std.specs.Slots.{slots_items}
use borrow.Author.Count.{below_more}
use Rattle.flux_accounts.proofs.Steps.{at_place}
use Rattle.flux_accounts.proofs.banks.words_of.Goals as goal

pub loop-j-preserved : goal.loop-j-preserved
loop-j-preserved c =
    let i = c.loop-j.invariant in
    let j : ℕ = c.loop-j.j in
    let old : List ℕ = c.loop-j.words.items in
    let pushed : c.push.new.self.items ≡ old ++ c.word.result ∷ [] = search rules in
    let here = at_place (slots_items c.args.closed.now.words) (j + 1) c.word.result 0 c.word.ensures in
    record {
      long = ap length pushed ∙ length_push old c.word.result ∙ ap (λ (n : ℕ). n + 1) i.long;
      same = below_more _ j
          (λ k h. ap (λ (xs : List ℕ). get_or xs k 0) pushed ∙ get_or_append_left old (c.word.result ∷ []) 0 k (omega arith) ∙ i.same k h)
          (ap (λ (xs : List ℕ). get_or xs j 0) pushed ∙ get_or_push old c.word.result 0 j i.long ∙ sym here.1);
    }
