-- A part of the shares is the list of the shares at its places.
use Rattle.std.proofs.Common.{◌≡◌, ℕ, ◌≤◌, ◌*◌, ◌+◌, ◌-◌, List, length, get_or, take, drop, map, ◌∙◌, arith}
use Rattle.std.specs.List.{range_with_len}
use Rattle.std.proofs.lemmas.List.{get_or-take, get_or-drop, length-take, length-drop}
use Rattle.std.proofs.lemmas.List.FromFn.{fill_by_all}
use Rattle.std.proofs.lemmas.Nat.{mul-le}
use Rattle.flux_system.proofs.kept.row_at.Goals as goal

part : (xs : List ℕ) (a m n : ℕ) → m ≡ n → a + n ≤ length xs → take m (drop a xs) ≡ map (λ j. get_or xs (a + j) 0) (range_with_len 0 n)
part xs a m n same inside =
    fill_by_all (λ (j : ℕ). get_or xs (a + j) 0) (take m (drop a xs)) n 0
    (let t = length-take m (drop a xs) in let d = length-drop a xs in omega arith)
    (λ k h. get_or-take m (drop a xs) k 0 (omega arith) ∙ get_or-drop a xs k 0)

pub returns : goal.returns
returns c =
    let i = c.args.i in
    let n = c.args.n in
    let m = mul-le (i + 1) n n n (omega arith) (omega arith) in
    part c.args.shares.now (i * n) ((i + 1) * n - i * n) n (omega arith) (let square = c.requires.square in omega arith)
