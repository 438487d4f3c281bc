-- The bounds of a cut length rise from 0 to the length.
use Rattle.std.proofs.Common.{ℕ, ◌+◌, ◌*◌, ◌<◌, ◌≤◌, arith}
use Rattle.std.proofs.lemmas.Nat.{mul-le, le-div, div-add-mod', div_below}
use Rattle.room_patches.specs.declared.cut.Cut.{Cut}
use Rattle.room_patches.specs.Cuts.{IsCut, bound, middle, part}

pub bound-le : (cut : Cut) (k : ℕ) → IsCut cut → k ≤ cut.parts → bound cut k ≤ cut.whole
bound-le cut k valid inside =
    let some = valid.some in
    let most = mul-le k cut.whole cut.parts cut.whole inside (omega arith) in
    let below = div_below (k * cut.whole) cut.parts (cut.whole + 1) (omega arith) (omega arith) in
    omega arith

-- each part of a room's length is a millimetre and more
pub bound-rises : (cut : Cut) (k : ℕ) → 500 ≤ cut.whole → IsCut cut → bound cut k + 1 ≤ bound cut (k + 1)
bound-rises cut k long valid =
    let few = valid.few in
    let some = valid.some in
    let whole = div-add-mod' (k * cut.whole) cut.parts in
    le-div (bound cut k + 1) ((k + 1) * cut.whole) cut.parts (omega arith) (omega arith)

pub part-some : (cut : Cut) (k : ℕ) → 500 ≤ cut.whole → IsCut cut → 1 ≤ part cut k
part-some cut k long valid = let up = bound-rises cut k long valid in omega arith

pub part-le : (cut : Cut) (k : ℕ) → IsCut cut → k < cut.parts → part cut k ≤ 100000
part-le cut k valid inside = let short = valid.short in let le = bound-le cut (k + 1) valid (omega arith) in omega arith

pub middle-le : (cut : Cut) (k : ℕ) → IsCut cut → k < cut.parts → middle cut k ≤ 200000
middle-le cut k valid inside =
    let short = valid.short in
    let before = bound-le cut k valid (omega arith) in
    let after = bound-le cut (k + 1) valid (omega arith) in
    omega arith
