use Rattle.std.proofs.Common.{ℕ, ◌+◌, List, Option, arith, take, drop, sym, subst}
use Rattle.std.proofs.lemmas.List.{take_rest}
use Rattle.std.proofs.Math.Seq.{take-add}
use Rattle.std.specs.Io.KnownBytes.{Appends}
use Rattle.std.proofs.KnownBytes.{Appends-trans}
use Rattle.lux.proofs.stream_sinks.write_whole.Goals as goal

-- a front of a piece was written, and then a front of what was left
Appends-fronts : (a b c : Option (List ℕ)) (piece : List ℕ) (n m : ℕ) → Appends a b (take n piece) → Appends b c (take m (drop n piece)) → Appends a c (take (n + m) piece)
Appends-fronts a b c piece n m first second = subst (Appends a c) (sym (take-add n m piece)) (Appends-trans a b c _ _ first second)

pub loop-written-preserved : goal.loop-written-preserved
loop-written-preserved g c =
    (grind arith, Appends-fronts _ _ _ _ _ _ c.loop-written.invariant.1 (rw (← take_rest c.args.piece.now c.loop-written.written) c.in-Ok.ensures.written))
