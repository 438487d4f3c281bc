use Rattle.std.proofs.Common.{◌≡◌, ℕ, ◌+◌, ◌*◌, ◌<◌, length, get_or}
use Rattle.picker.specs.Shapes.{at_node}
use Rattle.picker.proofs.tree.seed.Given as goal

-- the leaves so far hold their places and values
abbrev pub invariant-loop-place : goal.invariant-loop-place
invariant-loop-place l = record {
  count : length l.nodes ≡ 2 * l.n;
  values : (i : ℕ) → i < l.place → (at_node l.nodes (l.n + i)).value ≡ get_or l.values i 0;
  places : (i : ℕ) → i < l.place → (at_node l.nodes (l.n + i)).place ≡ i;
}
