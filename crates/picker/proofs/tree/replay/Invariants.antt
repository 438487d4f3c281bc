use Rattle.std.proofs.Common.{◌≡◌, ◌≢◌, ℕ, ◌*◌, ◌<◌, ◌≤◌, length}
use Rattle.picker.specs.Shapes.{at_node, HoldsBetter}
use Rattle.picker.proofs.tree.replay.Given as goal

-- the game of this node alone may not stand
abbrev pub invariant-loop-node : goal.invariant-loop-node
invariant-loop-node l = record {
  count : length l.nodes ≡ 2 * l.n;
  inside : l.node < l.n;
  inner : (k : ℕ) → 1 ≤ k → k < l.n → k ≢ l.node → HoldsBetter l.nodes k;
  leaves : (k : ℕ) → l.n ≤ k → at_node l.nodes k ≡ at_node l.fn.nodes k;
}

abbrev pub decreases-loop-node : goal.decreases-loop-node
decreases-loop-node l = l.node
