use Rattle.std.proofs.Common.{◌≡◌, ℕ, ◌*◌, ◌<◌, ◌≤◌, length}
use Rattle.picker.specs.Shapes.{at_node, HoldsBetter}
use Rattle.picker.proofs.tree.play.Given as goal

-- the games from this node on are played
abbrev pub invariant-loop-node : goal.invariant-loop-node
invariant-loop-node l = record {
  count : length l.nodes ≡ 2 * l.n;
  inner : (k : ℕ) → 1 ≤ k → l.node ≤ k → k < l.n → HoldsBetter l.nodes k;
  leaves : (k : ℕ) → l.n ≤ k → at_node l.nodes k ≡ at_node l.fn.nodes k;
}
