-- Shapes that only the code stands on: the tree of a tournament. No public clause cites these.
use Rattle.std.specs.Prelude.{◌≡◌, ℕ, ◌+◌, ◌*◌, ◌<◌, ◌≤◌, ◌==◌, ◌&&◌, ◌||◌, Bool, if◌then◌else◌, nat_lt, List, length, map, slice_index_or}
use Rattle.std.specs.List.{range_with_len}
use Rattle.picker.specs.declared.contender.Contender.{Contender}

-- one beats the other by its value, or by its place where the values are equal
abbrev pub beats : Contender → Contender → Bool
beats one other = nat_lt other.value one.value || ((one.value == other.value) && nat_lt one.place other.place)

-- the better of two
abbrev pub better : Contender → Contender → Contender
better one other = if beats one other then one else other

-- who stands at a node
abbrev pub at_node : List Contender → ℕ → Contender
at_node nodes k = slice_index_or nodes k (record { value = 0; place = 0 })

-- the better of its two children stands at a node
abbrev pub HoldsBetter : List Contender → ℕ → Type 0
HoldsBetter nodes k = at_node nodes k ≡ better (at_node nodes (2 * k)) (at_node nodes (2 * k + 1))

-- a tree over n places
pub record IsTree (n : ℕ) (nodes : List Contender) : Type 0 where
  pub some : 1 ≤ n
  pub count : length nodes ≡ 2 * n
  pub leaves : (i : ℕ) → i < n → (at_node nodes (n + i)).place ≡ i
  pub inner : (k : ℕ) → 1 ≤ k → k < n → HoldsBetter nodes k

-- the values at its leaves
abbrev pub leaf_values : ℕ → List Contender → List ℕ
leaf_values n nodes = map (λ i. (at_node nodes (n + i)).value) (range_with_len 0 n)
