-- What stands at the nodes of a tree.
use Rattle.std.proofs.Common.{◌≡◌, ◌≢◌, ◌⊎◌, ◌||◌, ◌&&◌, ℕ, ◌+◌, ◌-◌, ◌*◌, ◌/◌, ◌<◌, ◌≤◌, Bool, true, false, cond, eqb, ltb, List, zero, suc, length, get_or, get_or-set_same, get_or-set_other, length-set, set, refl, sym, subst, ap, ◌∙◌, inl, inr, arith}
use Rattle.std.proofs.lemmas.Bool.{cases_lt}
use Rattle.std.proofs.lemmas.Bool.Decides.{nat_tests}
use Rattle.std.proofs.lemmas.List.FromFn.{get_or-map-range_with_len, length-map-range_with_len, fill_by_all}
use Rattle.picker.specs.declared.contender.Contender.{Contender}
use Rattle.picker.specs.Greatest.{greatest_value, greatest_place}
use Rattle.picker.specs.Shapes.{beats, better, at_node, IsTree, leaf_values}
use Rattle.picker.proofs.Maxima.{greatest_value-is, greatest_place-is}

-- one is no worse than the other
pub record IsNoWorse (one other : Contender) : Type 0 where
  pub by_value : other.value ≤ one.value
  pub by_place : one.value ≡ other.value → one.place ≤ other.place

-- two numbers each, the greater first: who wins, and what it means
wins_by : (a b p q : ℕ) → (ltb b a || (eqb a b && ltb p q)) ≡ true → (b ≤ a) × (a ≡ b → p ≤ q)
wins_by a b p q h = (grind (arith, nat_tests), λ e. grind (arith, nat_tests))

loses_by : (a b p q : ℕ) → (ltb b a || (eqb a b && ltb p q)) ≡ false → (a ≤ b) × (b ≡ a → q ≤ p)
loses_by a b p q h = (grind (arith, nat_tests), λ e. grind (arith, nat_tests))

-- the better is one of two, and neither is better
pub record IsBetter (one other best : Contender) : Type 0 where
  pub first : IsNoWorse best one
  pub second : IsNoWorse best other
  pub either : (best ≡ one) ⊎ (best ≡ other)

same : (one : Contender) → IsNoWorse one one
same one = record { by_value = omega arith; by_place = λ e. omega arith }

better_where : (one other : Contender) (b : Bool) → beats one other ≡ b → IsBetter one other (cond b one other)
better_where one other true h =
    let w = wins_by one.value other.value one.place other.place h in
    record { first = same one; second = record { by_value = w.0; by_place = w.1 }; either = inl refl }
better_where one other false h =
    let w = loses_by one.value other.value one.place other.place h in
    record { first = record { by_value = w.0; by_place = w.1 }; second = same other; either = inr refl }

pub better-is : (one other : Contender) → IsBetter one other (better one other)
better-is one other = better_where one other (beats one other) refl

-- what is no worse than some is no worse than those that they are no worse than
no_worse_on : (a b c : Contender) → IsNoWorse a b → IsNoWorse b c → IsNoWorse a c
no_worse_on a b c one two = record {
  by_value = let x = one.by_value in let y = two.by_value in omega arith;
  by_place = λ e. let x = one.by_value in let y = two.by_value in let p = one.by_place (omega arith) in let q = two.by_place (omega arith) in omega arith;
}

same_or_other : (k i : ℕ) → (k ≡ i) ⊎ (k ≢ i)
same_or_other k i = elim (cases_lt k i) [ inl l ↦ inr (omega arith) | inr l ↦ elim (cases_lt i k) [ inl m ↦ inr (omega arith) | inr m ↦ inl (omega arith) ] ]

even_or_odd : (k : ℕ) → (2 * (k / 2) ≡ k) ⊎ (2 * (k / 2) + 1 ≡ k)
even_or_odd k = elim (cases_lt (2 * (k / 2)) k) [ inl l ↦ inr (omega arith) | inr l ↦ inl (omega arith) ]

-- the best so far stands at place p, and a value at the place k before it
first_by : (best value p q k first later : ℕ) → value ≤ best → (best ≡ value → p ≤ q) → first ≡ best → later ≡ value → q ≡ k → k < p → later < first
first_by best value p q k first later by_value by_place is there place before =
    elim (cases_lt value best) [ inl l ↦ omega arith | inr l ↦ let p_first = by_place (omega arith) in absurd (omega arith) ]

-- a contender stands on the leaf of its place
pub record IsOnLeaf (n : ℕ) (nodes : List Contender) (one : Contender) : Type 0 where
  pub inside : one.place < n
  pub leaf : at_node nodes (n + one.place) ≡ one

pub length-leaf_values : (n : ℕ) (nodes : List Contender) → length (leaf_values n nodes) ≡ n
length-leaf_values n nodes = length-map-range_with_len (λ i. (at_node nodes (n + i)).value) 0 n

pub leaf_value : (n : ℕ) (nodes : List Contender) (i : ℕ) → i < n → get_or (leaf_values n nodes) i 0 ≡ (at_node nodes (n + i)).value
leaf_value n nodes i h = get_or-map-range_with_len (λ i. (at_node nodes (n + i)).value) 0 n i i 0 h (omega arith)

-- the leaves hold these values
pub leaf_values-are : (values : List ℕ) (nodes : List Contender) → ((i : ℕ) → i < length values → (at_node nodes (length values + i)).value ≡ get_or values i 0) → leaf_values (length values) nodes ≡ values
leaf_values-are values nodes each = sym (fill_by_all (λ i. (at_node nodes (length values + i)).value) values (length values) 0 refl (λ i h. sym (each i h)))

-- one leaf holds another value
pub leaf_values-set : (n : ℕ) (old new : List Contender) (i v : ℕ) → length old ≡ 2 * n → i < n → ((k : ℕ) → n ≤ k → at_node new k ≡ at_node (set old (n + i) (record { value = v; place = i })) k) → leaf_values n new ≡ set (leaf_values n old) i v
leaf_values-set n old new i v count inside leaves =
    let one : Contender = record { value = v; place = i } in
    let nobody : Contender = record { value = 0; place = 0 } in
    let xs = leaf_values n old in
    let long = length-leaf_values n old in
    let stands : (k : ℕ) → k < n → (at_node new (n + k)).value ≡ (at_node (set old (n + i) one) (n + k)).value = λ k h. ap (λ (c : Contender). c.value) (leaves (n + k) (omega arith)) in
    sym (fill_by_all (λ k. (at_node new (n + k)).value) (set xs i v) n 0 (length-set xs i v ∙ long)
    (λ k h. elim (same_or_other k i) [
      | inl is ↦
          let new_value : (at_node (set old (n + i) one) (n + k)).value ≡ v = ap (λ (m : ℕ). (at_node (set old (n + i) one) (n + m)).value) is ∙ ap (λ (c : Contender). c.value) (get_or-set_same old (n + i) one nobody (omega arith)) in
          ap (λ (m : ℕ). get_or (set xs i v) m 0) is ∙ get_or-set_same xs i v 0 (omega arith) ∙ sym (stands k h ∙ new_value)
      | inr ne ↦
          let apart : (n + k) ≢ (n + i) = omega arith in
          get_or-set_other xs i k v 0 ne ∙ leaf_value n old k h ∙ sym (stands k h ∙ ap (λ (c : Contender). c.value) (get_or-set_other old (n + i) (n + k) one nobody apart))
    ]))

module _ (n : ℕ) (nodes : List Contender) (t : IsTree n nodes) where
  -- both children are no better than their parent
  children : (k : ℕ) → 1 ≤ k → k < n → IsBetter (at_node nodes (2 * k)) (at_node nodes (2 * k + 1)) (at_node nodes k)
  children k some inside =
      subst (λ (c : Contender). IsBetter (at_node nodes (2 * k)) (at_node nodes (2 * k + 1)) c) (sym (t.inner k some inside)) (better-is (at_node nodes (2 * k)) (at_node nodes (2 * k + 1)))

  -- the first node is no worse than any
  root_no_worse : (steps k : ℕ) → k ≤ steps → 1 ≤ k → k < 2 * n → IsNoWorse (at_node nodes 1) (at_node nodes k)
  root_no_worse zero k few some inside = absurd (omega arith)
  root_no_worse (suc steps) zero few some inside = absurd (omega arith)
  root_no_worse (suc steps) (suc zero) few some inside = same (at_node nodes 1)
  root_no_worse (suc steps) (suc (suc j)) few some inside =
      let k : ℕ = suc (suc j) in
      let half : ℕ = k / 2 in
      let above = root_no_worse steps half (omega arith) (omega arith) (omega arith) in
      let both = children half (omega arith) (omega arith) in
      elim (even_or_odd k) [
        | inl is ↦ no_worse_on _ _ _ above (subst (λ (m : ℕ). IsNoWorse (at_node nodes half) (at_node nodes m)) is both.first)
        | inr is ↦ no_worse_on _ _ _ above (subst (λ (m : ℕ). IsNoWorse (at_node nodes half) (at_node nodes m)) is both.second)
      ]

  on_leaf : (steps k : ℕ) → 2 * n ≤ k + steps → 1 ≤ k → k < 2 * n → IsOnLeaf n nodes (at_node nodes k)
  on_leaf zero k few some inside = absurd (omega arith)
  on_leaf (suc steps) k few some inside =
      elim (cases_lt k n) [
        | inl l ↦ elim ((children k some l).either) [
          | inl is ↦ subst (λ (c : Contender). IsOnLeaf n nodes c) (sym is) (on_leaf steps (2 * k) (omega arith) (omega arith) (omega arith))
          | inr is ↦ subst (λ (c : Contender). IsOnLeaf n nodes c) (sym is) (on_leaf steps (2 * k + 1) (omega arith) (omega arith) (omega arith))
        ]
        | inr l ↦
            let i : ℕ = k - n in
            let here : n + i ≡ k = omega arith in
            let place : (at_node nodes k).place ≡ i = subst (λ (m : ℕ). (at_node nodes m).place ≡ i) here (t.leaves i (omega arith)) in
            record { inside = omega arith; leaf = ap (λ (p : ℕ). at_node nodes (n + p)) place ∙ ap (at_node nodes) here }
      ]

  pub root_on_leaf : IsOnLeaf n nodes (at_node nodes 1)
  root_on_leaf = let some = t.some in on_leaf (2 * n) 1 (omega arith) (omega arith) (omega arith)

  pub root_at : get_or (leaf_values n nodes) (at_node nodes 1).place 0 ≡ (at_node nodes 1).value
  root_at = leaf_value n nodes (at_node nodes 1).place root_on_leaf.inside ∙ ap (λ (c : Contender). c.value) root_on_leaf.leaf

  root_above : (k : ℕ) → k < n → IsNoWorse (at_node nodes 1) (at_node nodes (n + k))
  root_above k h = let some = t.some in root_no_worse (n + k) (n + k) (omega arith) (omega arith) (omega arith)

  pub root_most : (k : ℕ) → k < n → get_or (leaf_values n nodes) k 0 ≤ (at_node nodes 1).value
  root_most k h = let value = leaf_value n nodes k h in let above = (root_above k h).by_value in omega arith

  root_greatest : (k : ℕ) → k < length (leaf_values n nodes) → get_or (leaf_values n nodes) k 0 ≤ get_or (leaf_values n nodes) (at_node nodes 1).place 0
  root_greatest k h = let long = length-leaf_values n nodes in let at = root_at in let most = root_most k (omega arith) in omega arith

  root_first : (k : ℕ) → k < (at_node nodes 1).place → get_or (leaf_values n nodes) k 0 < get_or (leaf_values n nodes) (at_node nodes 1).place 0
  root_first k h =
      let at = root_at in
      let inside = root_on_leaf.inside in
      let l : k < n = omega arith in
      let value = leaf_value n nodes k l in
      let place = t.leaves k l in
      let above = root_above k l in
      first_by _ _ _ _ _ _ _ above.by_value above.by_place at value place h

  root_inside : (at_node nodes 1).place < length (leaf_values n nodes)
  root_inside = let long = length-leaf_values n nodes in let inside = root_on_leaf.inside in omega arith

  pub root_place : (at_node nodes 1).place ≡ greatest_place (leaf_values n nodes)
  root_place = greatest_place-is (leaf_values n nodes) (at_node nodes 1).place root_inside root_greatest root_first

  pub root_value : (at_node nodes 1).value ≡ greatest_value (leaf_values n nodes)
  root_value = sym root_at ∙ greatest_value-is (leaf_values n nodes) (at_node nodes 1).place root_inside root_greatest
