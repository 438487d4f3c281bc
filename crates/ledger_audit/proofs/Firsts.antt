-- What is known of the first of some duties that isn't met, by what is known of each.
use Rattle.std.proofs.Common.{◌≡◌, ℕ, zero, suc, ◌+◌, ◌<◌, Bool, true, false, List, [], ◌∷◌, Some, None, IfSome, map, ◌∙◌, subst, arith}
use Rattle.std.specs.List.{range_with_len}
use Rattle.duties.specs.Duties.{Duty, unless, first, each}
use Rattle.duties.proofs.Orders.{each_none, each_more}

module _ {F : Type 0} where
  -- where each number's duty is met, all are
  pub each_all : (duty : ℕ → Duty F) (n : ℕ) → ((k : ℕ) → k < n → duty k ≡ None) → each n duty ≡ None
  each_all duty zero met = each_none duty
  each_all duty (suc n) met =
      let next : n + 1 ≡ suc n = omega arith in
      subst (λ (m : ℕ). each m duty ≡ None) next (each_more duty n (each_all duty n (λ k h. met k (omega arith))) ∙ met n (omega arith))

  module _ (P : F → Type 0) where
    -- P of what a test tells
    pub unless_tells : (test : Bool) (f : F) → P f → IfSome (unless test f) P
    unfolding unless
    unless_tells true f p = tt
    unless_tells false f p = p

    -- P of what the first duty of a list tells
    pub first_tells : (duty : Duty F) (later : List (Duty F)) → IfSome duty P → IfSome (first later) P → IfSome (first (duty ∷ later)) P
    unfolding first
    first_tells None later this rest = rest
    first_tells (Some f) later this rest = this

    pub none_tells : IfSome (first {F = F} []) P
    unfolding first
    none_tells = tt

    -- P of what the first duty of many tells
    pub each_tells : (duty : ℕ → Duty F) (n : ℕ) → ((k : ℕ) → IfSome (duty k) P) → IfSome (each n duty) P
    unfolding each
    each_tells duty n tells = from 0 n
      where
        from : (a n : ℕ) → IfSome (first (map duty (range_with_len a n))) P
        from a zero = none_tells
        from a (suc n) = first_tells (duty a) (map duty (range_with_len (a + 1) n)) (tells a) (from (a + 1) n)
