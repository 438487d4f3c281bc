-- The laws of duties: what the first duty that isn't met is, one step at a time.
use Rattle.std.proofs.Common.{◌≡◌, ℕ, ◌+◌, ◌-◌, ◌<◌, List, [], ◌∷◌, ◌++◌, Option, Some, None, Result, Ok, Err, ◌≢◌, map, refl, ap, ◌∙◌, arith, zero, suc, Bool, true, false}
use Rattle.std.specs.List.{range_with_len}
use Rattle.std.specs.Prelude.{IsErrAnd}
use Rattle.std.proofs.lemmas.Result.{err_from_is_err_and}
use Rattle.duties.specs.Duties.{first, each, unless, judged, Answers}

module _ {F : Type 0} where
  -- where no duty is left, all were met
  pub none_left : first {F = F} [] ≡ None
  unfolding first
  none_left = refl

  -- a duty that isn't met, in front, is the first
  pub this_fails : (duty : Option F) (duties : List (Option F)) (f : F) → duty ≡ Some f → first (duty ∷ duties) ≡ Some f
  unfolding first
  this_fails duty duties f h = rw h refl

  -- a duty that is met, in front, changes nothing
  pub this_met : (duty : Option F) (duties : List (Option F)) → duty ≡ None → first (duty ∷ duties) ≡ first duties
  unfolding first
  this_met duty duties h = rw h refl

  -- a last duty decides
  pub last_decides : (duty : Option F) → first (duty ∷ []) ≡ duty
  unfolding first
  last_decides None = refl
  last_decides (Some fault) = refl

  -- An error that a `?` hands on answers the whole, where the part that it answers is the first duty of the whole that isn't met.
  pub hands_on : {V : Type 0} (memory : F) (r : Result V F) (f : F) (part whole : Option F) → IsErrAnd r (λ y. y ≡ f) → (f ≢ memory → part ≡ Some f) → (part ≡ Some f → whole ≡ Some f) → Answers memory whole r
  hands_on memory r f part whole is answer step = let p = err_from_is_err_and r is in rw (p.1, p.2) (λ ne. step (answer ne))

  -- the first fault of a front is the first of the whole
  pub fault_in_front : (front behind : List (Option F)) (f : F) → first front ≡ Some f → first (front ++ behind) ≡ Some f
  unfolding first
  fault_in_front [] behind f h = cc
  fault_in_front (None ∷ front) behind f h = fault_in_front front behind f h
  fault_in_front (Some g ∷ front) behind f h = h

  -- a front that is met changes nothing
  pub front_met : (front behind : List (Option F)) → first front ≡ None → first (front ++ behind) ≡ first behind
  unfolding first
  front_met [] behind h = refl
  front_met (None ∷ front) behind h = front_met front behind h
  front_met (Some g ∷ front) behind h = cc

  -- duties for the numbers below n: those of the first m numbers, then the others
  split : (duty : ℕ → Option F) (a m j n : ℕ) → m + j ≡ n → map duty (range_with_len a n) ≡ map duty (range_with_len a m) ++ map duty (range_with_len (a + m) j)
  split duty a zero j n e = let same : n ≡ j = omega arith in let at : a ≡ a + 0 = omega arith in rw (same, ← at) refl
  split duty a (suc m) j n e =
      let same : n ≡ suc (m + j) = omega arith in
      let at : (a + 1) + m ≡ a + suc m = omega arith in
      rw same (ap (λ (r : List (Option F)). duty a ∷ r) (split duty (a + 1) m j (m + j) refl ∙ ap (λ (b : ℕ). map duty (range_with_len (a + 1) m) ++ map duty (range_with_len b j)) at))

  -- for no number there is no duty
  pub each_none : (duty : ℕ → Option F) → each 0 duty ≡ None
  unfolding each first
  each_none duty = refl

  -- where the duties of the numbers below n are met, the one of n decides
  pub each_more : (duty : ℕ → Option F) (n : ℕ) → each n duty ≡ None → each (n + 1) duty ≡ duty n
  unfolding each
  each_more duty n before =
      ap first (split duty 0 n 1 (n + 1) refl)
      ∙ (front_met (map duty (range_with_len 0 n)) (duty (0 + n) ∷ []) before ∙ (last_decides (duty (0 + n)) ∙ ap duty (let e : 0 + n ≡ n = omega arith in e)))

  -- the first of many that isn't met, where those before it are met
  pub each_fails : (duty : ℕ → Option F) (n k : ℕ) (f : F) → k < n → each k duty ≡ None → duty k ≡ Some f → each n duty ≡ Some f
  unfolding each
  each_fails duty n k f h before here =
      ap first (split duty 0 (k + 1) (n - (k + 1)) n (omega arith))
      ∙ fault_in_front (map duty (range_with_len 0 (k + 1))) (map duty (range_with_len (0 + (k + 1)) (n - (k + 1)))) f (each_more duty k before ∙ here)

  -- a test that is passed
  pub unless_holds : (test : Bool) (f : F) → test ≡ true → unless test f ≡ None
  unfolding unless
  unless_holds test f h = rw h refl

  -- a test that is not passed
  pub unless_fails : (test : Bool) (f : F) → test ≡ false → unless test f ≡ Some f
  unfolding unless
  unless_fails test f h = rw h refl

  -- an error that a `?` hands on in a loop answers the duties of all numbers, where those before it are met
  pub each_hands_on : {V : Type 0} (memory : F) (r : Result V F) (f : F) (duty : ℕ → Option F) (n k : ℕ) → k < n → each k duty ≡ None → IsErrAnd r (λ y. y ≡ f) → (f ≢ memory → duty k ≡ Some f) → Answers memory (each n duty) r
  each_hands_on memory r f duty n k h before is answer = hands_on memory r f (duty k) (each n duty) is answer (λ here. each_fails duty n k f h before here)

  -- where a test's duty is met, the test was passed
  pub unless_met : (test : Bool) (f : F) → unless test f ≡ None → test ≡ true
  unfolding unless
  unless_met true f h = refl
  unless_met false f h = absurd (cc)

  -- where all duties are met, the one in front is, and those behind it are
  pub all_met : (duty : Option F) (duties : List (Option F)) → first (duty ∷ duties) ≡ None → (duty ≡ None) × (first duties ≡ None)
  unfolding first
  all_met None duties h = (refl, h)
  all_met (Some f) duties h = absurd (cc)

  -- where the duties of the numbers below n are met, each of them is
  pub each_met : (duty : ℕ → Option F) (n k : ℕ) → each n duty ≡ None → k < n → duty k ≡ None
  unfolding each
  each_met duty n k h inside = let e : 0 + k ≡ k = omega arith in rw e at (met_from 0 n k h inside)
    where
      met_from : (a n k : ℕ) → first (map duty (range_with_len a n)) ≡ None → k < n → duty (a + k) ≡ None
      met_from a zero k h inside = absurd (omega arith)
      met_from a (suc n) zero h inside = let e : a + 0 ≡ a = omega arith in rw e (all_met (duty a) (map duty (range_with_len (a + 1) n)) h).0
      met_from a (suc n) (suc k) h inside =
          let e : a + suc k ≡ (a + 1) + k = omega arith in
          rw e (met_from (a + 1) n k (all_met (duty a) (map duty (range_with_len (a + 1) n)) h).1 (omega arith))

  -- where all duties are met, the value
  pub judged_ok : {V : Type 0} (duties : List (Option F)) (value : V) → first duties ≡ None → judged duties value ≡ Ok value
  judged_ok duties value h = rw h refl

  -- where one isn't met, its fault
  pub judged_err : {V : Type 0} (duties : List (Option F)) (value : V) (f : F) → first duties ≡ Some f → judged duties value ≡ Err f
  judged_err duties value f h = rw h refl

  -- a value that was found is the value, and all duties are met
  pub judged_is : {V : Type 0} (duties : List (Option F)) (value found : V) → judged duties value ≡ Ok found → (found ≡ value) × (first duties ≡ None)
  judged_is duties value found h = by_first (first duties) refl
    where
      by_first : (d : Option F) → first duties ≡ d → (found ≡ value) × (first duties ≡ None)
      by_first None e = let ok = judged_ok duties value e in let same : found ≡ value = cc in (same, e)
      by_first (Some fault) e = let err = judged_err duties value fault e in absurd (cc)

  -- a fault that was found is the first
  pub judged_refuses : {V : Type 0} (duties : List (Option F)) (value : V) (f : F) → judged duties value ≡ Err f → first duties ≡ Some f
  judged_refuses duties value f h = by_first (first duties) refl
    where
      by_first : (d : Option F) → first duties ≡ d → first duties ≡ Some f
      by_first None e = let ok = judged_ok duties value e in absurd (cc)
      by_first (Some fault) e = let err = judged_err duties value fault e in let same : fault ≡ f = cc in rw (← same) e

  -- the steps through a list of duties, for tactics
  pub ruleset steps = (this_met, this_fails, none_left, unless_holds, unless_fails)
