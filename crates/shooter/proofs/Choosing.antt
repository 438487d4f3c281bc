-- Where a turn looks, by what the picker answers.
use Rattle.std.proofs.Common.{◌≡◌, ℕ, ◌+◌, ◌<◌, ◌≤◌, inl, inr, length, get_or, sym, subst, ◌∙◌, arith, None, Some, Option}
use Rattle.std.proofs.Math.Nat.{mod-lt}
use Rattle.std.specs.Option.{unwrap_or}
use Rattle.flux_system.specs.System.{FluxSystem, patches}
use Rattle.picker.specs.Picks.{IsPick}
use Rattle.shooter.specs.Moments.{Moment}
use Rattle.shooter.specs.Rules.{IsNext, cursor_patch}

module _ (s : FluxSystem) (cursor : ℕ) (m : Moment) (place : ℕ) (at_cursor : place ≡ cursor_patch s cursor m) (long : length m.remembered ≡ patches s) where
  pub is_next : (choice : Option ℕ) (patch : ℕ) → IsPick m.remembered s.threshold choice → patch ≡ unwrap_or choice place → IsNext s cursor m patch
  is_next (Some i) patch pick is = inl (let reaches = pick.0.1 in subst (λ (j : ℕ). s.threshold ≤ get_or m.remembered j 0) (sym is) reaches)
  is_next None patch pick is = inr ((λ j h. pick.1 j (omega arith)), is ∙ at_cursor)

  pub next_inside : 0 < patches s → (choice : Option ℕ) (patch : ℕ) → IsPick m.remembered s.threshold choice → patch ≡ unwrap_or choice place → patch < patches s
  next_inside some (Some i) patch pick is = let inside = pick.0.0 in omega arith
  next_inside some None patch pick is = let below = mod-lt (cursor + m.looks) some in omega arith
