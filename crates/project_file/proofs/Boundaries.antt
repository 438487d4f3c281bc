-- Where a text is cut.
use Rattle.std.proofs.Common.{◌≡◌, ℕ, zero, suc, ◌<◌, ◌≤◌, true, false, inl, inr, List, arith}
use Rattle.std.proofs.lemmas.Bool.{cases_Bool}
use Rattle.std.proofs.lemmas.Bool.Decides.{nat_tests}
use Rattle.std.specs.Str.{IsCharBoundary}
use Rattle.project_file.specs.Names.{is_boundary, last_boundary}

boundary_true : (text : List ℕ) (i : ℕ) → is_boundary text i ≡ true → IsCharBoundary text i
boundary_true text i h = (grind (arith, nat_tests), λ below high. grind (arith, nat_tests))

boundary_false : (text : List ℕ) (i : ℕ) → is_boundary text i ≡ false → IsCharBoundary text i → ⊥
boundary_false text i h b = let inside = b.0 in let begins = b.1 in grind (arith, nat_tests)

-- the last place up to n at which a character begins, or the text ends
pub last_boundary_is : (text : List ℕ) (n r : ℕ) → r ≤ n → IsCharBoundary text r → ((i : ℕ) → r < i → i ≤ n → IsCharBoundary text i → ⊥) → last_boundary text n ≡ r
last_boundary_is text zero r low here later = omega arith
last_boundary_is text (suc n) r low here later =
    elim (cases_Bool (is_boundary text (suc n))) [
      | inl ends ↦ rw ends (reached (suc n) r low (λ above. later (suc n) above (omega arith) (boundary_true text (suc n) ends)))
      | inr inside ↦ rw inside (last_boundary_is text n r (before n r low (λ same. boundary_false text (suc n) inside (rw same at here))) here (λ i above below. later i above (omega arith)))
    ]
  where
    reached : (n r : ℕ) → r ≤ n → (r < n → ⊥) → n ≡ r
    reached n r low above = omega arith

    before : (n r : ℕ) → r ≤ suc n → (r ≡ suc n → ⊥) → r ≤ n
    before n r low last = omega arith
