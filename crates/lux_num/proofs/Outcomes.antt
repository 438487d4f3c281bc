-- Outcomes of tests.
use Rattle.std.proofs.Common.{◌≡◌, ℕ, ◌<◌, ◌≤◌, Bool, true, false, ◌&&◌, leb, refl, arith}
use Rattle.std.proofs.lemmas.Bool.Decides.{nat_tests}

pub leb_holds : (m n : ℕ) → m ≤ n → leb m n ≡ true
leb_holds m n h = grind (arith, nat_tests)

pub leb_fails : (m n : ℕ) → n < m → leb m n ≡ false
leb_fails m n h = grind (arith, nat_tests)

pub both : (a b : Bool) → (a && b) ≡ true → (a ≡ true) × (b ≡ true)
both true b h = (refl, h)
both false b h = absurd (cc)

pub leb_means : (m n : ℕ) → leb m n ≡ true → m ≤ n
leb_means m n h = grind (arith, nat_tests)

pub leb_denies : (m n : ℕ) → leb m n ≡ false → n < m
leb_denies m n h = grind (arith, nat_tests)
