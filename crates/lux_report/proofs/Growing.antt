-- A list that grew by others, one behind the other.
use Rattle.std.proofs.Common.{◌≡◌, List, ◌++◌, append_assoc}

module _ {X : Type 0} where
  pub grows_thrice : (l0 l1 l2 l3 a b c : List X) → l1 ≡ l0 ++ a → l2 ≡ l1 ++ b → l3 ≡ l2 ++ c → l3 ≡ l0 ++ (a ++ b ++ c)
  grows_thrice l0 l1 l2 l3 a b c first second third = rw (third, second, first) (simp append_assoc)

  pub grows_fourfold : (l0 l1 l2 l3 l4 a b c d : List X) → l1 ≡ l0 ++ a → l2 ≡ l1 ++ b → l3 ≡ l2 ++ c → l4 ≡ l3 ++ d → l4 ≡ l0 ++ (a ++ b ++ c ++ d)
  grows_fourfold l0 l1 l2 l3 l4 a b c d first second third fourth = rw (fourth, third, second, first) (simp append_assoc)
