-- What patches reflect to a point, one more at a time.
use Rattle.std.proofs.Common.{◌≡◌, ℕ, ◌+◌, ◌*◌, ◌<◌, ℤ, List, length, get_or, refl, sym, ap, ◌∙◌}
use Rattle.std.specs.Prelude.{slice_index}
use Rattle.std.specs.List.{sum_by, range_with_len}
use Rattle.std.proofs.lemmas.List.{get_or-map}
use Rattle.std.proofs.lemmas.List.Sums.{sum_by_push}
use Rattle.laws.proofs.Ranges.{range-more}
use Rattle.room_patches.specs.declared.patch.Patch.{Patch}
use Rattle.grids.specs.GridPoint.{coefficient, weights, reflected_light}

-- what the first n patches reflect to a point
unfoldable pub light_of_first : ℕ → List Patch → List ℤ → (ℕ → ℕ) → ℕ
light_of_first n patches point flux = sum_by (λ i. slice_index (weights patches point) i * flux i) (range_with_len 0 n)

module _ (patches : List Patch) (point : List ℤ) (flux : ℕ → ℕ) where
  pub light_of_none : 0 ≡ light_of_first 0 patches point flux
  unfolding light_of_first
  light_of_none = refl

  pub light_of_more : (n : ℕ) → light_of_first (n + 1) patches point flux ≡ light_of_first n patches point flux + slice_index (weights patches point) n * flux n
  unfolding light_of_first
  light_of_more n = let term : ℕ → ℕ = λ i. slice_index (weights patches point) i * flux i in ap (sum_by term) (range-more n) ∙ sum_by_push term (range_with_len 0 n) n

  pub light_of_all : light_of_first (length patches) patches point flux ≡ reflected_light patches point flux
  unfolding light_of_first reflected_light
  light_of_all = refl

  -- a sum that goes on
  pub light_with_next : (i : ℕ) (d : Patch) (total w f : ℕ) → i < length patches → w ≡ (get_or patches i d).reflectance * coefficient (get_or patches i d) point → f ≡ flux i
      → total ≡ light_of_first i patches point flux → total + w * f ≡ light_of_first (i + 1) patches point flux
  light_with_next i d total w f inside w_is f_is so_far =
      let weight : slice_index (weights patches point) i ≡ w = get_or-map (λ (patch : Patch). patch.reflectance * coefficient patch point) patches i d 0 inside ∙ sym w_is in
      (λ k. so_far k + sym weight k * f_is k) ∙ sym (light_of_more i)

  -- a sum that is done
  pub light_when_done : (n total : ℕ) → n ≡ length patches → total ≡ light_of_first n patches point flux → total ≡ reflected_light patches point flux
  light_when_done n total all so_far = so_far ∙ (ap (λ (m : ℕ). light_of_first m patches point flux) all ∙ light_of_all)
