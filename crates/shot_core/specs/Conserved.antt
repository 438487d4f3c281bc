-- What follows from the accounts: no flux is lost, takes are few, and every sum fits a word.
use Rattle.std.specs.Prelude.{◌≡◌, ℕ, ◌+◌, ◌*◌, ◌<◌, ◌≤◌, ◌^◌, List, slice_index, sum}
use Rattle.flux_system.specs.Sums.{sum_below}
use Rattle.flux_system.specs.System.{FluxSystem, scale, patches, keep, least_keep}
use Rattle.shot_core.specs.declared.views.View.{View}
use Rattle.shot_core.specs.Views.{taken_at, hand_at, err_at, wins_of, total}

-- what the patches kept of all that was taken of them, in parts of a nanolumen
abbrev pub absorbed : FluxSystem → List View → ℕ
absorbed s views = sum_below (patches s) (λ i. total (taken_at i) views * keep s i)

-- what rounding left, in parts of a nanolumen
abbrev pub remainders : FluxSystem → List View → ℕ
remainders s views = sum_below (patches s) (λ j. total (err_at j) views)

-- what is in hand, in nanolumens
abbrev pub in_hand : FluxSystem → List View → ℕ
in_hand s views = sum_below (patches s) (λ j. total (hand_at j) views)

-- The direct flux is what was absorbed, what rounding left, what the words have and what is in hand, to the last part of a nanolumen.
abbrev pub IsConserved : FluxSystem → List ℕ → List ℕ → List View → Type 0
IsConserved s direct words views = scale * sum direct ≡ absorbed s views + remainders s views + scale * sum words + scale * in_hand s views

-- All wins together are within the bound of takes.
abbrev pub WinsAreBounded : FluxSystem → List ℕ → List View → Type 0
WinsAreBounded s direct views = (total wins_of views * s.threshold) * least_keep s ≤ scale * sum direct

-- A word and all that is in hand for its patch come to at most 10^16 nanolumens.
abbrev pub WordsAreBounded : FluxSystem → List ℕ → List View → Type 0
WordsAreBounded s words views = (j : ℕ) → j < patches s → slice_index words j + total (hand_at j) views ≤ 10 ^ 16
