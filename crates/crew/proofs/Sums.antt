-- What an account has at a patch, at its start and once a seat is retired into it.
use Rattle.std.proofs.Common.{◌≡◌, ℕ, zero, suc, ◌+◌, ◌<◌, replicate, slice_index, refl, arith}
use Rattle.std.proofs.lemmas.List.FromFn.{get_or-map-range_with_len}
use Rattle.flux_system.specs.System.{patches}
use Rattle.shot_core.specs.declared.views.View.{View}
use Rattle.shot_core.specs.Views.{after_retire, taken_at}

pub nothing_at : (n j : ℕ) → slice_index (replicate n 0) j ≡ 0
nothing_at zero j = refl
nothing_at (suc n) zero = refl
nothing_at (suc n) (suc j) = nothing_at n j

pub taken_after_retire : (desk v : View) (j : ℕ) → j < patches desk.system → taken_at j (after_retire desk v) ≡ taken_at j desk + taken_at j v
taken_after_retire desk v j inside = get_or-map-range_with_len (λ (k : ℕ). slice_index desk.taken k + slice_index v.taken k) 0 (patches desk.system) j j 0 inside (omega arith)
