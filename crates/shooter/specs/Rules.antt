-- The rules of a pass and of a shot, over the steps that the call adds to its seat's log. They are this project's own.
use Rattle.std.specs.Prelude.{◌≡◌, ◌≢◌, ℕ, ◌+◌, ◌%◌, ◌<◌, ◌≤◌, ◌⊎◌, List, [], ◌∷◌, None, Some, slice_index}
use Rattle.flux_system.specs.System.{FluxSystem, patches}
use Rattle.shot_core.specs.Views.{hand_at}
use Rattle.flux_accounts.specs.declared.histories.Kind.{Kind}
use Rattle.flux_accounts.specs.declared.histories.Kind.TheVariants.{Look, Won, Lost, Give}
use Rattle.flux_accounts.specs.declared.histories.Entry.{Entry}
use Rattle.shooter.specs.Moments.{Moment, value_of, after_step}

-- A pass takes up to so many patches before it gives.
abbrev pub group : ℕ
group = 8

-- the cursor's patch: one patch on at each look
abbrev pub cursor_patch : FluxSystem → ℕ → Moment → ℕ
cursor_patch s cursor m = (cursor + m.looks) % patches s

-- A look goes to a patch whose remembered value reaches the threshold; where none does, to the cursor's patch.
abbrev pub IsNext : FluxSystem → ℕ → Moment → ℕ → Type 0
IsNext s cursor m patch = (s.threshold ≤ slice_index m.remembered patch) ⊎ (((j : ℕ) → j < patches s → slice_index m.remembered j < s.threshold) × (patch ≡ cursor_patch s cursor m))

-- no flux is in hand
abbrev pub HasNothing : FluxSystem → Moment → Type 0
HasNothing s m = (j : ℕ) → j < patches s → hand_at j m.account ≡ 0

-- the look before saw this patch reach the threshold
abbrev pub IsDue : Moment → ℕ → Type 0
IsDue m patch = m.due ≡ Some (record { patch = patch; value = value_of m.due })

-- which step may come next in a pass that began at the cursor
abbrev pub MayCome : FluxSystem → ℕ → Moment → Kind → ℕ → ℕ → Type 0
-- a look: where no take is due, fewer than all looks are made, and at the beginning of a group nothing is in hand
MayCome s cursor m Look patch value = (m.due ≡ None) × ((m.looks < patches s) × ((patch < patches s) × (IsNext s cursor m patch × (m.looks % group ≡ 0 → HasNothing s m))))
-- a won take of what the look before saw
MayCome s cursor m Won patch value = IsDue m patch × (value ≡ 0)
-- a lost take, which found another value than the look before saw
MayCome s cursor m Lost patch value = IsDue m patch × (value ≢ value_of m.due)
-- a give: at the end of a group, or once all looks are made
MayCome s cursor m Give patch value = (m.due ≡ None) × ((patch < patches s) × ((m.looks % group ≡ 0) ⊎ (m.looks ≡ patches s)))

-- Each step comes where it may, and no take is left due.
abbrev pub AreInPass : FluxSystem → ℕ → Moment → List Entry → Type 0
AreInPass s cursor m [] = m.due ≡ None
AreInPass s cursor m (step ∷ steps) = MayCome s cursor m step.kind step.patch step.value × AreInPass s cursor (after_step s.threshold m step) steps
