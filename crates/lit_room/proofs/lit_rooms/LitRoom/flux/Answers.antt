use Rattle.std.proofs.Common.{◌≡◌, ap, ◌∙◌, length, List, ℕ, None, subst}
use Rattle.duties.specs.Duties.{first}
use Rattle.flux_system.specs.Limits.{limit_duties}
use Rattle.flux_system.specs.System.{patches}
use Rattle.lit_room.specs.LitRooms.{Lighting, system_of, flux_of}
use Rattle.lit_room.proofs.Lighting.{a_flux_each, within_limits}
use Rattle.lit_room.proofs.lit_rooms.LitRoom.flux.Goals as goal

pub returns-clause-count : goal.returns-clause-count
returns-clause-count c =
    subst (λ (l : Lighting). length c.as_slice.result.now ≡ patches (system_of l)) c.self.view_is
    (ap (λ (l : List ℕ). length l) (c.as_slice.ensures.value ∙ c.self.invariant.is_flux) ∙ a_flux_each _ c.self.inside.project.threshold _ _)

pub returns-clause-limited : goal.returns-clause-limited
returns-clause-limited c = subst (λ (l : Lighting). first (limit_duties (system_of l) (flux_of l)) ≡ None) c.self.view_is (within_limits _ c.self.invariant.accepted)
