-- The web that some stored planes stand for. A photometry file stores only planes that no mirroring gives (LM-63 and
-- EULUMDAT, with this project's own span for each symmetry). Angles are in millidegrees: 360000 is a full turn.
use Rattle.std.specs.Prelude.{ℕ, ◌+◌, ◌-◌, ◌%◌, ◌==◌, ◌&&◌, ◌||◌, Bool, nat_le, Option, List, [], ◌∷◌, length, slice_index, filter, position, unwrap_or}
use Rattle.std.specs.List.{list_any, flat_map, range_with_len}
use Rattle.photo_web.specs.declared.photometry.SymKind.{SymKind}
use Rattle.photo_web.specs.declared.photometry.SymKind.TheVariants.{Axis, Quadrant, Plane0, Plane90, Full}
use Rattle.photo_web.specs.Web.{PhotometricWeb, row_values}

-- stored planes begin at one angle and end at another
abbrev pub spans : ℕ → ℕ → List ℕ → Bool
spans from to stored = slice_index stored 0 == from && slice_index stored (length stored - 1) == to

-- stored planes have the span of their symmetry
abbrev pub has_span : SymKind → List ℕ → Bool
has_span Axis stored = length stored == 1 && slice_index stored 0 == 0
has_span Quadrant stored = spans 0 90000 stored
has_span Plane0 stored = spans 0 180000 stored
has_span Plane90 stored = spans 90000 270000 stored && list_any (λ angle. angle == 180000) stored
has_span Full stored = slice_index stored 0 == 0 && nat_le (slice_index stored (length stored - 1)) 360000

-- the images of a stored angle, at which the same values stand; for Plane90 180000 - angle is taken modulo a full turn
abbrev pub images : SymKind → ℕ → List ℕ
images Axis angle = 0 ∷ 360000 ∷ []
images Quadrant angle = angle ∷ (180000 - angle) ∷ (180000 + angle) ∷ (360000 - angle) ∷ []
images Plane0 angle = angle ∷ (360000 - angle) ∷ []
images Plane90 angle = angle ∷ ((360000 + 180000 - angle) % 360000) ∷ []
images Full angle = angle ∷ []

-- an angle is an image of a stored one
abbrev pub is_image : SymKind → ℕ → ℕ → Bool
is_image sym angle stored_angle = list_any (λ image. image == angle) (images sym stored_angle)

-- the web has a plane at each image of a stored angle, and at a full turn
abbrev pub is_plane : SymKind → List ℕ → ℕ → Bool
is_plane sym stored angle = angle == 360000 || list_any (is_image sym angle) stored

-- the planes of the web that are below an angle
unfoldable pub planes_below : ℕ → SymKind → List ℕ → List ℕ
planes_below angle sym stored = filter (is_plane sym stored) (range_with_len 0 angle)

-- the planes of the web: all up to a full turn, each once, in rising order
abbrev pub planes_of : SymKind → List ℕ → List ℕ
planes_of sym stored = planes_below 360001 sym stored

-- the place of the stored plane whose image an angle is: with its symmetry's span there is one at most (`one_source` of `proofs/Laws.antt`)
abbrev pub source : SymKind → List ℕ → ℕ → Option ℕ
source sym stored angle = position (is_image sym angle) stored

-- the place of the stored plane whose values stand at a plane of the web: where a full turn is no image, that of plane 0
abbrev pub stored_place : SymKind → List ℕ → ℕ → ℕ
stored_place sym stored angle = unwrap_or (source sym stored angle) (unwrap_or (source sym stored 0) 0)

-- the web: stored planes with gammas and a row of values for each plane, mirrored and closed
unfoldable pub expansion : SymKind → List ℕ → List ℕ → List ℕ → PhotometricWeb
expansion sym stored gammas rows =
    record {
      planes = planes_of sym stored;
      gammas = gammas;
      values = flat_map (λ angle. row_values (length gammas) rows (stored_place sym stored angle)) (planes_of sym stored);
    }
