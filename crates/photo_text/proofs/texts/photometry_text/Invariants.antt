use Rattle.std.proofs.Common.{◌≡◌, ◌++◌}
use Rattle.std.specs.List.{flat_map, range_with_len}
use Rattle.photo_text.specs.PhotometryText.{head_text, plane_line}
use Rattle.photo_text.proofs.texts.photometry_text.Given as goal

-- the head, and the lines of the planes so far
abbrev pub invariant-loop-plane : goal.invariant-loop-plane
invariant-loop-plane l = l.text.items ≡ head_text l.photometry ++ flat_map (plane_line l.photometry.web) (range_with_len 0 l.plane)
