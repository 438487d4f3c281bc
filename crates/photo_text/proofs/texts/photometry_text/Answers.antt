use Rattle.laws.proofs.Ranges.{lists_grow}
use Rattle.photo_text.specs.PhotometryText.{head_text, plane_line}
use Rattle.photo_text.proofs.texts.photometry_text.Goals as goal

pub loop-plane-preserved : goal.loop-plane-preserved
loop-plane-preserved c =
    lists_grow (plane_line c.args.photometry.now.web) (head_text c.args.photometry.now) c.loop-plane.plane _ _ c.loop-plane.invariant c.in_ok-push_plane.ensures
