use Rattle.std.proofs.Common.{◌≡◌, ℕ, ◌-◌, true, List, length, sym, subst, arith}
use Rattle.photo_web.specs.declared.photometry.SymKind.{SymKind}
use Rattle.symmetry.specs.Images.{has_span}
use Rattle.symmetry.specs.Growth.{IsGrown}
use Rattle.symmetry.proofs.Symmetries.{most0, plane0_grown, most_q, quadrant_grown, axis_grown, most_f, full_risen, full_closed, most_h, to_half, plane90_grown}
use Rattle.symmetry.proofs.kinds.grow.Goals as goal

-- what is known of a symmetry, where it is another
span_of : (kind other : SymKind) (stored : List ℕ) → kind ≡ other → has_span kind stored ≡ true → has_span other stored ≡ true
span_of kind other stored is span = subst (λ (k : SymKind). has_span k stored ≡ true) is span

grown_of : (kind other : SymKind) (stored rows : List ℕ) (width : ℕ) (p v more_p more_v : List ℕ) → kind ≡ other → (IsGrown 0 other stored rows width p v → IsGrown 360001 other stored rows width more_p more_v) → IsGrown 0 kind stored rows width p v → IsGrown 360001 kind stored rows width more_p more_v
grown_of kind other stored rows width p v more_p more_v is step start =
    subst (λ (k : SymKind). IsGrown 360001 k stored rows width more_p more_v) (sym is) (step (subst (λ (k : SymKind). IsGrown 0 k stored rows width p v) is start))

pub rise-requires-clause-fits : goal.rise-requires-clause-fits
rise-requires-clause-fits c = λ k h. let m = most_q c.args.stored.now.planes.now c.requires.rising c.args.stored.now.rows.now c.args.stored.now.width (span_of _ _ _ c.in-Quadrant.is c.requires.span) k h in omega arith

pub fall-requires-clause-fits : goal.fall-requires-clause-fits
fall-requires-clause-fits c = λ k h. let m = most_q c.args.stored.now.planes.now c.requires.rising c.args.stored.now.rows.now c.args.stored.now.width (span_of _ _ _ c.in-Quadrant.is c.requires.span) k (omega arith) in omega arith

pub rise-requires-in-Quadrant-clause-fits : goal.rise-requires-in-Quadrant-clause-fits
rise-requires-in-Quadrant-clause-fits c = λ k h. let m = most_q c.args.stored.now.planes.now c.requires.rising c.args.stored.now.rows.now c.args.stored.now.width (span_of _ _ _ c.in-Quadrant.is c.requires.span) k h in omega arith

pub fall-requires-in-Quadrant-clause-fits : goal.fall-requires-in-Quadrant-clause-fits
fall-requires-in-Quadrant-clause-fits c = λ k h. let m = most_q c.args.stored.now.planes.now c.requires.rising c.args.stored.now.rows.now c.args.stored.now.width (span_of _ _ _ c.in-Quadrant.is c.requires.span) k (omega arith) in omega arith

pub rise-requires-in-Plane0-clause-fits : goal.rise-requires-in-Plane0-clause-fits
rise-requires-in-Plane0-clause-fits c = λ k h. let m = most0 c.args.stored.now.planes.now c.requires.rising c.args.stored.now.rows.now c.args.stored.now.width (span_of _ _ _ c.in-Plane0.is c.requires.span) k h in omega arith

pub fall-requires-in-Plane0-clause-fits : goal.fall-requires-in-Plane0-clause-fits
fall-requires-in-Plane0-clause-fits c = λ k h. let m = most0 c.args.stored.now.planes.now c.requires.rising c.args.stored.now.rows.now c.args.stored.now.width (span_of _ _ _ c.in-Plane0.is c.requires.span) k (omega arith) in omega arith

pub fall-requires-in-Plane90-clause-fits : goal.fall-requires-in-Plane90-clause-fits
fall-requires-in-Plane90-clause-fits c =
    to_half c.args.stored.now.planes.now c.requires.rising c.args.stored.now.rows.now c.args.stored.now.width (span_of _ _ _ c.in-Plane90.is c.requires.span) c.place_of_half-half.result c.place_of_half-half.ensures.inside c.place_of_half-half.ensures.half

pub rise-requires-in-Plane90-clause-fits : goal.rise-requires-in-Plane90-clause-fits
rise-requires-in-Plane90-clause-fits c = λ k h. let m = most_h c.args.stored.now.planes.now c.requires.rising c.args.stored.now.rows.now c.args.stored.now.width (span_of _ _ _ c.in-Plane90.is c.requires.span) k h in omega arith

pub fall-requires-in-Plane90-2-clause-fits : goal.fall-requires-in-Plane90-2-clause-fits
fall-requires-in-Plane90-2-clause-fits c = λ k h. let m = most_h c.args.stored.now.planes.now c.requires.rising c.args.stored.now.rows.now c.args.stored.now.width (span_of _ _ _ c.in-Plane90.is c.requires.span) k (omega arith) in omega arith

pub rise-requires-in-Full-clause-fits : goal.rise-requires-in-Full-clause-fits
rise-requires-in-Full-clause-fits c = λ k h. let m = most_f c.args.stored.now.planes.now c.requires.rising c.args.stored.now.rows.now c.args.stored.now.width c.requires.some (span_of _ _ _ c.in-Full.is c.requires.span) k h in omega arith

pub returns-then-stored-count-eq-FULL_TURN-clause-all : goal.returns-then-stored-count-eq-FULL_TURN-clause-all
returns-then-stored-count-eq-FULL_TURN-clause-all c =
    let stored = c.args.stored.now in
    grown_of _ _ _ _ _ _ _ _ _ c.in-Full.is
    (full_risen stored.planes.now c.requires.rising stored.rows.now stored.width c.requires.some (span_of _ _ _ c.in-Full.is c.requires.span) 360001 _ _ _ _ (omega (arith, c.if-stored-count-eq-FULL_TURN.true)) c.in_ok-rise-in-Full.ensures.planes c.in_ok-rise-in-Full.ensures.values)
    c.requires.start

pub returns-in_ok-append-in-Axis-2-clause-all : goal.returns-in_ok-append-in-Axis-2-clause-all
returns-in_ok-append-in-Axis-2-clause-all c =
    let stored = c.args.stored.now in
    grown_of _ _ _ _ _ _ _ _ _ c.in-Axis.is
    (axis_grown stored.planes.now c.requires.rising stored.rows.now stored.width (span_of _ _ _ c.in-Axis.is c.requires.span) _ _ _ _ _ _
    c.in_ok-append-in-Axis.ensures.planes c.in_ok-append-in-Axis.ensures.values c.in_ok-append-in-Axis-2.ensures.planes c.in_ok-append-in-Axis-2.ensures.values)
    c.requires.start

pub returns-in_ok-fall-in-Quadrant-2-clause-all : goal.returns-in_ok-fall-in-Quadrant-2-clause-all
returns-in_ok-fall-in-Quadrant-2-clause-all c =
    let stored = c.args.stored.now in
    grown_of _ _ _ _ _ _ _ _ _ c.in-Quadrant.is
    (quadrant_grown stored.planes.now c.requires.rising stored.rows.now stored.width (span_of _ _ _ c.in-Quadrant.is c.requires.span) _ _ _ _ _ _ _ _ _ _
    c.in_ok-rise-in-Quadrant.ensures.planes c.in_ok-rise-in-Quadrant.ensures.values c.in_ok-fall-in-Quadrant.ensures.planes c.in_ok-fall-in-Quadrant.ensures.values
    c.in_ok-rise-in-Quadrant-2.ensures.planes c.in_ok-rise-in-Quadrant-2.ensures.values c.in_ok-fall-in-Quadrant-2.ensures.planes c.in_ok-fall-in-Quadrant-2.ensures.values)
    c.requires.start

pub returns-in_ok-fall-in-Plane0-clause-all : goal.returns-in_ok-fall-in-Plane0-clause-all
returns-in_ok-fall-in-Plane0-clause-all c =
    let stored = c.args.stored.now in
    grown_of _ _ _ _ _ _ _ _ _ c.in-Plane0.is
    (plane0_grown stored.planes.now c.requires.rising stored.rows.now stored.width (span_of _ _ _ c.in-Plane0.is c.requires.span) _ _ _ _ _ _
    c.in_ok-rise-in-Plane0.ensures.planes c.in_ok-rise-in-Plane0.ensures.values c.in_ok-fall-in-Plane0.ensures.planes c.in_ok-fall-in-Plane0.ensures.values)
    c.requires.start

pub returns-in_ok-append-in-Plane90-clause-all : goal.returns-in_ok-append-in-Plane90-clause-all
returns-in_ok-append-in-Plane90-clause-all c =
    let stored = c.args.stored.now in
    grown_of _ _ _ _ _ _ _ _ _ c.in-Plane90.is
    (plane90_grown stored.planes.now c.requires.rising stored.rows.now stored.width (span_of _ _ _ c.in-Plane90.is c.requires.span) c.place_of_half-half.result c.place_of_half-half.ensures.inside c.place_of_half-half.ensures.half _ _ _ _ _ _ _ _ _ _
    c.in_ok-fall-in-Plane90.ensures.planes c.in_ok-fall-in-Plane90.ensures.values c.in_ok-rise-in-Plane90.ensures.planes c.in_ok-rise-in-Plane90.ensures.values
    c.in_ok-fall-in-Plane90-2.ensures.planes c.in_ok-fall-in-Plane90-2.ensures.values c.in_ok-append-in-Plane90.ensures.planes c.in_ok-append-in-Plane90.ensures.values)
    c.requires.start

pub returns-in_ok-append-in-Full-clause-all : goal.returns-in_ok-append-in-Full-clause-all
returns-in_ok-append-in-Full-clause-all c =
    let stored = c.args.stored.now in
    let span = span_of _ _ _ c.in-Full.is c.requires.span in
    let some = c.requires.some in
    let most = most_f stored.planes.now c.requires.rising stored.rows.now stored.width some span (length stored.planes.now - 1) (omega arith) in
    grown_of _ _ _ _ _ _ _ _ _ c.in-Full.is
    (full_closed stored.planes.now c.requires.rising stored.rows.now stored.width some span (omega (arith, c.if-stored-count-eq-FULL_TURN.false)) _ _ _ _ _ _
    c.in_ok-rise-in-Full.ensures.planes c.in_ok-rise-in-Full.ensures.values c.in_ok-append-in-Full.ensures.planes c.in_ok-append-in-Full.ensures.values)
    c.requires.start
