use Rattle.std.proofs.Common.{◌≡◌, ℕ, ◌+◌, ◌*◌, ◌≤◌, ◌^◌, ◌++◌, ◌∷◌, [], ℤ, List, map, sym, ap, ◌∙◌}
use Rattle.std.specs.List.{range_with_len}
use Rattle.std.proofs.lemmas.List.{map_push}
use Rattle.std.proofs.lemmas.List.Elements.{All-same, All-push}
use Rattle.laws.proofs.Ranges.{map-more}
use Rattle.grids.specs.declared.spec.GridSpec.{GridSpec}
use Rattle.grids.specs.Grids.{point_at}
use Rattle.grids.specs.GridPoint.{direct_at}
use Rattle.grids.proofs.direct.direct_points.Goals as goal

-- the light at one point more
grown : (light : List ℤ → ℕ) (grid : GridSpec) (n next : ℕ) (before after : List ℕ) → after ≡ before ++ next ∷ [] → before ≡ map light (map (point_at grid) (range_with_len 0 n)) → next ≡ light (point_at grid n)
    → after ≡ map light (map (point_at grid) (range_with_len 0 (n + 1)))
grown light grid n next before after more so_far here =
    more
    ∙ ((λ k. so_far k ++ here k ∷ [])
    ∙ sym (ap (map light) (map-more (point_at grid) n) ∙ map_push light (map (point_at grid) (range_with_len 0 n)) (point_at grid n)))

pub loop-g-preserved : goal.loop-g-preserved
loop-g-preserved c =
    let light : List ℤ → ℕ = direct_at c.args.webs.now c.args.fixtures.now in
    let more = c.in_ok-push.ensures.items in
    record {
      found = grown light c.args.grid.now c.loop-g.g c.direct_at.result _ _ more c.loop-g.invariant.found (c.direct_at.ensures.value ∙ ap light c.point.ensures.value);
      limited = All-same (λ amount. amount ≤ 2 * 10 ^ 27) _ _ more (All-push (λ amount. amount ≤ 2 * 10 ^ 27) _ _ c.loop-g.invariant.limited c.direct_at.ensures.limited);
    }
