use Rattle.std.proofs.Common.{◌≡◌, ℕ, List, [], ◌∷◌, length, sym, ap, subst, ◌∙◌, arith}
use Rattle.flux_system.specs.System.{FluxSystem}
use Rattle.shot_core.specs.declared.views.View.{View}
use Rattle.shot_core.specs.AccountViews.{desk_view}
use Rattle.shot_core.specs.Layouts.{IsWorld}
use Rattle.shot_core.proofs.Opening.{opening_is_world}
use Rattle.shot_core.proofs.worlds.World.start.Goals as goal

pub invariant_of-result : goal.invariant_of-result
invariant_of-result c =
    let s : FluxSystem = c.args.system.now in
    let direct : List ℕ = c.args.direct.now in
    let words : c.from_vec-words.result ≡ direct = c.from_vec-words.ensures ∙ c.in_ok-from_slice.ensures.items in
    let n = sym c.len-n.ensures.value in
    let turns = c.loop.invariant.long in
    let end = c.loop-test.false in
    let seats = c.requires.seats in
    subst (λ (x : FluxSystem × (List ℕ × List ℕ)). IsWorld x.0 x.1.0 x.1.1 c.in_ok-desk.desk 0 c.loop.actors.items) (λ i. (sym c.of.ensures i, (sym (c.of-2.ensures ∙ words) i, sym words i)))
    (opening_is_world s direct c.len-n.ensures.system c.requires.lengths c.requires.flux c.in_ok-desk.desk c.loop.actors.items (c.in_ok-desk.ensures s direct n) (omega arith) (λ k d inside. c.loop.invariant.new k d s direct n inside))

pub returns : goal.returns
returns c =
    let s : FluxSystem = c.args.system.now in
    let direct : List ℕ = c.args.direct.now in
    let words : c.from_vec-words.result ≡ direct = c.from_vec-words.ensures ∙ c.in_ok-from_slice.ensures.items in
    let turns = c.loop.invariant.long in
    let end = c.loop-test.false in
    let seats : length c.loop.actors.items ≡ c.args.seats = omega arith in
    (λ i. record { system = c.of.ensures i; direct = (c.of-2.ensures ∙ words) i; seats = seats i; words = words i; views = desk_view (c.of.ensures i) ((c.of-2.ensures ∙ words) i) c.in_ok-desk.desk ∷ [] })
    ∙ ap (λ (v : View). record { system = s; direct = direct; seats = c.args.seats; words = direct; views = v ∷ [] }) (c.in_ok-desk.ensures s direct (sym c.len-n.ensures.value))
