use Rattle.std.proofs.Common.{◌≡◌, ◌≤◌, length, map, arith, rules, ◌∙◌, sym}
use Rattle.std.proofs.lemmas.List.{same_lists, length-map}
use Rattle.crew.proofs.members.copy_reports.Goals as goal

pub returns : goal.returns
returns g c =
    let told = map (λ m. m.report) c.args.members.now in
    let same : length c.loop-k.reports ≡ length told = c.loop-k.invariant.lengths ∙ c.requires ∙ sym (length-map c.args.members.now (λ m. m.report)) in
    let long : length c.loop-k.reports ≡ length c.args.members.now = c.loop-k.invariant.lengths ∙ c.requires in
    same_lists c.loop-k.reports told same (λ k d inside. c.loop-k.invariant.reports k d (let end : length c.args.members.now ≤ c.loop-k.k = search rules in omega arith))
