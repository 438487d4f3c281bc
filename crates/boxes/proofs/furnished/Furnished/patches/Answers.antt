use Rattle.std.proofs.Common.{◌≡◌, length, sym, ap, ◌∙◌, arith}
use Rattle.std.proofs.lemmas.Bool.{eqb-true}
use Rattle.boxes.specs.FurnishedRooms.{patches}
use Rattle.boxes.proofs.Counts.{unfurnished}
use Rattle.boxes.proofs.furnished.Furnished.patches.Goals as goal
use Rattle.boxes.proofs.furnished.Furnished.patches.Goals.{After-patches}

-- without a box, the room has all patches
are_all : (c : After-patches) → c.patches.result.now ≡ patches (record { room = c.self.inside.room; boxes = c.self.inside.boxes.items })
are_all c =
    let empty = eqb-true _ _ (sym c.is_empty.ensures ∙ c.if-is_empty.true) in
    let ok = c.self.inside.boxes.ok in
    c.patches.ensures.value ∙ unfurnished c.self.inside.room c.self.inside.boxes.items (omega arith)

pub returns-then-is_empty-clause-value : goal.returns-then-is_empty-clause-value
returns-then-is_empty-clause-value c = are_all c ∙ ap patches c.self.view_is

pub returns-then-is_empty-clause-some : goal.returns-then-is_empty-clause-some
returns-then-is_empty-clause-some c = let some = c.self.invariant.some in let long = ap length (are_all c) in omega arith

pub returns-then-is_empty-clause-few : goal.returns-then-is_empty-clause-few
returns-then-is_empty-clause-few c = let few = c.self.invariant.few in let long = ap length (are_all c) in omega arith
