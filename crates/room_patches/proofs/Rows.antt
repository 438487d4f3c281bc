-- The patches of a room, one more at a time.
use Rattle.laws.proofs.Ranges.{values-more, lists-more}

-- the steps of a list that grows
pub ruleset steps = (values-more, lists-more)
