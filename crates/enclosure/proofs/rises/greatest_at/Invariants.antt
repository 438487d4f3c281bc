use Rattle.enclosure.proofs.Greatest.{IsGreatestSoFar}
use Rattle.enclosure.proofs.rises.greatest_at.Given as goal

-- the greatest from the entries so far
abbrev pub invariant-loop-entry : goal.invariant-loop-entry
invariant-loop-entry l = IsGreatestSoFar l.system l.j l.column l.entry-index l.greatest
