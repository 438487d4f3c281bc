use Rattle.std.proofs.Common.{◌≡◌, take}
use Rattle.shot_core.specs.World.{after_all, number_moved}
use Rattle.shot_core.proofs.worlds.World.run.Given as goal

-- the events up to here led to this world
abbrev pub invariant-loop-event : goal.invariant-loop-event
invariant-loop-event l = record {
  world : l.self ≡ after_all l.fn.self (take l.event-index l.fn.events);
  moved : l.moved ≡ number_moved l.fn.self (take l.event-index l.fn.events);
}
