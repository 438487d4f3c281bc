use Rattle.std.proofs.Common.{◌≡◌, ◌∙◌, ap, inl, refl}
use Rattle.flux_ledger.specs.Balance.{IsBalanced, IsFinished, IsPaid}
use Rattle.lit_room.specs.LitRooms.{system_of, flux_of}
use Rattle.run_words.specs.ShooterCounts.{default_shooters}
use Rattle.lux_top.specs.GenerateCommand.{summary_writing, IsDefaultLedger}
use Rattle.lux_top.proofs.Limited.{few_nanolumens}
use Rattle.lux_top.proofs.generate_command.summarize.Goals as goal

pub shoot-requires-clause-few : goal.shoot-requires-clause-few
shoot-requires-clause-few g c κs within = rw c.flux.ensures.value (few_nanolumens (system_of c.args.lit_room.now) (flux_of c.args.lit_room.now) c.flux.ensures.limited)

pub returns : goal.returns
returns g c = λ shelf.
    let found = c.in-Ok.ensures in
    let ledger : IsDefaultLedger c.args.lit_room.now c.in-Ok.ledger = record {
      accounts = rw c.default-shooters.ensures at found.parts;
      finished = rw c.system.ensures at found.finished;
      balanced = rw c.system.ensures at found.balanced;
      paid = rw c.system.ensures at found.paid;
      same_flux = found.direct ∙ c.flux.ensures.value;
    } in
    inl (c.in-Ok.ledger, ledger, (rw c.in-Ok-summary_text.ensures refl, refl))
