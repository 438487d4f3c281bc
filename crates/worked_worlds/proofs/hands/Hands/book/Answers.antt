use Rattle.std.proofs.Common.{◌≡◌, ◌<◌, ℕ, get_or, sym, subst, arith, rules}
use Rattle.flux_system.specs.System.{patches}
use Rattle.shot_core.specs.Hands.{Holdings}
use Rattle.shot_core.specs.Shots.{amounts_after}
use Rattle.worked_worlds.proofs.Fitting.{take_fits}
use Rattle.worked_worlds.proofs.hands.Hands.book.Goals as goal

pub book-requires-clause-fits : goal.book-requires-clause-fits
book-requires-clause-fits g c = take_fits c.args.system.now c.args.patch c.args.t c.args.self.now.plain.amounts c.args.self.now.plain.fractions c.len.ensures.system (omega arith) (omega arith) (search rules) (search rules)

pub book-requires-2-clause-fits : goal.book-requires-2-clause-fits
book-requires-2-clause-fits g c =
    let alike : c.args.self.now.batched ≡ c.args.self.now.plain = search rules in
    subst (λ (h : Holdings). (j : ℕ) → j < patches c.args.system.now → get_or (amounts_after c.args.system.now c.args.patch c.args.t h.amounts h.fractions) j 0 < 18446744073709551616) (sym alike)
    (take_fits c.args.system.now c.args.patch c.args.t c.args.self.now.plain.amounts c.args.self.now.plain.fractions c.len.ensures.system (omega arith) (omega arith) (search rules) (search rules))
