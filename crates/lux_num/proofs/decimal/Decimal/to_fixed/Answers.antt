use Rattle.std.proofs.Common.{◌≡◌, rules}
use Rattle.lux_num.specs.Scaled.{fixed_value}
use Rattle.lux_num.proofs.Scaling.{fixed_some, fixed_none}
use Rattle.lux_num.proofs.decimal.Decimal.to_fixed.Goals as goal

pub returns-clause-cut : goal.returns-clause-cut
returns-clause-cut c = let is : c.scaled_value.result ≡ fixed_value c.args.self.now c.args.places = search rules in fixed_some c.args.self.now c.args.places c.scaled_value.result is

pub returns-clause-past : goal.returns-clause-past
returns-clause-past c = let is : c.scaled_value.result ≡ fixed_value c.args.self.now c.args.places = search rules in fixed_none c.args.self.now c.args.places c.scaled_value.result is
