use Rattle.std.proofs.Common.{◌≡◌, Option, Some, None, Bor, IfNone, IfSome, option_map, sym}
use Rattle.toml.proofs.Views.{table_get}
use Rattle.toml.specs.Data.{Data}
use Rattle.toml.specs.View.{view}
use Rattle.toml.specs.declared.value.Value.{Value}
use Rattle.project_file.proofs.sections.value_at.Goals as goal

none_of : (r : Option (Bor Value)) (found : Option Data) → option_map (λ v. view v.now) r ≡ found → IfNone r (found ≡ None)
none_of None found h = sym h
none_of (Some v) found h = tt

some_of : (r : Option (Bor Value)) (found : Option Data) → option_map (λ v. view v.now) r ≡ found → IfSome r (λ v. found ≡ Some (view v.now))
some_of None found h = tt
some_of (Some v) found h = sym h

pub returns-clause-none : goal.returns-clause-none
returns-clause-none c = none_of c.get.result _ (table_get c.get.result c.args.key.now c.args.table.now.entries c.get.ensures.value)

pub returns-clause-some : goal.returns-clause-some
returns-clause-some c = some_of c.get.result _ (table_get c.get.result c.args.key.now c.args.table.now.entries c.get.ensures.value)
