use Rattle.std.proofs.Common.{sym, subst}
use Rattle.photo_web.specs.Validity.{IsWeb}
use Rattle.photo_web.proofs.Tests.{valid_where_met}
use Rattle.photo_web.proofs.web.Web.new.Goals as goal

pub from_vecs-requires : goal.from_vecs-requires
from_vecs-requires c =
    subst IsWeb (λ k. record { planes = sym c.in_ok-planes.ensures.items k; gammas = sym c.in_ok-gammas.ensures.items k; values = sym c.in_ok-values.ensures.items k })
    (valid_where_met (record { planes = c.args.planes.now; gammas = c.args.gammas.now; values = c.args.values.now }) (sym c.in_default.ensures))
