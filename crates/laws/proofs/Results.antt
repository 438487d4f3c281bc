-- Results that a `?` hands on.
use Rattle.std.proofs.Common.{◌≡◌, Result}
use Rattle.std.specs.Prelude.{IfErr, IsErrAnd}
use Rattle.std.proofs.lemmas.Result.{err_from_is_err_and}

-- what a `?` hands on has the fact of its error
pub err_is : {V F : Type 0} (r : Result V F) (fault : F) (P : F → Type 0) → IsErrAnd r (λ y. y ≡ fault) → P fault → IfErr r P
err_is r fault P is h = let p = err_from_is_err_and r is in rw (p.1, p.2) h
