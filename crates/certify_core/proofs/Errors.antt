-- An error that is passed on.
use Rattle.std.proofs.Common.{◌≡◌, sym, subst, Result, Ok, Err, IsErrAnd}
use Rattle.std.specs.Prelude.{IfErr}

-- what is said of an error is said of it once it was passed on
pub passed : {T E : Type 0} (r : Result T E) (d : E) (P : E → Type 0) → IsErrAnd r (λ e. e ≡ d) → P d → IfErr r P
passed (Ok v) d P p x = absurd p
passed (Err e) d P p x = subst P (sym p) x
