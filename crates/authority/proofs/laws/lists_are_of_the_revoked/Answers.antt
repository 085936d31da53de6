use Rattle.std.proofs.Common.{subst}
use Rattle.authority.specs.Book.{fixed, Run}
use Rattle.authority.proofs.Runs.{lists_revoked}
use Rattle.authority.proofs.laws.lists_are_of_the_revoked.Goals as goal

pub returns : goal.returns
returns g c = λ key issuer limits short old new commands replies book run before after number der same.
    let f = fixed issuer (g.S.SigningKey.fits key) (g.S.SigningKey.may_refuse key) limits in
    lists_revoked f old new commands before after number der short book (subst (λ rs. Run f old commands rs new) same run)
