use Rattle.std.proofs.Common.{subst}
use Rattle.authority.specs.Authorities.{fixed_of, state_of}
use Rattle.authority.specs.Book.{Run}
use Rattle.authority.proofs.Runs.{joined, same_fixed}
use Rattle.authority.proofs.laws.runs_go_on.Goals as goal

pub returns : goal.returns
returns g c = λ stopped resumed old new first second told then view own limits state before after.
    let key = g.S.PublicKeyData.key in
    let fits = g.S.SigningKey.fits in
    let may_refuse = g.S.SigningKey.may_refuse in
    let same = same_fixed key fits may_refuse resumed stopped view own limits in
    joined (fixed_of key fits may_refuse stopped) old (state_of stopped) new first second told then before
    (subst (λ s. Run (fixed_of key fits may_refuse stopped) s second then new) state
    (subst (λ f. Run f (state_of resumed) second then new) same after))
