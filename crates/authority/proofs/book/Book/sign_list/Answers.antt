use Rattle.std.proofs.Common.{IfErr, subst}
use Rattle.asn1_core.specs.Moment.{instant}
use Rattle.rcgen_text.specs.Causes.{origin_of}
use Rattle.rcgen_certificate.specs.Issuers.{key_of, view_of}
use Rattle.authority.specs.Asks.{asked_crl}
use Rattle.authority.specs.Book.{OrMemory, RefusesToList, State}
use Rattle.authority.proofs.book.Book.sign_list.Goals as goal

pub returns-clause-why : goal.returns-clause-why
returns-clause-why g c =
    subst (λ (s : State). IfErr c.sign_list.result (λ e. OrMemory (RefusesToList (view_of g.S.PublicKeyData.key c.args.issuer.now)
    (g.S.SigningKey.may_refuse (key_of c.args.issuer.now))
    (asked_crl c.args.number (instant c.args.this_update) (instant c.args.next_update) s.entries)) (origin_of e)))
    c.self.view_is c.sign_list.ensures.why
