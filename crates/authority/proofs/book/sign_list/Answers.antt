use Rattle.std.specs.Prelude.{map}
use Rattle.std.proofs.Common.{ap}
use Rattle.asn1_core.specs.Moment.{instant}
use Rattle.rcgen_certificate.specs.Issuers.{key_of, view_of}
use Rattle.rcgen_issue.specs.CrlView.{revoked_view}
use Rattle.authority.proofs.Steps.{crl_is_asked, listed, unlisted}
use Rattle.authority.proofs.book.sign_list.Goals as goal

pub returns-clause-ok : goal.returns-clause-ok
returns-clause-ok g c =
    let asked = crl_is_asked c.args.number c.in_ok-crl_number.crl_number (instant c.args.this_update) (instant c.args.next_update) _ _
    c.in_ok-crl_number.ensures.value (ap (λ v. map revoked_view v.items) c.replace.ensures.value) in
    listed (view_of g.S.PublicKeyData.key c.args.issuer.now) (g.S.SigningKey.fits (key_of c.args.issuer.now)) _ _ c.signed_by-list.result asked
    c.signed_by-list.ensures.issued c.signed_by-list.ensures.ok

pub returns-clause-why : goal.returns-clause-why
returns-clause-why g c =
    let asked = crl_is_asked c.args.number c.in_ok-crl_number.crl_number (instant c.args.this_update) (instant c.args.next_update) _ _
    c.in_ok-crl_number.ensures.value (ap (λ v. map revoked_view v.items) c.replace.ensures.value) in
    unlisted (view_of g.S.PublicKeyData.key c.args.issuer.now) (g.S.SigningKey.may_refuse (key_of c.args.issuer.now)) _ _ c.signed_by-list.result asked
    c.signed_by-list.ensures.why
