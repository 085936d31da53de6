use Rattle.rcgen_text.specs.Causes.{origin_of}
use Rattle.rcgen_certificate.specs.Issuers.{key_of}
use Rattle.rcgen_certificate.proofs.Issuing.{explained, passed}
use Rattle.attr_issue.specs.AttributeCertificateView.{attribute_certificate_view}
use Rattle.attr_issue.proofs.Issuing.{issues_as}
use Rattle.attr_issue.proofs.attribute_certificate.issue_attributes.Goals as goal

pub returns-in_err-signed-clause-why : goal.returns-in_err-signed-clause-why
returns-in_err-signed-clause-why g c =
    passed c.from_residual-in_err-signed.result c.in_err-signed.field-0.0 _ c.from_residual-in_err-signed.ensures.1
    (explained _ _ _ (origin_of c.in_err-signed.field-0.0) c.in_ok-info.ensures.ok
    (λ m. (c.in_ok-info.info, c.in_ok-info.ensures.value, m)) (rw c.key.ensures at c.in_err-signed.ensures.why))

pub returns-clause-issued : goal.returns-clause-issued
returns-clause-issued g c =
    let algorithm = rw c.key.ensures at c.in_ok-signed.ensures.algorithm in
    let written = rw c.key.ensures at c.in_ok-signed.ensures.signed in
    rw c.new.ensures (issues_as (attribute_certificate_view c.args.params.now) _ (g.S.SigningKey.fits (key_of c.args.issuer.now)) _ c.in_ok-signed.signed.der.items
    c.in_ok-info.ensures.value algorithm c.in_ok-signed.ensures.signature written)
