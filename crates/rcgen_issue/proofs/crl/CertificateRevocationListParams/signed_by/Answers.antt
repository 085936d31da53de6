use Rattle.rcgen_text.specs.Causes.{origin_of}
use Rattle.rcgen_certificate.specs.Issuers.{key_of}
use Rattle.rcgen_certificate.proofs.Issuing.{passed, explained}
use Rattle.rcgen_issue.specs.CrlView.{crl_view}
use Rattle.rcgen_issue.proofs.Lists.{lists}
use Rattle.rcgen_issue.proofs.crl.CertificateRevocationListParams.signed_by.Goals as goal

pub returns-in_err-der-clause-why : goal.returns-in_err-der-clause-why
returns-in_err-der-clause-why g c =
    passed c.from_residual-in_err-der.result c.in_err-der.field-0.0 _ c.from_residual-in_err-der.ensures.1
    (explained _ _ _ (origin_of c.in_err-der.field-0.0) c.in_ok-tbs_cert_list.ensures.ok
    (λ m. (c.in_ok-tbs_cert_list.tbs_cert_list, c.in_ok-tbs_cert_list.ensures.value, m)) (rw c.key.ensures at c.in_err-der.ensures.why))

pub returns-clause-issued : goal.returns-clause-issued
returns-clause-issued g c =
    rw c.new.ensures (lists (crl_view c.args.self.now) _ (g.S.SigningKey.fits (key_of c.args.issuer.now)) c.in_ok-tbs_cert_list.tbs_cert_list
    c.in_ok-der.der.items c.in_ok-tbs_cert_list.ensures.value (rw c.key.ensures at c.in_ok-der.ensures.signed))
