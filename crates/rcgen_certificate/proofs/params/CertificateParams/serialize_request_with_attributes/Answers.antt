use Rattle.rcgen_certificate.specs.ParamsView.{params_view}
use Rattle.rcgen_certificate.proofs.Requests.{requests}
use Rattle.rcgen_certificate.proofs.params.CertificateParams.serialize_request_with_attributes.Goals as goal

pub returns-clause-requested : goal.returns-clause-requested
returns-clause-requested g c =
    rw c.new.ensures (requests (params_view c.args.self.now) _ c.args.attrs.items (g.S.SigningKey.fits c.args.subject_key.now) c.in_ok-info.info
    c.in_ok-der.der.items (rw c.deref.ensures.value at c.in_ok-info.ensures.value) c.in_ok-der.ensures.signed)
