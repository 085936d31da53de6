-- The certificate that is issued for a request.
use Rattle.std.specs.Prelude.{ℕ, List, Result}
use Rattle.std.proofs.Common.{ap}
use Rattle.rcgen_sign.specs.DigestKeys.{accepts_digest}
use Rattle.rcgen_certificate.specs.Issue.{IssuesAs, first_cause}
use Rattle.rcgen_certificate.specs.ParamsView.{ParamsView, params_view}
use Rattle.rcgen_certificate.specs.declared.params.CertificateParams.{CertificateParams}
use Rattle.rcgen_read.specs.RequestReading.{AreParamsOf, ReadRequest, read_request}
use Rattle.rcgen_text.specs.Causes.{Cause}
use Rattle.certify_core.specs.Issuing.{IsSignatureOf, IsTextOf, one_certificate_text, issuer_of_profile}
use Rattle.certify_core.specs.CommandSpec.{CommandSpec, named, of_der}
use Rattle.certify_core.specs.laws.ReadViews.{same_read_view}
use Rattle.certify_profile.specs.Accept.{accept}
use Rattle.toml_format.specs.Document.{document_of}
use Rattle.certify_profile.specs.declared.accept.AcceptProfile.{AcceptProfile}
use Rattle.certify_profile.specs.declared.issuer.IssuerTable.{IssuerTable}
use Rattle.toml_format.specs.declared.reason.Reason.{Reason}

-- the profile that the bytes are, or the least reason why they are none
abbrev pub accept_profile_of : List ℕ → Result AcceptProfile Reason
accept_profile_of = document_of accept.read

-- what the request says, or its first fault; the requester's secret checks its signature, whatever algorithm it names
abbrev pub request_of : AcceptProfile → Result ReadRequest Cause
request_of p = read_request (λ info key algorithm signature. accepts_digest p.requester info key signature) p.request

-- what the issuer issues for what a request says
abbrev pub issuing_for : IssuerTable → ReadRequest → CommandSpec
issuing_for issuer read = record {
  Params = CertificateParams;
  Says = AreParamsOf read.name read.asked;
  HasReason = λ reason. ⊥;
  IsText = λ params. IsTextOf (IssuesAs (params_view params) read.key (issuer_of_profile issuer) (IsSignatureOf issuer.secret));
  first_cause = λ params. named (first_cause (params_view params) (issuer_of_profile issuer).name);
  one_cause = λ params other says said.
      ap (λ (x : ParamsView). named (first_cause x (issuer_of_profile issuer).name)) (same_read_view params other read.name read.asked says said);
  one_text = λ params other says said.
      one_certificate_text (params_view params) (params_view other) read.key (issuer_of_profile issuer) issuer.secret
      (same_read_view params other read.name read.asked says said);
  one_reason = λ reason other h k. absurd h;
  is_taken = λ params says reason h. h;
}

abbrev pub accepting : AcceptProfile → CommandSpec
accepting p = of_der (issuing_for p.issuer) (request_of p)
