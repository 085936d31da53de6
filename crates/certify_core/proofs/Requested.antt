-- What is requested for a profile.
use Rattle.std.proofs.Common.{◌≡◌, ℕ, List, [], None, ap, subst}
use Rattle.rcgen_sign.specs.DigestKeys.{digest_key}
use Rattle.rcgen_certificate.specs.Requests.{Requests, first_request_cause}
use Rattle.rcgen_certificate.specs.ParamsView.{params_view}
use Rattle.rcgen_certificate.specs.declared.params.CertificateParams.{CertificateParams}
use Rattle.certify_core.specs.Issuing.{IsSignatureOf}
use Rattle.certify_core.specs.Lines.{hex_line}
use Rattle.certify_core.specs.CommandSpec.{IsMade, named}
use Rattle.profile_params.specs.Certificates.{params_of_profile}
use Rattle.certify_core.specs.Requesting.{requesting}
use Rattle.certify_profile.specs.declared.certificate.CertificateProfile.{CertificateProfile}

-- the line of a request that the key of the profile's secret signs
pub requested : (p : CertificateProfile) (params : CertificateParams) (secret der text : List ℕ) → params_view params ≡ params_of_profile p.content → secret ≡ p.secret
    → Requests (params_view params) (digest_key secret) [] (IsSignatureOf secret) der → text ≡ hex_line der → first_request_cause (params_view params) [] ≡ None
    → IsMade (requesting p) text
requested p params secret der text says is_secret requests is_line none = record {
  params = params;
  says = says;
  written = (der, subst (λ (s : List ℕ). Requests (params_view params) (digest_key s) [] (IsSignatureOf s) der) is_secret requests, is_line);
  no_cause = ap named none;
}
