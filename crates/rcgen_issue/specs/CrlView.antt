-- What parameters of a list of revoked certificates say, as values: two that say the same have one view.
use Rattle.std.specs.Prelude.{ℕ, ℤ, List, Option, map}
use Rattle.std.specs.Option.{option_map}
use Rattle.asn1_core.specs.Moment.{instant}
use Rattle.rcgen_text.specs.declared.crl_scope.CrlScope.{CrlScope}
use Rattle.rcgen_text.specs.declared.revocation_reason.RevocationReason.{RevocationReason}
use Rattle.rcgen_sign.specs.KeyIds.{Method, method_of}
use Rattle.rcgen_certificate.specs.DistributionPoints.{uris_of}
use Rattle.rcgen_issue.specs.declared.crl.CertificateRevocationListParams.{CertificateRevocationListParams}
use Rattle.rcgen_issue.specs.declared.crl.CrlIssuingDistributionPoint.{CrlIssuingDistributionPoint}
use Rattle.rcgen_issue.specs.declared.crl.RevokedCertParams.{RevokedCertParams}

-- times are instants, whatever their clocks show
pub record RevokedView : Type 0 where
  pub serial_number : List ℕ
  pub revocation_time : ℤ
  pub reason_code : Option RevocationReason
  pub invalidity_date : Option ℤ

abbrev pub revoked_view : RevokedCertParams → RevokedView
revoked_view entry = record {
  serial_number = entry.serial_number;
  revocation_time = instant entry.revocation_time;
  reason_code = entry.reason_code;
  invalidity_date = option_map instant entry.invalidity_date;
}

pub record CrlView : Type 0 where
  pub this_update : ℤ
  pub next_update : ℤ
  pub crl_number : List ℕ
  -- the URIs of the point, and its scope
  pub issuing_distribution_point : Option (List (List ℕ) × Option CrlScope)
  pub revoked_certs : List RevokedView
  pub key_identifier_method : Option Method

-- what an issuing point says
abbrev pub point_of : CrlIssuingDistributionPoint → List (List ℕ) × Option CrlScope
point_of p = (uris_of p.distribution_point, p.scope)

abbrev pub crl_view : CertificateRevocationListParams → CrlView
crl_view params = record {
  this_update = instant params.this_update;
  next_update = instant params.next_update;
  crl_number = params.crl_number;
  issuing_distribution_point = option_map point_of params.issuing_distribution_point;
  revoked_certs = map revoked_view params.revoked_certs.items;
  key_identifier_method = option_map method_of params.key_identifier_method;
}
