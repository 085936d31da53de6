-- Points and parameters of lists that say the same are equal, as derives write it.
use Rattle.std.specs.Prelude.{◌≡◌, ℕ, List, true, Option, refl}
use Rattle.std.specs.Cmp.Lexicographic.{options_equiv}
use Rattle.std.proofs.Common.{ap}
use Rattle.std.proofs.lemmas.Cmp.{int_eq_equiv, nat_list_eq_equiv, on_equiv}
use Rattle.asn1_core.specs.Moment.{instant}
use Rattle.rcgen_text.proofs.Equality.{same_is_equal}
use Rattle.rcgen_sign.specs.KeyIds.{method_of}
use Rattle.rcgen_sign.specs.contracts.key_id.KeyIdMethodPartialEq.TheImpl.{ghosts as methods}
use Rattle.rcgen_sign.proofs.Methods.{methods_equal}
use Rattle.rcgen_certificate.proofs.Points.{points_equal}
use Rattle.rcgen_certificate.proofs.Views.{list_is_equal, option_is_equal, options_equal}
use Rattle.rcgen_issue.specs.CrlView.{CrlView, point_of}
use Rattle.rcgen_issue.specs.Lists.{SaysSameCrl}
use Rattle.rcgen_issue.specs.contracts.crl.CertificateRevocationListParamsPartialEq.TheImpl.{ghosts as lists}
use Rattle.rcgen_issue.specs.contracts.crl.CrlIssuingDistributionPointPartialEq.TheImpl.{ghosts as points}
use Rattle.rcgen_text.specs.contracts.crl_scope.CrlScopePartialEq.TheImpl.{ghosts as scopes}
use Rattle.rcgen_text.specs.contracts.revocation_reason.RevocationReasonPartialEq.TheImpl.{ghosts as reasons}
use Rattle.rcgen_issue.specs.contracts.crl.RevokedCertParamsPartialEq.TheImpl.{ghosts as entries}
use Rattle.rcgen_issue.specs.declared.crl.CertificateRevocationListParams.{CertificateRevocationListParams}
use Rattle.rcgen_issue.specs.declared.crl.CrlIssuingDistributionPoint.{CrlIssuingDistributionPoint}
use Rattle.rcgen_text.specs.declared.crl_scope.CrlScope.{CrlScope}
use Rattle.rcgen_text.specs.declared.crl_scope.CrlScope.TheVariants.{UserCertsOnly, CaCertsOnly}
use Rattle.rcgen_text.specs.declared.revocation_reason.RevocationReason.{RevocationReason}
use Rattle.rcgen_text.specs.declared.revocation_reason.RevocationReason.TheVariants.{Unspecified}
use Rattle.rcgen_issue.specs.declared.crl.RevokedCertParams.{RevokedCertParams}

scope_itself : (s : CrlScope) → scopes.eq s s ≡ true
scope_itself UserCertsOnly = refl
scope_itself CaCertsOnly = refl

reason_itself : (r : RevocationReason) → reasons.eq r r ≡ true
reason_itself Unspecified = refl
reason_itself _ = refl

entry_itself : (e : RevokedCertParams) → entries.eq e e ≡ true
entry_itself e =
    rw (
      nat_list_eq_equiv.refl e.serial_number,
      (on_equiv instant int_eq_equiv).refl e.revocation_time,
      option_is_equal reasons.eq reason_itself e.reason_code e.reason_code refl,
      (options_equiv (on_equiv instant int_eq_equiv)).refl e.invalidity_date,
    ) refl

pub issuing_equal : (p q : CrlIssuingDistributionPoint) → point_of p ≡ point_of q → points.eq p q ≡ true
issuing_equal p q e =
    let uris = points_equal p.distribution_point q.distribution_point (ap (λ (x : List (List ℕ) × Option CrlScope). x.0) e) in
    let scope = option_is_equal scopes.eq scope_itself p.scope q.scope (ap (λ (x : List (List ℕ) × Option CrlScope). x.1) e) in
    rw (uris, scope) refl

pub params_equal : (p q : CertificateRevocationListParams) → SaysSameCrl p q → lists.eq q p ≡ true
params_equal p q s =
    rw (
      same_is_equal (on_equiv instant int_eq_equiv) q.this_update p.this_update s.this_update,
      same_is_equal (on_equiv instant int_eq_equiv) q.next_update p.next_update s.next_update,
      same_is_equal nat_list_eq_equiv q.crl_number p.crl_number (ap (λ (v : CrlView). v.crl_number) s.view),
      options_equal point_of points.eq issuing_equal q.issuing_distribution_point p.issuing_distribution_point
          (ap (λ (v : CrlView). v.issuing_distribution_point) s.view),
      list_is_equal entries.eq entry_itself q.revoked_certs.items p.revoked_certs.items s.revoked_certs,
      options_equal method_of methods.eq methods_equal q.key_identifier_method p.key_identifier_method
          (ap (λ (v : CrlView). v.key_identifier_method) s.view),
    ) refl
