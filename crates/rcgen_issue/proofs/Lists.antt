-- Lists of revoked certificates: what no cause says of the parameters, and what was issued.
use Rattle.std.specs.Prelude.{◌≡◌, ℕ, true, ◌&&◌, not, int_le, List, [], ◌∷◌, length, map, None, is_some, string_bytes, refl}
use Rattle.std.specs.List.{AllZip, list_all}
use Rattle.std.specs.Option.{option_map}
use Rattle.std.proofs.Common.{arith, rules}
use Rattle.std.proofs.lemmas.Bool.{le-leb}
use Rattle.std.proofs.lemmas.List.{length-map}
use Rattle.std.proofs.lemmas.List.Folds.{list_all-map}
use Rattle.asn1_core.specs.Binds.{and_true}
use Rattle.asn1_core.specs.Bits.{bits}
use Rattle.der_tree.specs.Default.{if_not_empty}
use Rattle.der_tree.specs.Form.{IsDerOf}
use Rattle.der_tree.specs.Grammar.{sequence_of}
use Rattle.pkix_cert.specs.Revocations.{certificate_list, certificate_list_fields, revoked_certificate, tbs_cert_list}
use Rattle.pkix_cert.specs.declared.revocation.CertificateList.{CertificateList}
use Rattle.pkix_cert.specs.declared.revocation.RevokedCertificate.{RevokedCertificate}
use Rattle.pkix_cert.specs.declared.revocation.TbsCertList.{TbsCertList}
use Rattle.rcgen_text.specs.Causes.{empty_uris, ia5_text, identifier, next_update, not_crl_signer, time, when}
use Rattle.rcgen_sign.specs.declared.sign_algo.SignatureAlgorithm.{SignatureAlgorithm}
use Rattle.rcgen_certificate.specs.AsciiTexts.{first_not_ascii}
use Rattle.rcgen_certificate.specs.DistributionPoints.{uris_of}
use Rattle.rcgen_certificate.specs.Issuers.{IssuerView}
use Rattle.rcgen_certificate.specs.KeyValues.{signature_identifier}
use Rattle.rcgen_certificate.specs.WrittenTimes.{is_utc}
use Rattle.rcgen_issue.specs.CrlView.{CrlView, point_of, revoked_view}
use Rattle.rcgen_issue.specs.Lists.{first_crl_cause, has_entry_times, has_list_times, has_no_uri, issuing_uris, HasNoCrlCause, IsCrlToBeSigned, IssuesCrl}
use Rattle.rcgen_certificate.specs.Signed.{signed, signed_fields, signed_value, IsSigned}
use Rattle.rcgen_certificate.specs.declared.distribution_point.CrlDistributionPoint.{CrlDistributionPoint}
use Rattle.rcgen_issue.specs.contracts.crl.CrlIssuingDistributionPointClone.TheImpl.{ghosts as points}
use Rattle.rcgen_issue.specs.contracts.crl.RevokedCertParamsClone.TheImpl.{ghosts as entries}
use Rattle.rcgen_issue.specs.declared.crl.CrlIssuingDistributionPoint.{CrlIssuingDistributionPoint}
use Rattle.rcgen_issue.specs.declared.crl.RevokedCertParams.{RevokedCertParams}
use Rattle.rcgen_certificate.proofs.AsciiTexts.{all_ascii}
use Rattle.rcgen_certificate.proofs.Copies.{point_of_copy}
use Rattle.rcgen_certificate.proofs.NoCause.{neither, none_found, not_unset}

pub no_list_cause : (params : CrlView) (issuer : IssuerView) → first_crl_cause params issuer ≡ None → HasNoCrlCause params issuer
no_list_cause params issuer h =
    let uris = issuing_uris params.issuing_distribution_point in
    let entry_times = list_all has_entry_times params.revoked_certs in
    let first = neither (when (int_le params.next_update params.this_update) next_update) _ h in
    let second = neither (when (not issuer.signs_lists) not_crl_signer) _ first.1 in
    let third = neither (when (has_no_uri params.issuing_distribution_point) empty_uris) _ second.1 in
    let fourth = neither (when (not (has_list_times params)) time) _ third.1 in
    let fifth = neither (when (not (is_some issuer.name)) identifier) _ fourth.1 in
    let sixth = neither (option_map ia5_text (first_not_ascii uris)) None fifth.1 in
    let all_times = and_true (is_utc params.this_update && is_utc params.next_update) entry_times (not_unset (has_list_times params) time fourth.0) in
    let times = and_true (is_utc params.this_update) (is_utc params.next_update) all_times.0 in
    record {
      this_update = times.0;
      next_update = times.1;
      entry_times = all_times.1;
      issuer_types = not_unset (is_some issuer.name) identifier fifth.0;
      uris = all_ascii uris (none_found uris (first_not_ascii uris) refl sixth.0);
    }

-- what is tested of the entries, and of the issuing point, is tested of their views
pub entries_seen : (es : List RevokedCertParams) → list_all has_entry_times (map revoked_view es) ≡ list_all (λ e. has_entry_times (revoked_view e)) es
entries_seen es = list_all-map has_entry_times revoked_view es

pub uris_seen : (p : CrlDistributionPoint) → length (uris_of p) ≡ length p.uris.items
uris_seen p = length-map p.uris.items string_bytes

pub ruleset tests = (entries_seen, uris_seen)

-- entries that have a tree are a field that has one, or none
pub entries_have : (es : List RevokedCertificate) → list_all revoked_certificate.has_tree es ≡ true
    → if_not_empty (sequence_of revoked_certificate 0 None refl) es ≡ true
entries_have [] h = refl
entries_have (e ∷ es) h = rw (le-leb 0 (length (e ∷ es)) (omega arith), h) refl

pub ruleset entries_formed = (entries_have)

-- a list is what is signed, the algorithm and the signature
abbrev pub list_of : TbsCertList → SignatureAlgorithm → List ℕ → CertificateList
list_of t a g = record { tbs_cert_list = t; signature_algorithm = signature_identifier a; signature = bits 0 g }

list_form : (t : TbsCertList) (a : SignatureAlgorithm) (g der : List ℕ)
    → IsDerOf (signed tbs_cert_list) (signed_value t (signature_identifier a) (bits 0 g)) der → IsDerOf certificate_list (list_of t a g) der
unfolding signed_fields certificate_list_fields
list_form t a g der w = w

pub lists : (p : CrlView) (i : IssuerView) (fits : List ℕ → List ℕ → Type 0) (t : TbsCertList) (der : List ℕ)
    → IsCrlToBeSigned p i t → IsSigned tbs_cert_list t i.algorithm fits der → IssuesCrl p i fits der
lists p i fits t der h w = (
  list_of t i.algorithm w.0,
  record {
    message = w.1.message;
    form = list_form t i.algorithm w.0 der w.1.form;
    message_form = w.1.message_form;
    issued = record { to_be_signed = h; signature_algorithm = refl; no_unused_bits = refl };
    signed = w.1.fit;
  },
)

-- ---- copies

pub issuing_of_copy : (p q : CrlIssuingDistributionPoint) → points.is_clone p q → point_of q ≡ point_of p
issuing_of_copy p q h =
    let scope : q.scope ≡ p.scope = search rules in
    rw (point_of_copy p.distribution_point q.distribution_point h.0, scope) refl

entry_of_copy : (p q : RevokedCertParams) → entries.is_clone p q → q ≡ p
entry_of_copy p q h = search rules

pub entries_of_copies : (xs ys : List RevokedCertParams) → AllZip entries.is_clone xs ys → ys ≡ xs
entries_of_copies [] [] h = refl
entries_of_copies [] (y ∷ ys) h = absurd h
entries_of_copies (x ∷ xs) [] h = absurd h
entries_of_copies (x ∷ xs) (y ∷ ys) h = rw (entry_of_copy x y h.0, entries_of_copies xs ys h.1) refl

pub ruleset copies = (issuing_of_copy, entries_of_copies)
