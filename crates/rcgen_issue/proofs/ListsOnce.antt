-- What is signed for a list's parameters is one value; issuers with the same view sign the same.
use Rattle.std.specs.Prelude.{◌≡◌, ◌⊎◌, ℕ, ℤ, true, false, List, [], ◌∷◌, Option, Some, None, IsSomeAnd, refl}
use Rattle.std.specs.List.{AllZip}
use Rattle.std.proofs.Common.{inl, inr, sym, ap, ◌∙◌, subst}
use Rattle.jiff.specs.Types.{DateTime}
use Rattle.asn1_core.specs.UtcTime.{is_utc_time_year}
use Rattle.asn1_core.specs.Written.{IsWholeSecond, IsWrittenOnce}
use Rattle.asn1_core.specs.declared.time.utc_time.UtcTime.{UtcTime}
use Rattle.asn1_core.specs.declared.time.generalized_time.GeneralizedTime.{GeneralizedTime}
use Rattle.der_tree.specs.Form.{IsDerOf}
use Rattle.der_tree.proofs.FormLaws.{same_form}
use Rattle.pkix_cert.specs.Revocations.{certificate_list, tbs_cert_list}
use Rattle.pkix_cert.specs.declared.revocation.CertificateList.{CertificateList}
use Rattle.pkix_cert.specs.declared.revocation.RevokedCertificate.{RevokedCertificate}
use Rattle.pkix_cert.specs.declared.revocation.TbsCertList.{TbsCertList}
use Rattle.pkix_cert.specs.declared.time.Time.{Time}
use Rattle.rcgen_certificate.specs.ExtensionRows.{IsField}
use Rattle.rcgen_certificate.specs.Issuers.{IssuerView}
use Rattle.rcgen_certificate.specs.Signed.{FitsOnce}
use Rattle.rcgen_certificate.specs.WrittenTimes.{IsWrittenInstant}
use Rattle.rcgen_certificate.proofs.Once.{one_field, one_issued, one_name, one_signature, one_time, one_to_be_signed, one_utc}
use Rattle.rcgen_issue.specs.CrlView.{CrlView, RevokedView}
use Rattle.rcgen_issue.specs.Entries.{entry_extension_rows, IsEntry, IsGeneralInstant, IsInvalidityDate}
use Rattle.rcgen_issue.specs.Lists.{IsCrlToBeSigned, IssuesCrl, crl_extension_rows}
use Rattle.rcgen_issue.specs.SameIssuers.{IssueTheSame, SignTheSame}

-- ---- times

same_utc : (a b : UtcTime) → ◌≡◌ {A = UtcTime ⊎ GeneralizedTime} (inl a) (inl b) → a ≡ b
same_utc a b e = cc

same_general : (a b : GeneralizedTime) → ◌≡◌ {A = UtcTime ⊎ GeneralizedTime} (inr a) (inr b) → a ≡ b
same_general a b e = cc

-- a second is one time, also in the years that a UTCTime carries
one_second : IsWrittenOnce → (at : DateTime) (s t : GeneralizedTime) → IsWholeSecond at s.at → IsWholeSecond at t.at → s ≡ t
one_second once at s t v w =
    elim (is_utc_time_year at) as (λ b. is_utc_time_year at ≡ b → s ≡ t) [
      | true ↦ λ y. let a : UtcTime = record { at = s.at } in let b : UtcTime = record { at = t.at } in
          ap (λ (u : UtcTime). let g : GeneralizedTime = record { at = u.at } in g) (same_utc a b (once at (inl a) (inl b) (y, v) (y, w)))
      | false ↦ λ y. same_general s t (once at (inr s) (inr t) (y, v) (y, w))
    ] refl

pub one_general_time : IsWrittenOnce → (z : ℤ) (s t : GeneralizedTime) → IsGeneralInstant z s → IsGeneralInstant z t → s ≡ t
one_general_time once z s t v w =
    one_second once w.0 s t (subst (λ (at : DateTime). IsWholeSecond at s.at) (one_utc z v.0 w.0 v.1 w.1) v.2) w.2

one_date : IsWrittenOnce → (given : Option ℤ) (s t : Option GeneralizedTime) → IsInvalidityDate given s → IsInvalidityDate given t → s ≡ t
one_date once None s t v w = v ∙ sym w
one_date once (Some z) None t v w = absurd v
one_date once (Some z) (Some s) None v w = absurd w
one_date once (Some z) (Some s) (Some t) v w = ap (λ (x : GeneralizedTime). Some x) (one_general_time once z s t v w)

one_next : IsWrittenOnce → (z : ℤ) (s t : Option Time) → IsSomeAnd s (IsWrittenInstant z) → IsSomeAnd t (IsWrittenInstant z) → s ≡ t
one_next once z None t v w = absurd v
one_next once z (Some s) None v w = absurd w
one_next once z (Some s) (Some t) v w = ap (λ (x : Time). Some x) (one_time once z s t v w)

-- ---- entries

one_entry : IsWrittenOnce → (p : RevokedView) (d e : RevokedCertificate) → IsEntry p d → IsEntry p e → d ≡ e
one_entry once p d e v w =
    let serial = v.user_certificate ∙ sym w.user_certificate in
    let revoked = one_time once p.revocation_time d.revocation_date e.revocation_date v.revocation_date w.revocation_date in
    let date = one_date once p.invalidity_date v.date w.date v.invalidity_date w.invalidity_date in
    let extensions = one_field (entry_extension_rows p.reason_code w.date) d.crl_entry_extensions e.crl_entry_extensions
    (subst (λ (x : Option GeneralizedTime). IsField (entry_extension_rows p.reason_code x) d.crl_entry_extensions) date v.extensions) w.extensions in
    λ i. record { user_certificate = serial i; revocation_date = revoked i; crl_entry_extensions = extensions i }

one_entries : IsWrittenOnce → (ps : List RevokedView) (ds es : List RevokedCertificate) → AllZip IsEntry ps ds → AllZip IsEntry ps es → ds ≡ es
one_entries once [] [] [] v w = refl
one_entries once [] [] (e ∷ es) v w = absurd w
one_entries once [] (d ∷ ds) es v w = absurd v
one_entries once (p ∷ ps) [] es v w = absurd v
one_entries once (p ∷ ps) (d ∷ ds) [] v w = absurd w
one_entries once (p ∷ ps) (d ∷ ds) (e ∷ es) v w =
    let first = one_entry once p d e v.0 w.0 in
    let others = one_entries once ps ds es v.1 w.1 in
    λ i. first i ∷ others i

-- ---- lists

pub one_list : IsWrittenOnce → (params : CrlView) (issuer : IssuerView) (s t : TbsCertList)
    → IsCrlToBeSigned params issuer s → IsCrlToBeSigned params issuer t → s ≡ t
one_list once params issuer s t v w =
    let version = v.version ∙ sym w.version in
    let signature = v.signature ∙ sym w.signature in
    let issuer_name = one_name issuer.name s.issuer t.issuer v.issuer_name w.issuer_name in
    let this_update = one_time once params.this_update s.this_update t.this_update v.this_update w.this_update in
    let next_update = one_next once params.next_update s.next_update t.next_update v.next_update w.next_update in
    let entries = one_entries once params.revoked_certs s.revoked_certificates t.revoked_certificates v.entries w.entries in
    let extensions = one_field (crl_extension_rows params issuer) s.crl_extensions t.crl_extensions v.extensions w.extensions in
    λ i. record {
      version = version i;
      signature = signature i;
      issuer = issuer_name i;
      this_update = this_update i;
      next_update = next_update i;
      revoked_certificates = entries i;
      crl_extensions = extensions i;
    }

pub one_issued_list : IsWrittenOnce → (params : CrlView) (issuer : IssuerView) (fits : List ℕ → List ℕ → Type 0)
    → FitsOnce fits → (a b : List ℕ) → IssuesCrl params issuer fits a → IssuesCrl params issuer fits b → a ≡ b
one_issued_list once params issuer fits one a b v w =
    let x = v.1 in
    let y = w.1 in
    let list = one_list once params issuer v.0.tbs_cert_list w.0.tbs_cert_list x.issued.to_be_signed y.issued.to_be_signed in
    let message = same_form tbs_cert_list w.0.tbs_cert_list x.message y.message
    (subst (λ (t : TbsCertList). IsDerOf tbs_cert_list t x.message) list x.message_form) y.message_form in
    let signature = one_signature fits one x.message y.message v.0.signature.bytes w.0.signature.bytes message x.signed y.signed in
    let unused = x.issued.no_unused_bits ∙ sym y.issued.no_unused_bits in
    let algorithm = x.issued.signature_algorithm ∙ sym y.issued.signature_algorithm in
    let same : v.0 ≡ w.0 = λ i. record {
      tbs_cert_list = list i;
      signature_algorithm = algorithm i;
      signature = record { bytes = signature i; unused = unused i };
    } in
    same_form certificate_list w.0 a b (subst (λ (c : CertificateList). IsDerOf certificate_list c a) same x.form) y.form

-- ---- two issuers

signs_as_itself : IsWrittenOnce → (issuer : IssuerView) → SignTheSame issuer issuer
signs_as_itself once issuer = record {
  certificates = λ params subject s t v w. one_to_be_signed once params subject issuer s t v w;
  certificate_of_both = λ params subject t. ((λ v. v), (λ v. v));
  certificate_causes = λ params. refl;
  lists = λ params s t v w. one_list once params issuer s t v w;
  list_of_both = λ params t. ((λ v. v), (λ v. v));
  list_causes = λ params. refl;
}

pub signs_the_same : IsWrittenOnce → (one other : IssuerView) → one ≡ other → SignTheSame one other
signs_the_same once one other e = subst (λ (issuer : IssuerView). SignTheSame one issuer) e (signs_as_itself once one)

issues_as_itself : IsWrittenOnce → (fits : List ℕ → List ℕ → Type 0) → FitsOnce fits → (issuer : IssuerView) → IssueTheSame issuer issuer fits
issues_as_itself once fits alone issuer = record {
  certificates = λ params subject a b v w. one_issued once params subject issuer fits alone a b v w;
  lists = λ params a b v w. one_issued_list once params issuer fits alone a b v w;
}

pub issues_the_same : IsWrittenOnce → (fits : List ℕ → List ℕ → Type 0) → FitsOnce fits → (one other : IssuerView) → one ≡ other
    → IssueTheSame one other fits
issues_the_same once fits alone one other e =
    subst (λ (issuer : IssuerView). IssueTheSame one issuer fits) e (issues_as_itself once fits alone one)
