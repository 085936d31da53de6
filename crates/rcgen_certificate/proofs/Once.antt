-- What is signed for parameters is one value; where one signature alone fits each message, so is what is issued.
use Rattle.std.specs.Prelude.{◌≡◌, ℕ, ℤ, List, [], ◌∷◌, map, Option, Some, None, refl}
use Rattle.std.specs.Option.{option_map}
use Rattle.std.proofs.Common.{sym, ap, ◌∙◌, subst}
use Rattle.jiff.specs.Types.{DateTime}
use Rattle.jiff.proofs.Family.{same_datetime}
use Rattle.asn1_core.specs.Binds.{some_is}
use Rattle.asn1_core.specs.Written.{IsWritten, IsWrittenOnce}
use Rattle.der_tree.specs.Form.{IsDerOf}
use Rattle.der_tree.proofs.FormLaws.{same_form}
use Rattle.pkix_name.specs.declared.name.Name.{Name}
use Rattle.pkix_cert.specs.Certificates.{certificate, tbs_certificate}
use Rattle.pkix_cert.specs.Times.{time_of, time_parts, time_there}
use Rattle.pkix_cert.specs.declared.certificate.Certificate.{Certificate}
use Rattle.pkix_cert.specs.declared.certificate.TbsCertificate.{TbsCertificate}
use Rattle.pkix_cert.specs.declared.extension.Extension.{Extension}
use Rattle.pkix_cert.specs.declared.extension.Extensions.{Extensions}
use Rattle.pkix_cert.specs.declared.time.Time.{Time}
use Rattle.rcgen_sign.specs.Keys.{Key}
use Rattle.rcgen_certificate.specs.ExtensionRows.{ExtensionRow, IsField, row_of_extension}
use Rattle.rcgen_certificate.specs.Issue.{IsToBeSigned, Issues}
use Rattle.rcgen_certificate.specs.IssuedExtensions.{extension_rows}
use Rattle.rcgen_certificate.specs.Issuers.{IssuerView}
use Rattle.rcgen_certificate.specs.ParamsView.{ParamsView}
use Rattle.rcgen_certificate.specs.Signed.{FitsOnce}
use Rattle.rcgen_certificate.specs.WrittenTimes.{IsUtcOf, IsWrittenInstant}

-- ---- times

pub one_utc : (z : ℤ) (a b : DateTime) → IsUtcOf z a → IsUtcOf z b → a ≡ b
one_utc z a b u v = same_datetime a b (u.0 ∙ sym v.0)

pub one_time : IsWrittenOnce → (z : ℤ) (s t : Time) → IsWrittenInstant z s → IsWrittenInstant z t → s ≡ t
one_time once z s t v w =
    let moved = subst (λ (at : DateTime). IsWritten at (time_parts s)) (one_utc z v.0 w.0 v.1 w.1) v.2 in
    sym (time_there s) ∙ ap time_of (once w.0 (time_parts s) (time_parts t) moved w.2) ∙ time_there t

-- ---- names

pub one_name : (given : Option Name) (s t : Name) → given ≡ Some s → given ≡ Some t → s ≡ t
one_name given s t v w = some_is s t (sym v ∙ w)

-- ---- extensions

one_extension : (a b : Extension) → row_of_extension a ≡ row_of_extension b → a ≡ b
one_extension a b e =
    let contents = some_is a.extn_value b.extn_value (ap (λ (r : ExtensionRow). r.contents) e) in
    λ i. record { extn_id = (e i).oid; critical = (e i).critical; extn_value = contents i }

first_row : (a b : ExtensionRow) (xs ys : List ExtensionRow) → a ∷ xs ≡ b ∷ ys → a ≡ b
first_row a b xs ys e = cc

other_rows : (a b : ExtensionRow) (xs ys : List ExtensionRow) → a ∷ xs ≡ b ∷ ys → xs ≡ ys
other_rows a b xs ys e = cc

one_list : (xs ys : List Extension) → map row_of_extension xs ≡ map row_of_extension ys → xs ≡ ys
one_list [] [] e = refl
one_list [] (y ∷ ys) e = absurd cc
one_list (x ∷ xs) [] e = absurd cc
one_list (x ∷ xs) (y ∷ ys) e =
    let first = one_extension x y (first_row _ _ _ _ e) in
    let others = one_list xs ys (other_rows _ _ _ _ e) in
    λ i. first i ∷ others i

abbrev rows_in : Option Extensions → Option (List ExtensionRow)
rows_in field = option_map (λ (es : Extensions). map row_of_extension es.0) field

one_field_by : (f g : Option Extensions) → rows_in f ≡ rows_in g → f ≡ g
one_field_by None None e = refl
one_field_by None (Some h) e = absurd cc
one_field_by (Some h) None e = absurd cc
one_field_by (Some h) (Some k) e =
    let list = one_list h.0 k.0 (some_is (map row_of_extension h.0) (map row_of_extension k.0) e) in
    λ i. Some (record { 0 = list i })

pub one_field : (rows : List ExtensionRow) (f g : Option Extensions) → IsField rows f → IsField rows g → f ≡ g
one_field rows f g v w = one_field_by f g (v ∙ sym w)

-- ---- what is signed

pub one_to_be_signed : IsWrittenOnce → (params : ParamsView) (subject : Key) (issuer : IssuerView) (s t : TbsCertificate)
    → IsToBeSigned params subject issuer s → IsToBeSigned params subject issuer t → s ≡ t
one_to_be_signed once params subject issuer s t v w =
    let version = v.version ∙ sym w.version in
    let serial_number = v.serial_number ∙ sym w.serial_number in
    let signature = v.signature ∙ sym w.signature in
    let issuer_name = one_name issuer.name s.issuer t.issuer v.issuer_name w.issuer_name in
    let not_before = one_time once params.not_before s.validity.not_before t.validity.not_before v.not_before w.not_before in
    let not_after = one_time once params.not_after s.validity.not_after t.validity.not_after v.not_after w.not_after in
    let subject_name = v.subject_name ∙ sym w.subject_name in
    let subject_key = v.subject_key ∙ sym w.subject_key in
    let issuer_unique_id = v.issuer_unique_id ∙ sym w.issuer_unique_id in
    let subject_unique_id = v.subject_unique_id ∙ sym w.subject_unique_id in
    let extensions = one_field (extension_rows params subject issuer) s.extensions t.extensions v.extensions w.extensions in
    λ i. record {
      version = version i;
      serial_number = serial_number i;
      signature = signature i;
      issuer = issuer_name i;
      validity = record { not_before = not_before i; not_after = not_after i };
      subject = subject_name i;
      subject_public_key_info = subject_key i;
      issuer_unique_id = issuer_unique_id i;
      subject_unique_id = subject_unique_id i;
      extensions = extensions i;
    }

-- ---- what is issued

-- the signatures of one message
pub one_signature : (fits : List ℕ → List ℕ → Type 0) → FitsOnce fits → (m n s t : List ℕ) → m ≡ n → fits m s → fits n t → s ≡ t
one_signature fits one m n s t e v w = one n s t (subst (λ (x : List ℕ). fits x s) e v) w

pub one_issued : IsWrittenOnce → (params : ParamsView) (subject : Key) (issuer : IssuerView) (fits : List ℕ → List ℕ → Type 0)
    → FitsOnce fits → (a b : List ℕ) → Issues params subject issuer fits a → Issues params subject issuer fits b → a ≡ b
one_issued once params subject issuer fits one a b v w =
    let x = v.1 in
    let y = w.1 in
    let tbs = one_to_be_signed once params subject issuer v.0.tbs_certificate w.0.tbs_certificate x.issued.to_be_signed y.issued.to_be_signed in
    let message = same_form tbs_certificate w.0.tbs_certificate x.message y.message
    (subst (λ (t : TbsCertificate). IsDerOf tbs_certificate t x.message) tbs x.message_form) y.message_form in
    let signature = one_signature fits one x.message y.message v.0.signature_value.bytes w.0.signature_value.bytes message x.signed y.signed in
    let unused = x.issued.no_unused_bits ∙ sym y.issued.no_unused_bits in
    let algorithm = x.issued.signature_algorithm ∙ sym y.issued.signature_algorithm in
    let same : v.0 ≡ w.0 = λ i. record {
      tbs_certificate = tbs i;
      signature_algorithm = algorithm i;
      signature_value = record { bytes = signature i; unused = unused i };
    } in
    same_form certificate w.0 a b (subst (λ (c : Certificate). IsDerOf certificate c a) same x.form) y.form
