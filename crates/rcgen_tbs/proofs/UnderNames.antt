-- A name takes the place of the parameters'.
use Rattle.std.proofs.Common.{◌≡◌, ◌∙◌, ℕ, Bool, true, false, ◌&&◌, ◌||◌, List, Option, Some, None, refl, sym, ap, subst}
use Rattle.asn1_core.specs.Binds.{and_true, true_and}
use Rattle.asn1_core.specs.Bits.{bits}
use Rattle.der_tree.proofs.FormLaws.{same_form}
use Rattle.der_tree.specs.AnyElement.{is_one}
use Rattle.der_tree.specs.Form.{IsDerOf}
use Rattle.der_tree.specs.Grammar.{explicitly}
use Rattle.der_tree.specs.HasTree.{HasTree}
use Rattle.der_tree.specs.PrimitiveTypes.{integer}
use Rattle.der_tree.specs.Tags.{context}
use Rattle.pkix_name.specs.Names.{name as name_codec}
use Rattle.pkix_name.specs.declared.name.Name.{Name}
use Rattle.pkix_cert.specs.Algorithms.{algorithm_identifier}
use Rattle.pkix_cert.specs.Certificates.{certificate, tbs_certificate, tbs_certificate_fields}
use Rattle.pkix_cert.specs.Times.{validity}
use Rattle.pkix_cert.specs.Versions.{same_version, v1, version}
use Rattle.pkix_cert.specs.declared.certificate.Certificate.{Certificate}
use Rattle.pkix_cert.specs.declared.certificate.TbsCertificate.{TbsCertificate}
use Rattle.rcgen_certificate.proofs.Issuing.{certificate_form}
use Rattle.rcgen_certificate.proofs.Once.{one_signature}
use Rattle.rcgen_certificate.proofs.SignedOctets.{form_is_one, stands_as_it_is}
use Rattle.rcgen_certificate.specs.Issuers.{IssuerView}
use Rattle.rcgen_certificate.specs.KeyValues.{signature_identifier}
use Rattle.rcgen_certificate.specs.ParamsView.{ParamsView}
use Rattle.rcgen_certificate.specs.Signed.{FitsOnce, IsAssembled}
use Rattle.rcgen_tbs.proofs.Assembled.{certificate_assembled, certificate_is_one}
use Rattle.rcgen_tbs.proofs.Once.{OneTbs}
use Rattle.rcgen_tbs.proofs.SubjectsOnce.{one_for, one_message_for, one_over_for}
use Rattle.rcgen_tbs.specs.Named.{IsCertificateMessageAs, IsCertificateOverAs, IsCertificateOverNamed, IsToBeSignedNamed, with_name}
use Rattle.rcgen_tbs.specs.Subjects.{IsToBeSignedFor}
use Rattle.rcgen_tbs.specs.declared.subject.Subject.{Subject}

-- ---- another name that has a tree leaves one

in_sixth : (a b c d e f g rest : Bool) → g ≡ true → (a && (b && (c && (d && (e && (f && rest)))))) ≡ true
    → (a && (b && (c && (d && (e && (g && rest)))))) ≡ true
in_sixth true true true true true f g rest p k = true_and g rest p (and_true f rest k).1
in_sixth true true true true false f g rest p k = absurd cc
in_sixth true true true false e f g rest p k = absurd cc
in_sixth true true false d e f g rest p k = absurd cc
in_sixth true false c d e f g rest p k = absurd cc
in_sixth false b c d e f g rest p k = absurd cc

signed_formed : (name : Name) (t : TbsCertificate) → HasTree name_codec name → HasTree tbs_certificate t → HasTree tbs_certificate (with_name name t)
unfolding tbs_certificate_fields
signed_formed name t h k =
    in_sixth ((explicitly (context 0) version).has_tree t.version || same_version t.version v1) (integer.has_tree t.serial_number)
    (algorithm_identifier.has_tree t.signature) (name_codec.has_tree t.issuer) (validity.has_tree t.validity) (name_codec.has_tree t.subject)
    (name_codec.has_tree name) _ h k

pub still_formed : (name : Name) (base t : TbsCertificate) → HasTree name_codec name → HasTree tbs_certificate base → t ≡ with_name name base
    → HasTree tbs_certificate t
still_formed name base t h k e = subst (λ (x : TbsCertificate). HasTree tbs_certificate x) (sym e) (signed_formed name base h k)

pub named : (params : ParamsView) (subject : Subject) (name : Name) (issuer : IssuerView) (base t : TbsCertificate)
    → IsToBeSignedFor params subject issuer base → t ≡ with_name name base → IsToBeSignedNamed params subject name issuer t
named params subject name issuer base t h e = record { base = base; base_is = h; replaced = e }

-- ---- there is one message, and one certificate over it

one_named : OneTbs → (params : ParamsView) (subject : Subject) (name : Name) (issuer : IssuerView) (s t : TbsCertificate)
    → IsToBeSignedNamed params subject name issuer s → IsToBeSignedNamed params subject name issuer t → s ≡ t
one_named once params subject name issuer s t h k =
    let base = one_for once params subject issuer h.base k.base h.base_is k.base_is in
    h.replaced ∙ ap (λ (x : TbsCertificate). with_name name x) base ∙ sym k.replaced

pub one_message_as : OneTbs → (params : ParamsView) (subject : Subject) (name : Option Name) (issuer : IssuerView) (m n : List ℕ)
    → IsCertificateMessageAs params subject name issuer m → IsCertificateMessageAs params subject name issuer n → m ≡ n
one_message_as once params subject None issuer m n h k = one_message_for once params subject issuer m n h k
one_message_as once params subject (Some name) issuer m n h k =
    let same = one_named once params subject name issuer h.0 k.0 h.1 k.1 in
    same_form tbs_certificate k.0 m n (subst (λ (t : TbsCertificate). IsDerOf tbs_certificate t m) same h.2) k.2

one_over_named : OneTbs → (params : ParamsView) (subject : Subject) (name : Name) (issuer : IssuerView) (fits : List ℕ → List ℕ → Type 0)
    → FitsOnce fits → (m n a b : List ℕ) → IsCertificateOverNamed params subject name issuer fits m a
    → IsCertificateOverNamed params subject name issuer fits n b → a ≡ b
one_over_named once params subject name issuer fits one m n a b v w =
    let c = v.certificate in
    let d = w.certificate in
    let tbs = one_named once params subject name issuer c.tbs_certificate d.tbs_certificate v.to_be_signed w.to_be_signed in
    let message = same_form tbs_certificate d.tbs_certificate m n (subst (λ (t : TbsCertificate). IsDerOf tbs_certificate t m) tbs v.message_form)
    w.message_form in
    let signature = one_signature fits one m n c.signature_value.bytes d.signature_value.bytes message v.signed w.signed in
    let unused = v.no_unused_bits ∙ sym w.no_unused_bits in
    let algorithm = v.signature_algorithm ∙ sym w.signature_algorithm in
    let same : c ≡ d = λ i. record {
      tbs_certificate = tbs i;
      signature_algorithm = algorithm i;
      signature_value = record { bytes = signature i; unused = unused i };
    } in
    same_form certificate d a b (subst (λ (x : Certificate). IsDerOf certificate x a) same v.form) w.form

pub one_over_as : OneTbs → (params : ParamsView) (subject : Subject) (name : Option Name) (issuer : IssuerView) (fits : List ℕ → List ℕ → Type 0)
    → FitsOnce fits → (m n a b : List ℕ) → IsCertificateOverAs params subject name issuer fits m a
    → IsCertificateOverAs params subject name issuer fits n b → a ≡ b
one_over_as once params subject None issuer fits one m n a b v w = one_over_for once params subject issuer fits one m n a b v w
one_over_as once params subject (Some name) issuer fits one m n a b v w = one_over_named once params subject name issuer fits one m n a b v w

-- ---- a message is one element, and what is assembled over it is issued

pub message_as_is_one : (params : ParamsView) (subject : Subject) (name : Option Name) (issuer : IssuerView) (m : List ℕ)
    → IsCertificateMessageAs params subject name issuer m → is_one m ≡ true
message_as_is_one params subject None issuer m h = certificate_is_one params subject issuer m h
message_as_is_one params subject (Some name) issuer m h = form_is_one tbs_certificate h.0 m h.2

pub assembled_as : (params : ParamsView) (subject : Subject) (name : Option Name) (issuer : IssuerView) (s message der : List ℕ)
    → IsCertificateMessageAs params subject name issuer message → IsAssembled message issuer.algorithm s der
    → IsCertificateOverAs params subject name issuer (λ m t. t ≡ s) message der
assembled_as params subject None issuer s message der h k = certificate_assembled params subject issuer s message der h k
assembled_as params subject (Some name) issuer s message der h k =
    let a = signature_identifier issuer.algorithm in
    let c : Certificate = record { tbs_certificate = h.0; signature_algorithm = a; signature_value = bits 0 s } in
    record {
      certificate = c;
      form = certificate_form c der (stands_as_it_is tbs_certificate h.0 a (bits 0 s) message der h.2 k);
      to_be_signed = h.1;
      signature_algorithm = refl;
      no_unused_bits = refl;
      message_form = h.2;
      signed = refl;
    }
