-- A name takes the place of the parameters' in a request.
use Rattle.std.proofs.Common.{◌≡◌, ◌∙◌, ℕ, Bool, true, false, ◌&&◌, List, [], Option, Some, None, refl, sym, ap, subst}
use Rattle.asn1_core.specs.Binds.{and_true, true_and}
use Rattle.asn1_core.specs.Bits.{bits}
use Rattle.der_tree.proofs.FormLaws.{same_form}
use Rattle.der_tree.specs.AnyElement.{is_one}
use Rattle.der_tree.specs.Form.{IsDerOf}
use Rattle.der_tree.specs.HasTree.{HasTree}
use Rattle.pkix_cert.specs.Requests.{certification_request, certification_request_fields, certification_request_info, certification_request_info_fields}
use Rattle.pkix_cert.specs.Versions.{version}
use Rattle.pkix_cert.specs.declared.request.CertificationRequest.{CertificationRequest}
use Rattle.pkix_cert.specs.declared.request.CertificationRequestInfo.{CertificationRequestInfo}
use Rattle.pkix_name.specs.Names.{name as name_codec}
use Rattle.pkix_name.specs.declared.name.Name.{Name}
use Rattle.rcgen_certificate.proofs.Once.{one_signature}
use Rattle.rcgen_certificate.proofs.Requests.{request_of}
use Rattle.rcgen_certificate.proofs.SignedOctets.{form_is_one, stands_as_it_is}
use Rattle.rcgen_certificate.specs.KeyValues.{signature_identifier}
use Rattle.rcgen_certificate.specs.ParamsView.{ParamsView}
use Rattle.rcgen_certificate.specs.Requests.{IsInfo, Requests}
use Rattle.rcgen_certificate.specs.Signed.{FitsOnce, IsAssembled, signed, signed_fields, signed_value}
use Rattle.rcgen_certificate.specs.declared.csr.Attribute.{Attribute}
use Rattle.rcgen_sign.specs.Keys.{Key}
use Rattle.rcgen_sign.specs.declared.sign_algo.SignatureAlgorithm.{SignatureAlgorithm}
use Rattle.rcgen_tbs.proofs.Once.{OneInfo, one_request_message}
use Rattle.rcgen_tbs.specs.Messages.{IsRequestMessage, IsRequestOver}
use Rattle.shelf_job.specs.NamedRequests.{IsInfoNamed, IsRequestMessageAs, IsRequestOverAs, IsRequestOverNamed, with_subject}

-- ---- another name that has a tree leaves one

in_second : (a b c rest : Bool) → c ≡ true → (a && (b && rest)) ≡ true → (a && (c && rest)) ≡ true
in_second true b c rest p k = true_and c rest p (and_true b rest k).1
in_second false b c rest p k = absurd cc

info_formed : (name : Name) (info : CertificationRequestInfo) → HasTree name_codec name → HasTree certification_request_info info
    → HasTree certification_request_info (with_subject name info)
unfolding certification_request_info_fields
info_formed name info h k = in_second (version.has_tree info.version) (name_codec.has_tree info.subject) (name_codec.has_tree name) _ h k

pub still_formed : (name : Name) (base info : CertificationRequestInfo) → HasTree name_codec name → HasTree certification_request_info base
    → info ≡ with_subject name base → HasTree certification_request_info info
still_formed name base info h k e = subst (λ (x : CertificationRequestInfo). HasTree certification_request_info x) (sym e) (info_formed name base h k)

pub named : (params : ParamsView) (subject : Key) (name : Name) (base info : CertificationRequestInfo) → IsInfo params subject [] base
    → info ≡ with_subject name base → IsInfoNamed params subject name info
named params subject name base info h e = record { base = base; base_is = h; replaced = e }

-- ---- there is one message, and one request over it

one_named : OneInfo → (params : ParamsView) (subject : Key) (name : Name) (i j : CertificationRequestInfo) → IsInfoNamed params subject name i
    → IsInfoNamed params subject name j → i ≡ j
one_named once params subject name i j h k =
    let base = once params subject [] h.base k.base h.base_is k.base_is in
    h.replaced ∙ ap (λ (x : CertificationRequestInfo). with_subject name x) base ∙ sym k.replaced

pub one_request_as : OneInfo → (params : ParamsView) (subject : Key) (name : Option Name) (m n : List ℕ) → IsRequestMessageAs params subject name m
    → IsRequestMessageAs params subject name n → m ≡ n
one_request_as once params subject None m n h k = one_request_message once params subject [] m n h k
one_request_as once params subject (Some name) m n h k =
    let same = one_named once params subject name h.0 k.0 h.1 k.1 in
    same_form certification_request_info k.0 m n
    (subst (λ (i : CertificationRequestInfo). IsDerOf certification_request_info i m) same h.2) k.2

one_over_named : OneInfo → (params : ParamsView) (subject : Key) (name : Name) (fits : List ℕ → List ℕ → Type 0) → FitsOnce fits → (m n a b : List ℕ)
    → IsRequestOverNamed params subject name fits m a → IsRequestOverNamed params subject name fits n b → a ≡ b
one_over_named once params subject name fits one m n a b v w =
    let c = v.request in
    let d = w.request in
    let info = one_named once params subject name c.info d.info v.info w.info in
    let message = same_form certification_request_info d.info m n
    (subst (λ (i : CertificationRequestInfo). IsDerOf certification_request_info i m) info v.message_form) w.message_form in
    let signature = one_signature fits one m n c.signature.bytes d.signature.bytes message v.signed w.signed in
    let unused = v.no_unused_bits ∙ sym w.no_unused_bits in
    let algorithm = v.signature_algorithm ∙ sym w.signature_algorithm in
    let same : c ≡ d = λ i. record {
      info = info i;
      signature_algorithm = algorithm i;
      signature = record { bytes = signature i; unused = unused i };
    } in
    same_form certification_request d a b (subst (λ (x : CertificationRequest). IsDerOf certification_request x a) same v.form) w.form

pub one_over_as : OneInfo → (params : ParamsView) (subject : Key) (name : Option Name) (fits : List ℕ → List ℕ → Type 0) → FitsOnce fits
    → ((a b : List ℕ) → Requests params subject [] fits a → Requests params subject [] fits b → a ≡ b) → (m n a b : List ℕ)
    → IsRequestOverAs params subject name fits m a → IsRequestOverAs params subject name fits n b → a ≡ b
one_over_as once params subject None fits one plain m n a b v w = plain a b (v.request, v.issued) (w.request, w.issued)
one_over_as once params subject (Some name) fits one plain m n a b v w = one_over_named once params subject name fits one m n a b v w

-- ---- a message is one element, and what is assembled over it is issued

pub request_as_is_one : ((params : ParamsView) (subject : Key) (attrs : List Attribute) (m : List ℕ) → IsRequestMessage params subject attrs m
    → is_one m ≡ true) → (params : ParamsView) (subject : Key) (name : Option Name) (m : List ℕ) → IsRequestMessageAs params subject name m → is_one m ≡ true
request_as_is_one plain params subject None m h = plain params subject [] m h
request_as_is_one plain params subject (Some name) m h = form_is_one certification_request_info h.0 m h.2

-- a request is what is signed, the algorithm and the signature
request_form : (i : CertificationRequestInfo) (a : SignatureAlgorithm) (s der : List ℕ)
    → IsDerOf (signed certification_request_info) (signed_value i (signature_identifier a) (bits 0 s)) der
    → IsDerOf certification_request (request_of i a s) der
unfolding signed_fields certification_request_fields
request_form i a s der h = h

pub request_assembled_as : ((params : ParamsView) (subject : Key) (attrs : List Attribute) (s message der : List ℕ)
    → IsRequestMessage params subject attrs message → IsAssembled message subject.algorithm s der
    → IsRequestOver params subject attrs (λ m t. t ≡ s) message der)
    → (params : ParamsView) (subject : Key) (name : Option Name) (s message der : List ℕ) → IsRequestMessageAs params subject name message
    → IsAssembled message subject.algorithm s der → IsRequestOverAs params subject name (λ m t. t ≡ s) message der
request_assembled_as plain params subject None s message der h k = plain params subject [] s message der h k
request_assembled_as plain params subject (Some name) s message der h k = record {
  request = request_of h.0 subject.algorithm s;
  form = request_form h.0 subject.algorithm s der
      (stands_as_it_is certification_request_info h.0 (signature_identifier subject.algorithm) (bits 0 s) message der h.2 k);
  info = h.1;
  signature_algorithm = refl;
  no_unused_bits = refl;
  message_form = h.2;
  signed = refl;
}
