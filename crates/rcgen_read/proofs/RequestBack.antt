-- A request that was written is read back.
use Rattle.std.specs.Prelude.{◌≡◌, ℕ, Bool, true, false, cond, List, [], ◌++◌, map, Option, Some, None, Ok, ok_or, refl}
use Rattle.std.specs.List.{list_all}
use Rattle.std.proofs.Common.{ap, subst, ◌∙◌}
use Rattle.asn1_core.specs.Binds.{bind_is}
use Rattle.der_tree.specs.Form.{IsDerOf}
use Rattle.der_tree.specs.laws.TreeElement.{element_of_encodable}
use Rattle.pkix_cert.specs.Algorithms.{algorithm_identifier, subject_public_key_info}
use Rattle.pkix_cert.specs.Requests.{certification_request, certification_request_info}
use Rattle.pkix_cert.specs.declared.algorithm.AlgorithmIdentifier.{AlgorithmIdentifier}
use Rattle.pkix_cert.specs.declared.algorithm.SubjectPublicKeyInfo.{SubjectPublicKeyInfo}
use Rattle.pkix_cert.specs.declared.extension.Extension.{Extension}
use Rattle.pkix_cert.specs.declared.request.CertificationRequest.{CertificationRequest}
use Rattle.rcgen_text.specs.Causes.{not_request, unsupported_algorithm}
use Rattle.rcgen_text.specs.Names.{Entry, all_pushed}
use Rattle.rcgen_sign.specs.Keys.{Key}
use Rattle.rcgen_sign.specs.Listed.{identified_by}
use Rattle.rcgen_sign.specs.declared.sign_algo.SignatureAlgorithm.{SignatureAlgorithm}
use Rattle.rcgen_certificate.specs.KeyValues.{key_value, signature_identifier}
use Rattle.rcgen_certificate.specs.NameValues.{name_value}
use Rattle.rcgen_certificate.specs.Requests.{RequestsAs, request_rows}
use Rattle.rcgen_certificate.specs.ParamsView.{ParamsView}
use Rattle.rcgen_read.specs.ExtensionReading.{read_extensions}
use Rattle.rcgen_read.specs.NameReading.{read_name}
use Rattle.rcgen_read.specs.NamesReadBack.{by_arcs, is_held, is_held_name}
use Rattle.rcgen_read.specs.ReceivedRequests.{ReceivedRequest, front_at, has_unused_bits, received_at, requested_extensions, signed_octets}
use Rattle.rcgen_read.specs.RequestLaws.{IsAccepted, IsListed, WrittenIsRead, asked_by, read_back}
use Rattle.rcgen_read.specs.RequestReading.{Accepts, algorithm_of, key_algorithm_of, verified}
use Rattle.rcgen_read.proofs.Algorithms.{finds_itself}
use Rattle.rcgen_read.proofs.AnsweredRows.{requested_are}
use Rattle.rcgen_read.proofs.AskedBack.{IsShort, NamesAreRead, all_asked}
use Rattle.rcgen_read.proofs.EachRead.{and_then_is}
use Rattle.rcgen_read.proofs.ReadUsages.{BitsAreSet}
use Rattle.der_tree.proofs.FormLaws.{same_form}
use Rattle.rcgen_read.proofs.ReadParts.{form_in_front}
use Rattle.rcgen_read.proofs.RequestAttributes.{AreFound, attributes_found}
use Rattle.rcgen_read.proofs.RequestParts.{HasParts, octets_of, parts_of, signed_are}

-- ---- what is received

pub receives : (c : CertificationRequest) (der rest : List ℕ) (es : List Extension) (f : IsDerOf certification_request c der) (p : HasParts f.1 c)
    → requested_extensions c.info.attributes ≡ Some es → has_unused_bits c ≡ false
    → received_at (der ++ rest) ≡ Some (record { request = c; signed = octets_of p; extensions = es })
unfolding received_at
receives c der rest es f p found unused =
    let v : ReceivedRequest = record { request = c; signed = octets_of p; extensions = es } in
    bind_is (front_at (der ++ rest)) _ f.1 (Some v) (form_in_front certification_request c der rest f)
    (bind_is (certification_request.read_of f.1) _ c (Some v) (certification_request.again c f.0 f.1 f.2 f.3)
    (bind_is (signed_octets f.1) _ (octets_of p) (Some v) (signed_are f.1 c p)
    (bind_is (requested_extensions c.info.attributes) _ es (Some v) found
    (ap (λ (b : Bool). cond b None (Some v)) unused))))

-- ---- the steps

says_yes : (accepts : Accepts) (v : ReceivedRequest)
    → accepts v.signed.info v.signed.key_info v.signed.algorithm v.request.signature.bytes ≡ true → verified accepts v ≡ Ok tt
unfolding verified
says_yes accepts v e = rw e refl

finds : (c : CertificationRequest) (a : SignatureAlgorithm) (octets : List ℕ) → c.signature_algorithm ≡ signature_identifier a
    → c.info.subject_public_key_info ≡ key_value a octets → IsListed a → algorithm_of c ≡ Some a
unfolding algorithm_of
finds c a octets e h there =
    ap (λ (x : AlgorithmIdentifier). identified_by x.algorithm (key_algorithm_of c.info.subject_public_key_info.algorithm)) e
    ∙ ap (λ (x : SubjectPublicKeyInfo). identified_by (signature_identifier a).algorithm (key_algorithm_of x.algorithm)) h
    ∙ finds_itself a there

unused_are : (c : CertificationRequest) (key : Key) → c.info.subject_public_key_info ≡ key_value key.algorithm key.octets → c.signature.unused ≡ 0
    → has_unused_bits c ≡ false
unused_are c key e h = rw (e, h) refl

pub accepted : (params : ParamsView) (key : Key) (accepts : Accepts) (c : CertificationRequest) (der : List ℕ)
    (r : RequestsAs params key [] (IsAccepted accepts key) c der) (p : HasParts r.form.1 c)
    → accepts (octets_of p).info (octets_of p).key_info (octets_of p).algorithm c.signature.bytes ≡ true
accepted params key accepts c der r p =
    let yes = r.signed (octets_of p).key_info (octets_of p).algorithm
    (subst (λ (x : SubjectPublicKeyInfo). IsDerOf subject_public_key_info x (octets_of p).key_info) r.info.subject_key p.key_info_form)
    (subst (λ (x : AlgorithmIdentifier). IsDerOf algorithm_identifier x (octets_of p).algorithm) r.signature_algorithm p.algorithm_form) in
    subst (λ (m : List ℕ). accepts m (octets_of p).key_info (octets_of p).algorithm c.signature.bytes ≡ true)
    (same_form certification_request_info c.info r.message (octets_of p).info r.message_form p.info_form) yes

-- ---- the law

-- a name in its value, as the law on names says
abbrev pub NameIsRead : Type 0
NameIsRead = (es : List Entry) → list_all is_held es ≡ true → read_name (name_value es) ≡ Ok (all_pushed (map by_arcs es))

pub read_again : (params : ParamsView) → NameIsRead → NamesAreRead → BitsAreSet → list_all is_held params.distinguished_name ≡ true
    → list_all is_held_name params.subject_alt_names ≡ true → IsShort params.is_ca → WrittenIsRead params
read_again params name names set held held_names short none key there accepts der rest written =
    let c : CertificationRequest = written.0 in
    let r : RequestsAs params key [] (IsAccepted accepts key) c der = written.1 in
    let p : HasParts r.form.1 c =
    parts_of r.form.1 c (element_of_encodable r.form.0 r.form.1 r.form.3) (certification_request.again c r.form.0 r.form.1 r.form.2 r.form.3) in
    let found : AreFound c.info.attributes (request_rows params) = attributes_found c.info.attributes (request_rows params) r.info.attributes in
    let v : ReceivedRequest = record { request = c; signed = octets_of p; extensions = found.list } in
    let octets : c.info.subject_public_key_info.subject_public_key.bytes ≡ key.octets =
    ap (λ (x : SubjectPublicKeyInfo). x.subject_public_key.bytes) r.info.subject_key in
    and_then_is (ok_or (received_at (der ++ rest)) not_request) _ v (Ok (read_back params key))
    (ap (λ (o : Option ReceivedRequest). ok_or o not_request)
    (receives c der rest found.list r.form p found.are_found (unused_are c key r.info.subject_key r.no_unused_bits)))
    (and_then_is (verified accepts v) _ tt (Ok (read_back params key)) (says_yes accepts v (accepted params key accepts c der r p))
    (and_then_is (ok_or (algorithm_of c) unsupported_algorithm) _ key.algorithm (Ok (read_back params key))
    (ap (λ (o : Option SignatureAlgorithm). ok_or o unsupported_algorithm)
    (finds c key.algorithm key.octets r.signature_algorithm r.info.subject_key there))
    (and_then_is (read_name c.info.subject) _ (all_pushed (map by_arcs params.distinguished_name)) (Ok (read_back params key))
    (ap read_name r.info.subject_name ∙ name params.distinguished_name held)
    (and_then_is (read_extensions found.list) _ (asked_by params) (Ok (read_back params key))
    (all_asked params set names held_names short found.list (found.rows_are ∙ requested_are params none))
    (rw octets refl)))))
