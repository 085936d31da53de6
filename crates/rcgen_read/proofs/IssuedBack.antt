-- What is issued for a request that was read has its key and its subject.
use Rattle.std.specs.Prelude.{◌≡◌, ℕ, Bool, true, false, not, ◌&&◌, ◌||◌, ◌==◌, cond, List, [], ◌∷◌, Option, Some, None, Ok, find, nat_eq, ok_or}
use Rattle.std.specs.Prelude.{refl}
use Rattle.std.specs.Cmp.Lexicographic.{pointwise, same_text}
use Rattle.std.specs.Option.{option_eq}
use Rattle.std.proofs.Common.{ap, subst, sym, ◌∙◌}
use Rattle.std.proofs.lemmas.Bool.{eqb-true}
use Rattle.std.proofs.lemmas.List.{append-nil}
use Rattle.asn1_core.specs.Binds.{and_true, bind_is, bind_some, kept_unless, some_is}
use Rattle.asn1_core.specs.Bits.{Bits, bits}
use Rattle.der_tree.specs.Element.{Element, element_octets}
use Rattle.der_tree.specs.Form.{IsDerOf}
use Rattle.pkix_cert.specs.Algorithms.{subject_public_key_info}
use Rattle.pkix_cert.specs.Certificates.{certificate}
use Rattle.pkix_cert.specs.Requests.{certification_request}
use Rattle.pkix_cert.specs.declared.algorithm.AlgorithmIdentifier.{AlgorithmIdentifier}
use Rattle.pkix_cert.specs.declared.algorithm.SubjectPublicKeyInfo.{SubjectPublicKeyInfo}
use Rattle.pkix_cert.specs.declared.request.CertificationRequest.{CertificationRequest}
use Rattle.pkix_name.specs.Names.{name}
use Rattle.pkix_name.specs.declared.name.Name.{Name}
use Rattle.rcgen_text.specs.Causes.{Cause, not_request, unsupported_algorithm}
use Rattle.rcgen_text.specs.Names.{Entry}
use Rattle.rcgen_sign.specs.Algorithms.{key_algorithm_value, signature_arcs}
use Rattle.rcgen_sign.specs.Keys.{Key, key_of_parts}
use Rattle.rcgen_sign.specs.Listed.{listed, same_key_algorithm}
use Rattle.rcgen_sign.specs.declared.sign_algo.SignatureAlgorithm.{SignatureAlgorithm}
use Rattle.rcgen_certificate.specs.KeyValues.{key_algorithm, key_value}
use Rattle.rcgen_certificate.specs.NameValues.{name_value}
use Rattle.rcgen_read.specs.ExtensionReading.{read_extensions}
use Rattle.rcgen_read.specs.NameReading.{read_name}
use Rattle.rcgen_read.specs.ReceivedRequests.{ReceivedRequest, child, front_at, has_unused_bits, received_at, requested_extensions, signed_octets}
use Rattle.rcgen_read.specs.NamesReadBack.{HasDistinctOids}
use Rattle.rcgen_read.specs.RequestLaws.{IssuedAsRequested, StandsAt}
use Rattle.rcgen_read.specs.RequestReading.{Accepts, ReadRequest, algorithm_of, key_algorithm_of, read_request, read_request_of, verified}
use Rattle.rcgen_read.proofs.EachRead.{and_then_ok}
use Rattle.rcgen_read.proofs.CertificateParts.{certificate_parts}
use Rattle.der_tree.proofs.FormLaws.{same_form}
use Rattle.rcgen_read.proofs.ReadParts.{form_in_front, front_encodable}
use Rattle.rcgen_read.proofs.RequestParts.{parts_of}

found_ok : {A : Type 0} (o : Option A) (c : Cause) (x : A) → ok_or o c ≡ Ok x → o ≡ Some x
found_ok (Some y) c x e = cc
found_ok None c x e = absurd cc

-- ---- the algorithm that is found has the identifier of the key

found_step : {A : Type 0} (p : A → Bool) (x : A) (after : Option A) (y : A) (b : Bool) → p x ≡ b → (after ≡ Some y → p y ≡ true)
    → cond b (Some x) after ≡ Some y → p y ≡ true
found_step {A} p x after y true t later e = subst (λ (z : A). p z ≡ true) (some_is x y e) t
found_step p x after y false t later e = later e

found_passes : {A : Type 0} (p : A → Bool) (xs : List A) (y : A) → find p xs ≡ Some y → p y ≡ true
found_passes p [] y e = absurd cc
found_passes p (x ∷ xs) y e = found_step p x (find p xs) y (p x) refl (found_passes p xs y) e

same_parameters : (o p : Option (List ℕ)) → option_eq (pointwise nat_eq) o p ≡ true → o ≡ p
same_parameters None None e = refl
same_parameters None (Some b) e = absurd cc
same_parameters (Some a) None e = absurd cc
same_parameters (Some a) (Some b) e = ap Some (same_text a b (sym e))

abbrev identifier : List ℕ → Option (List ℕ) → AlgorithmIdentifier
identifier arcs parameters = record { algorithm = arcs; parameters = parameters }

named_so : (a : SignatureAlgorithm) (id : AlgorithmIdentifier) → same_key_algorithm (key_algorithm_value a) (key_algorithm_of id) ≡ true → key_algorithm a ≡ id
named_so a id e =
    let h = and_true (pointwise nat_eq (key_algorithm a).algorithm id.algorithm) (option_eq (pointwise nat_eq) (key_algorithm a).parameters id.parameters) e in
    ap (λ (arcs : List ℕ). identifier arcs (key_algorithm a).parameters) (same_text (key_algorithm a).algorithm id.algorithm (sym h.0))
    ∙ ap (identifier id.algorithm) (same_parameters (key_algorithm a).parameters id.parameters h.1)

algorithm_is : (r : CertificationRequest) (a : SignatureAlgorithm) → algorithm_of r ≡ Some a → key_algorithm a ≡ r.info.subject_public_key_info.algorithm
unfolding algorithm_of
algorithm_is r a e =
    let id = r.info.subject_public_key_info.algorithm in
    let arcs = r.signature_algorithm.algorithm in
    let h = found_passes
    (λ (x : SignatureAlgorithm). pointwise nat_eq (signature_arcs x) arcs && same_key_algorithm (key_algorithm_value x) (key_algorithm_of id)) listed a e in
    named_so a id (and_true (pointwise nat_eq (signature_arcs a) arcs) (same_key_algorithm (key_algorithm_value a) (key_algorithm_of id)) h).1

-- ---- no bits are unused

none_unused : (a b : Bool) → (not a || not b) ≡ false → (a ≡ true) × (b ≡ true)
none_unused true true e = (refl, refl)
none_unused true false e = absurd cc
none_unused false b e = absurd cc

abbrev info_of : AlgorithmIdentifier → Bits → SubjectPublicKeyInfo
info_of a b = record { algorithm = a; subject_public_key = b }

key_back : (r : CertificationRequest) (a : SignatureAlgorithm) → algorithm_of r ≡ Some a → has_unused_bits r ≡ false
    → key_value a r.info.subject_public_key_info.subject_public_key.bytes ≡ r.info.subject_public_key_info
key_back r a e none =
    let info = r.info.subject_public_key_info in
    let unused = eqb-true info.subject_public_key.unused 0
    (none_unused (info.subject_public_key.unused == 0) (r.signature.unused == 0) none).0 in
    ap (λ (x : AlgorithmIdentifier). info_of x (bits 0 info.subject_public_key.bytes)) (algorithm_is r a e)
    ∙ ap (λ (n : ℕ). info_of info.algorithm (bits n info.subject_public_key.bytes)) (sym unused)

-- ---- what was received

pub record IsReceived (der : List ℕ) (v : ReceivedRequest) : Type 0 where
  pub element : Element
  pub front : front_at der ≡ Some element
  pub is_request : certification_request.read_of element ≡ Some v.request
  pub none_unused : has_unused_bits v.request ≡ false

pub received : (der : List ℕ) (v : ReceivedRequest) → received_at der ≡ Some v → IsReceived der v
unfolding received_at
received der v e =
    let s = bind_some (front_at der) _ v e in
    let r = bind_some (certification_request.read_of s.0) _ v s.2 in
    let o = bind_some (signed_octets s.0) _ v r.2 in
    let x = bind_some (requested_extensions r.0.info.attributes) _ v o.2 in
    let made : ReceivedRequest = record { request = r.0; signed = o.0; extensions = x.0 } in
    let k = kept_unless (has_unused_bits r.0) (Some made) v x.2 in
    let same = some_is made v k.1 in
    record {
      element = s.0;
      front = s.1;
      is_request = r.1 ∙ ap (λ (z : ReceivedRequest). Some z.request) same;
      none_unused = subst (λ (z : ReceivedRequest). has_unused_bits z.request ≡ false) same k.0;
    }

-- ---- what was read of it

pub record IsRead (v : ReceivedRequest) (read : ReadRequest) : Type 0 where
  pub algorithm : SignatureAlgorithm
  pub found : algorithm_of v.request ≡ Some algorithm
  pub key : key_of_parts algorithm v.request.info.subject_public_key_info.subject_public_key.bytes ≡ read.key
  pub name : read_name v.request.info.subject ≡ Ok read.name

steps : (accepts : Accepts) (der : List ℕ) (v : ReceivedRequest) (read : ReadRequest) → received_at der ≡ Some v
    → read_request accepts der ≡ Ok read → IsRead v read
steps accepts der v read h e =
    let w = and_then_ok (ok_or (received_at der) not_request) _ read e in
    let same : w.0 ≡ v = some_is w.0 v (sym (found_ok (received_at der) not_request w.0 w.1) ∙ h) in
    let u = and_then_ok (verified accepts w.0) _ read w.2 in
    let a = and_then_ok (ok_or (algorithm_of w.0.request) unsupported_algorithm) _ read u.2 in
    let n = and_then_ok (read_name w.0.request.info.subject) _ read a.2 in
    let x = and_then_ok (read_extensions w.0.extensions) _ read n.2 in
    let made : read_request_of w.0 a.0 n.0 x.0 ≡ read = cc in
    subst (λ (z : ReceivedRequest). IsRead z read) same
    (record {
      algorithm = a.0;
      found = found_ok (algorithm_of w.0.request) unsupported_algorithm a.0 a.1;
      key = ap (λ (z : ReadRequest). z.key) made;
      name = n.1 ∙ ap (λ (z : ReadRequest). Ok z.name) made;
    })

-- ---- the law

-- names are written back as they were
abbrev pub WrittenBack : Type 0
WrittenBack = (n : Name) (es : List Entry) → read_name n ≡ Ok es → HasDistinctOids n → name_value es ≡ n

-- a part of the element at the start
stands_at : (bytes octets : List ℕ) (place : ℕ) (s signed part : Element) → front_at bytes ≡ Some s → child 0 s ≡ Some signed
    → child place signed ≡ Some part → octets ≡ element_octets part → StandsAt bytes place octets
stands_at bytes octets place s signed part e f g h = (signed, part, bind_is (front_at bytes) (child 0) s (Some signed) e f, g, h)

pub issued_back : WrittenBack → IssuedAsRequested
issued_back written accepts der read v params issuer c issued e h p i form =
    let w = received der v h in
    let r = steps accepts der v read h e in
    let parts = parts_of w.element v.request (front_encodable der w.element w.front) w.is_request in
    let there = certificate_parts form.1 c (certificate.again c form.0 form.1 form.2 form.3) i.to_be_signed.version in
    let front : front_at issued ≡ Some form.1 = ap front_at (sym (append-nil issued)) ∙ form_in_front certificate c issued [] form in
    let key : c.tbs_certificate.subject_public_key_info ≡ v.request.info.subject_public_key_info =
    i.to_be_signed.subject_key ∙ ap (λ (k : Key). key_value k.algorithm k.octets) (sym r.key) ∙ key_back v.request r.algorithm r.found w.none_unused in
    let subject : HasDistinctOids v.request.info.subject → c.tbs_certificate.subject ≡ v.request.info.subject =
    λ d. i.to_be_signed.subject_name ∙ ap name_value p.distinguished_name ∙ written v.request.info.subject read.name r.name d in
    record {
      key_info = key;
      key_octets = element_octets parts.key_info;
      key_requested = stands_at der (element_octets parts.key_info) 2 w.element parts.info parts.key_info w.front parts.info_at parts.key_info_at refl;
      key_issued = stands_at issued (element_octets parts.key_info) 6 form.1 there.signed there.key_info front there.signed_at there.key_info_at
          (same_form subject_public_key_info v.request.info.subject_public_key_info (element_octets parts.key_info) (element_octets there.key_info)
          parts.key_info_form
          (subst (λ (z : SubjectPublicKeyInfo). IsDerOf subject_public_key_info z (element_octets there.key_info)) key there.key_info_form));
      subject = subject;
      subject_octets = element_octets parts.subject;
      subject_requested = stands_at der (element_octets parts.subject) 1 w.element parts.info parts.subject w.front parts.info_at parts.subject_at refl;
      subject_issued = λ d. stands_at issued (element_octets parts.subject) 5 form.1 there.signed there.subject front there.signed_at there.subject_at
          (same_form name v.request.info.subject (element_octets parts.subject) (element_octets there.subject) parts.subject_form
          (subst (λ (z : Name). IsDerOf name z (element_octets there.subject)) (subject d) there.subject_form));
    }
