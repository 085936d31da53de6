-- The parts of a request that was read (RFC 2986, 4).
use Rattle.std.specs.Prelude.{◌≡◌, true, List, [], ◌∷◌, Some, None, refl}
use Rattle.std.proofs.Common.{ap, subst, ◌∙◌}
use Rattle.asn1_core.specs.Binds.{bind_is, bind_some, some_is}
use Rattle.der_tree.proofs.ReadFields.{all_children, encodable_at, fields_are, first_is, form_of_read}
use Rattle.der_tree.specs.Element.{Element, children_of, element_octets, is_encodable}
use Rattle.der_tree.specs.Form.{IsDerOf}
use Rattle.der_tree.specs.Grammar.{implicitly, required, set_of, ◌&◌}
use Rattle.der_tree.specs.PrimitiveTypes.{bit_string}
use Rattle.der_tree.specs.Tags.{context, universal}
use Rattle.pkix_name.specs.Names.{name, attribute}
use Rattle.pkix_cert.specs.Algorithms.{algorithm_identifier, subject_public_key_info}
use Rattle.pkix_cert.specs.Requests.{certification_request, certification_request_fields, certification_request_info}
use Rattle.pkix_cert.specs.Requests.{certification_request_info_fields}
use Rattle.pkix_cert.specs.Versions.{version}
use Rattle.pkix_cert.specs.declared.request.CertificationRequest.{CertificationRequest}
use Rattle.pkix_cert.specs.declared.request.CertificationRequestInfo.{CertificationRequestInfo}
use Rattle.rcgen_read.specs.ReceivedRequests.{SignedOctets, child, signed_octets}
use Rattle.rcgen_read.proofs.ReadParts.{child_is}

-- the elements of the parts, at their places
pub record HasParts (s : Element) (r : CertificationRequest) : Type 0 where
  pub info : Element
  pub algorithm : Element
  pub subject : Element
  pub key_info : Element
  pub info_at : child 0 s ≡ Some info
  pub algorithm_at : child 1 s ≡ Some algorithm
  pub subject_at : child 1 info ≡ Some subject
  pub key_info_at : child 2 info ≡ Some key_info
  pub info_form : IsDerOf certification_request_info r.info (element_octets info)
  pub algorithm_form : IsDerOf algorithm_identifier r.signature_algorithm (element_octets algorithm)
  pub subject_form : IsDerOf name r.info.subject (element_octets subject)
  pub key_info_form : IsDerOf subject_public_key_info r.info.subject_public_key_info (element_octets key_info)

-- the parts of a request: its info and the algorithm
record HasOuter (s : Element) (r : CertificationRequest) : Type 0 where
  info : Element
  algorithm : Element
  info_at : child 0 s ≡ Some info
  algorithm_at : child 1 s ≡ Some algorithm
  info_read : certification_request_info.read_of info ≡ Some r.info
  info_encodable : is_encodable info ≡ true
  algorithm_form : IsDerOf algorithm_identifier r.signature_algorithm (element_octets algorithm)

record HasInner (s : Element) (i : CertificationRequestInfo) : Type 0 where
  subject : Element
  key_info : Element
  subject_at : child 1 s ≡ Some subject
  key_info_at : child 2 s ≡ Some key_info
  subject_form : IsDerOf name i.subject (element_octets subject)
  key_info_form : IsDerOf subject_public_key_info i.subject_public_key_info (element_octets key_info)

outer : (s : Element) (r : CertificationRequest) → certification_request.read_of s ≡ Some r → HasOuter s r
unfolding certification_request_fields
outer s r e =
    let f = fields_are (universal 16) certification_request_fields s r e in
    let x = bind_some ((required certification_request_info & required algorithm_identifier & required bit_string).get f.0) _ (r, []) f.2 in
    let same = some_is _ (r, []) x.2 in
    let one = first_is certification_request_info (required algorithm_identifier & required bit_string) f.0 x.0.0 x.0.1 x.1 in
    let two = first_is algorithm_identifier (required bit_string) one.1 x.0.0.1 x.0.1 one.4 in
    let all : f.0 ≡ one.0 ∷ two.0 ∷ two.1 = one.2 ∙ ap (λ (ss : List Element). one.0 ∷ ss) two.2 in
    let at : children_of s ≡ Some (one.0 ∷ two.0 ∷ two.1) = f.1 ∙ ap (λ (ss : List Element). Some ss) all in
    let fine = all_children s (one.0 ∷ two.0 ∷ two.1) at in
    record {
      info = one.0;
      algorithm = two.0;
      info_at = child_is 0 s (one.0 ∷ two.0 ∷ two.1) one.0 at refl;
      algorithm_at = child_is 1 s (one.0 ∷ two.0 ∷ two.1) two.0 at refl;
      info_read = one.3 ∙ ap (λ (p : CertificationRequest × List Element). Some p.0.info) same;
      info_encodable = encodable_at (one.0 ∷ two.0 ∷ two.1) 0 one.0 fine refl;
      algorithm_form = subst (λ (p : CertificationRequest × List Element). IsDerOf algorithm_identifier p.0.signature_algorithm (element_octets two.0)) same
          (form_of_read algorithm_identifier two.0 x.0.0.1.0 (encodable_at (one.0 ∷ two.0 ∷ two.1) 1 two.0 fine refl) two.3);
    }

inner : (s : Element) (i : CertificationRequestInfo) → certification_request_info.read_of s ≡ Some i → HasInner s i
unfolding certification_request_info_fields
inner s i e =
    let attributes = required (implicitly (context 0) (set_of attribute 0 None [] refl) refl) in
    let f = fields_are (universal 16) certification_request_info_fields s i e in
    let x = bind_some ((required version & required name & required subject_public_key_info & attributes).get f.0) _ (i, []) f.2 in
    let same = some_is _ (i, []) x.2 in
    let one = first_is version (required name & required subject_public_key_info & attributes) f.0 x.0.0 x.0.1 x.1 in
    let two = first_is name (required subject_public_key_info & attributes) one.1 x.0.0.1 x.0.1 one.4 in
    let three = first_is subject_public_key_info attributes two.1 x.0.0.1.1 x.0.1 two.4 in
    let all : f.0 ≡ one.0 ∷ two.0 ∷ three.0 ∷ three.1 =
    one.2 ∙ ap (λ (ss : List Element). one.0 ∷ ss) two.2 ∙ ap (λ (ss : List Element). one.0 ∷ two.0 ∷ ss) three.2 in
    let at : children_of s ≡ Some (one.0 ∷ two.0 ∷ three.0 ∷ three.1) = f.1 ∙ ap (λ (ss : List Element). Some ss) all in
    let all_fine = all_children s (one.0 ∷ two.0 ∷ three.0 ∷ three.1) at in
    record {
      subject = two.0;
      key_info = three.0;
      subject_at = child_is 1 s (one.0 ∷ two.0 ∷ three.0 ∷ three.1) two.0 at refl;
      key_info_at = child_is 2 s (one.0 ∷ two.0 ∷ three.0 ∷ three.1) three.0 at refl;
      subject_form = subst (λ (p : CertificationRequestInfo × List Element). IsDerOf name p.0.subject (element_octets two.0)) same
          (form_of_read name two.0 x.0.0.1.0 (encodable_at (one.0 ∷ two.0 ∷ three.0 ∷ three.1) 1 two.0 all_fine refl) two.3);
      key_info_form = subst (λ (p : CertificationRequestInfo × List Element). IsDerOf subject_public_key_info p.0.subject_public_key_info
          (element_octets three.0)) same
          (form_of_read subject_public_key_info three.0 x.0.0.1.1.0 (encodable_at (one.0 ∷ two.0 ∷ three.0 ∷ three.1) 2 three.0 all_fine refl) three.3);
    }

pub parts_of : (s : Element) (r : CertificationRequest) → is_encodable s ≡ true → certification_request.read_of s ≡ Some r → HasParts s r
parts_of s r h e =
    let o = outer s r e in
    let i = inner o.info r.info o.info_read in
    record {
      info = o.info;
      algorithm = o.algorithm;
      subject = i.subject;
      key_info = i.key_info;
      info_at = o.info_at;
      algorithm_at = o.algorithm_at;
      subject_at = i.subject_at;
      key_info_at = i.key_info_at;
      info_form = form_of_read certification_request_info o.info r.info o.info_encodable o.info_read;
      algorithm_form = o.algorithm_form;
      subject_form = i.subject_form;
      key_info_form = i.key_info_form;
    }

-- ---- the octets of these parts

abbrev pub octets_of : {s : Element} {r : CertificationRequest} → HasParts s r → SignedOctets
octets_of p = record { info = element_octets p.info; key_info = element_octets p.key_info; algorithm = element_octets p.algorithm }

pub signed_are : (s : Element) (r : CertificationRequest) (p : HasParts s r) → signed_octets s ≡ Some (octets_of p)
unfolding signed_octets
signed_are s r p =
    bind_is (child 0 s) _ p.info (Some (octets_of p)) p.info_at
    (bind_is (child 1 s) _ p.algorithm (Some (octets_of p)) p.algorithm_at (bind_is (child 2 p.info) _ p.key_info (Some (octets_of p)) p.key_info_at refl))
