-- What is signed in a certificate of version 3 begins with that (RFC 5280, 4.1.2.1).
use Rattle.std.specs.Prelude.{List, Ok, None, Option, Some, false, flat_map, nat_eq, refl, true, ℕ, [], ◌++◌, ◌∷◌, ◌≡◌}
use Rattle.std.specs.List.{starts_with}
use Rattle.std.proofs.Common.{ap, sym, ◌∙◌}
use Rattle.asn1_core.specs.Base128.{digits}
use Rattle.asn1_core.specs.Binds.{bind_some, some_is}
use Rattle.asn1_core.specs.Twos.{integer_contents}
use Rattle.asn1_core.specs.Unsigned.{unsigned_64_contents}
use Rattle.der_tree.specs.Default.{unless_default}
use Rattle.der_tree.specs.Element.{Element, element_octets, identifier_octets, length_octets, one_element}
use Rattle.der_tree.specs.Form.{IsDerOf}
use Rattle.der_tree.specs.Grammar.{◌⊗◌}
use Rattle.der_tree.specs.Results.{ok_then}
use Rattle.der_tree.specs.Tags.{context, universal}
use Rattle.der_tree.specs.Tree.{PlainTree, leaf, node, row}
use Rattle.der_tree.specs.TreeElement.{checked, element_of, elements_of}
use Rattle.der_tree.specs.laws.Element.{one_element_again}
use Rattle.der_tree.specs.laws.Results.{ok_is, ok_then_ok}
use Rattle.der_tree.specs.laws.TreeElement.{checked_some, element_of_encodable, elements_of_split}
use Rattle.pkix_cert.specs.Certificates.{tbs_certificate, tbs_certificate_fields}
use Rattle.pkix_cert.specs.Versions.{v3}
use Rattle.pkix_cert.specs.Views.{CertificateParts}
use Rattle.pkix_cert.specs.declared.certificate.TbsCertificate.{TbsCertificate}
use Rattle.pkix_cert.proofs.SignedFields.{Signed, signed_fields, versioned}
use Rattle.path_validation.specs.Certificates.{is_version_3, version_3}

abbrev version_node : PlainTree
version_node = node (context 0) (row (leaf (universal 2) (2 ∷ []) ∷ []))

abbrev version_element : Element
version_element = record { tag = context 0; constructed = true; content = 2 ∷ 1 ∷ 2 ∷ [] }

version_put : versioned.put v3 ≡ Ok (version_node ∷ [])
unfolding unless_default integer_contents unsigned_64_contents
version_put = refl

version_elements : elements_of (version_node ∷ []) ≡ Some (version_element ∷ [])
unfolding element_octets identifier_octets length_octets digits
version_elements = refl

in_front : (rest : List Element) → starts_with nat_eq (flat_map element_octets (version_element ∷ rest)) version_3 ≡ true
unfolding element_octets identifier_octets length_octets digits
in_front rest = refl

abbrev after_version : TbsCertificate → Signed
after_version t =
    t.serial_number ⊗ t.signature ⊗ t.issuer ⊗ t.validity ⊗ t.subject ⊗ t.subject_public_key_info ⊗ t.issuer_unique_id ⊗ t.subject_unique_id ⊗ t.extensions

abbrev around : List Element → Element
around ss = record { tag = universal 16; constructed = true; content = flat_map element_octets ss }

content_begins : (t : TbsCertificate) (b : List ℕ) (h : IsDerOf tbs_certificate t b) → t.version ≡ v3 → starts_with nat_eq h.1.content version_3 ≡ true
unfolding tbs_certificate_fields
content_begins t b h third =
    let x = ok_then_ok (tbs_certificate_fields.fields.put t) (λ ts. Ok (node (universal 16) (row ts))) h.0 h.2 in
    let y = bind_some (elements_of x.0) (λ ss. checked (around ss)) h.1 (ap element_of (ok_is (node (universal 16) (row x.0)) h.0 x.2) ∙ h.3) in
    let p = ok_then_ok (versioned.put t.version) (λ a. ok_then (signed_fields.put (after_version t)) (λ b. Ok (a ++ b))) x.0 x.1 in
    let q = ok_then_ok (signed_fields.put (after_version t)) (λ b. Ok (p.0 ++ b)) x.0 p.2 in
    let z = elements_of_split p.0 q.0 y.0 (ap elements_of (ok_is (p.0 ++ q.0) x.0 q.2) ∙ y.1) in
    let tree : version_node ∷ [] ≡ p.0 = ok_is (version_node ∷ []) p.0 (sym version_put ∙ ap versioned.put (sym third) ∙ p.1) in
    let first : version_element ∷ [] ≡ z.0 = some_is (version_element ∷ []) z.0 (sym version_elements ∙ ap elements_of tree ∙ z.2) in
    let all : y.0 ≡ version_element ∷ z.1 = z.4 ∙ ap (λ (f : List Element). f ++ z.1) (sym first) in
    let content : h.1.content ≡ flat_map element_octets y.0 = ap (λ (s : Element). s.content) (sym (checked_some (around y.0) h.1 y.2)) in
    ap (λ (c : List ℕ). starts_with nat_eq c version_3) (content ∙ ap (λ (ss : List Element). flat_map element_octets ss) all) ∙ in_front z.1

pub is_third : (t : TbsCertificate) (p : CertificateParts) → IsDerOf tbs_certificate t p.tbs → t.version ≡ v3 → is_version_3 p ≡ true
is_third t p h third =
    let one : one_element p.tbs ≡ Some h.1 = ap one_element h.4 ∙ one_element_again h.1 (element_of_encodable h.0 h.1 h.3) in
    ap (λ (o : Option Element). elim o [ None ↦ false | Some s ↦ starts_with nat_eq s.content version_3 ]) one ∙ content_begins t p.tbs h third
