-- Values that were read have trees, and so has what is put together of their parts.
use Rattle.std.specs.Prelude.{◌≡◌, ℕ, Bool, true, ◌&&◌, List, Option, Some, None, is_ok, refl}
use Rattle.std.specs.Option.{option_map, option_or}
use Rattle.std.proofs.Common.{ap, subst, ◌∙◌}
use Rattle.asn1_core.specs.Binds.{and_true, some_is}
use Rattle.asn1_core.specs.Bits.{Bits, bits}
use Rattle.asn1_core.specs.Twos.{is_shortest}
use Rattle.der_tree.proofs.FormLaws.{value_there}
use Rattle.der_tree.specs.AnyElement.{is_one}
use Rattle.der_tree.specs.Codec.{Codec}
use Rattle.der_tree.specs.Form.{IsDerOf, value_of}
use Rattle.der_tree.specs.Grammar.{any}
use Rattle.der_tree.specs.HasTree.{HasTree}
use Rattle.der_tree.specs.PrimitiveTypes.{bit_string, integer}
use Rattle.pkix_attr.specs.Certificates.{attribute_certificate_info, attribute_certificate_info_fields, attribute_certificate_version}
use Rattle.pkix_attr.specs.Holders.{holder, issuer}
use Rattle.pkix_attr.specs.declared.certificate.AttributeCertificateInfo.{AttributeCertificateInfo}
use Rattle.pkix_cert.specs.Algorithms.{algorithm_identifier}
use Rattle.pkix_cert.specs.Certificates.{certificate as certificate_codec, certificate_fields, tbs_certificate, tbs_certificate_fields}
use Rattle.pkix_cert.specs.Revocations.{tbs_cert_list, tbs_cert_list_fields}
use Rattle.pkix_cert.specs.Times.{validity as validity_codec}
use Rattle.pkix_cert.specs.declared.algorithm.AlgorithmIdentifier.{AlgorithmIdentifier}
use Rattle.pkix_cert.specs.declared.certificate.Certificate.{Certificate}
use Rattle.pkix_cert.specs.declared.certificate.TbsCertificate.{TbsCertificate}
use Rattle.pkix_cert.specs.declared.revocation.TbsCertList.{TbsCertList}
use Rattle.pkix_cert.specs.declared.time.Validity.{Validity}
use Rattle.rcgen_certificate.proofs.SignedOctets.{form_is_one}
use Rattle.rcgen_certificate.specs.Signed.{signed, signed_fields, signed_value}
use Rattle.rcgen_sign.proofs.AlgorithmLemmas.{no_unused}
use Rattle.register_steps.specs.Messages.{algorithm_in}
use Rattle.register_steps.specs.SignedOctets.{signed_octets, signed_octets_fields}

form_has_tree : {A : Type 0} (c : Codec A) (v : A) (b : List ℕ) → IsDerOf c v b → HasTree c v
form_has_tree c v b h = c.has_tree_is v ∙ ap is_ok h.2

read_has_tree : {A : Type 0} (c : Codec A) (b : List ℕ) (v : A) → value_of c b ≡ Some v → HasTree c v
read_has_tree c b v e = form_has_tree c v b (value_there c b v e)

read_is_one : {A : Type 0} (c : Codec A) (b : List ℕ) (v : A) → value_of c b ≡ Some v → is_one b ≡ true
read_is_one c b v e = form_is_one c v b (value_there c b v e)

-- ---- the algorithm of a message

second_of : (a b c : Bool) → a && (b && c) ≡ true → b ≡ true
second_of a b c h = (and_true b c (and_true a (b && c) h).1).0

third_of : (a b c d : Bool) → a && (b && (c && d)) ≡ true → c ≡ true
third_of a b c d h = second_of b c d (and_true a (b && (c && d)) h).1

fourth_of : (a b c d e : Bool) → a && (b && (c && (d && e))) ≡ true → d ≡ true
fourth_of a b c d e h = third_of b c d e (and_true a (b && (c && (d && e))) h).1

of_certificate : (t : TbsCertificate) → HasTree tbs_certificate t → HasTree algorithm_identifier t.signature
unfolding tbs_certificate_fields
of_certificate t h = third_of _ _ (algorithm_identifier.has_tree t.signature) _ h

of_attribute : (i : AttributeCertificateInfo) → HasTree attribute_certificate_info i → HasTree algorithm_identifier i.signature
unfolding attribute_certificate_info_fields
of_attribute i h =
    fourth_of (attribute_certificate_version.has_tree i.version) (holder.has_tree i.holder) (issuer.has_tree i.issuer) (algorithm_identifier.has_tree i.signature) _ h

of_list : (t : TbsCertList) → HasTree tbs_cert_list t → HasTree algorithm_identifier t.signature
unfolding tbs_cert_list_fields
of_list t h = second_of _ (algorithm_identifier.has_tree t.signature) _ h

abbrev signature_of : Option TbsCertificate → Option AttributeCertificateInfo → Option TbsCertList → Option AlgorithmIdentifier
signature_of o p q = option_or (option_map (λ t. t.signature) o) (option_or (option_map (λ i. i.signature) p) (option_map (λ t. t.signature) q))

has_algorithm : (m : List ℕ) (o : Option TbsCertificate) (p : Option AttributeCertificateInfo) (q : Option TbsCertList) (a : AlgorithmIdentifier)
    → value_of tbs_certificate m ≡ o → value_of attribute_certificate_info m ≡ p → value_of tbs_cert_list m ≡ q → signature_of o p q ≡ Some a
    → (is_one m ≡ true) × HasTree algorithm_identifier a
has_algorithm m (Some t) p q a e f g h = (
  read_is_one tbs_certificate m t e,
  subst (λ (x : AlgorithmIdentifier). HasTree algorithm_identifier x) (some_is t.signature a h) (of_certificate t (read_has_tree tbs_certificate m t e)),
)
has_algorithm m None (Some i) q a e f g h = (
  read_is_one attribute_certificate_info m i f,
  subst (λ (x : AlgorithmIdentifier). HasTree algorithm_identifier x) (some_is i.signature a h) (of_attribute i (read_has_tree attribute_certificate_info m i f)),
)
has_algorithm m None None (Some t) a e f g h = (
  read_is_one tbs_cert_list m t g,
  subst (λ (x : AlgorithmIdentifier). HasTree algorithm_identifier x) (some_is t.signature a h) (of_list t (read_has_tree tbs_cert_list m t g)),
)
has_algorithm m None None None a e f g h = absurd cc

-- a message is one element, and the algorithm that it names has a tree
named : (m : List ℕ) (a : AlgorithmIdentifier) → algorithm_in m ≡ Some a → (is_one m ≡ true) × HasTree algorithm_identifier a
unfolding algorithm_in
named m a h = has_algorithm m (value_of tbs_certificate m) (value_of attribute_certificate_info m) (value_of tbs_cert_list m) a refl refl refl h

pub algorithm_has_tree : (m : List ℕ) (a : AlgorithmIdentifier) → algorithm_in m ≡ Some a → HasTree algorithm_identifier a
algorithm_has_tree m a h = (named m a h).1

-- ---- what is sealed

parts_have_tree : (m : List ℕ) (a : AlgorithmIdentifier) (s : Bits) → is_one m ≡ true → HasTree algorithm_identifier a → HasTree bit_string s
    → HasTree signed_octets (record { to_be_signed = m; algorithm = a; signature = s })
unfolding signed_octets_fields
parts_have_tree m a s one h k = rw (one, h, k) refl

pub sealed_has_tree : (m : List ℕ) (a : AlgorithmIdentifier) (s : List ℕ) → algorithm_in m ≡ Some a
    → HasTree signed_octets (record { to_be_signed = m; algorithm = a; signature = bits 0 s })
sealed_has_tree m a s h = let n = named m a h in parts_have_tree m a (bits 0 s) n.0 n.1 (no_unused s)

-- the fields are the same, so the octets are
pub as_signed : (m : List ℕ) (a : AlgorithmIdentifier) (s : Bits) (der : List ℕ)
    → IsDerOf signed_octets (record { to_be_signed = m; algorithm = a; signature = s }) der → IsDerOf (signed any) (signed_value m a s) der
unfolding signed_octets_fields signed_fields
as_signed m a s der h = h

pub as_octets : (m : List ℕ) (a : AlgorithmIdentifier) (s : Bits) (der : List ℕ) → IsDerOf (signed any) (signed_value m a s) der
    → IsDerOf signed_octets (record { to_be_signed = m; algorithm = a; signature = s }) der
unfolding signed_octets_fields signed_fields
as_octets m a s der h = h

-- ---- what is renewed

of_whole : (c : Certificate) → HasTree certificate_codec c → HasTree tbs_certificate c.tbs_certificate
unfolding certificate_fields
of_whole c h = (and_true (tbs_certificate.has_tree c.tbs_certificate) _ h).0

-- two parts are others
replaced : (a b c d e f x y : Bool) → a && (b && (c && (d && (e && f)))) ≡ true → x ≡ true → y ≡ true → a && (x && (c && (d && (y && f)))) ≡ true
replaced a b c d e f x y h k l =
    let p = and_true a (b && (c && (d && (e && f)))) h in
    let q = and_true b (c && (d && (e && f))) p.1 in
    let r = and_true c (d && (e && f)) q.1 in
    let s = and_true d (e && f) r.1 in
    let t = and_true e f s.1 in
    rw (p.0, r.0, s.0, t.1, k, l) refl

with_validity : (t : TbsCertificate) (serial : List ℕ) (v : Validity) → HasTree tbs_certificate t → HasTree integer serial → HasTree validity_codec v
    → HasTree tbs_certificate (record t { serial_number = serial; validity = v })
unfolding tbs_certificate_fields
with_validity t serial v h k l = replaced _ (integer.has_tree t.serial_number) _ _ (validity_codec.has_tree t.validity) _ (integer.has_tree serial) (validity_codec.has_tree v) h k l

pub renewed_has_tree : (certificate : List ℕ) (c : Certificate) (serial : List ℕ) (v : Validity) → value_of certificate_codec certificate ≡ Some c
    → is_shortest serial ≡ true → HasTree validity_codec v → HasTree tbs_certificate (record (c.tbs_certificate) { serial_number = serial; validity = v })
renewed_has_tree certificate c serial v e k l =
    with_validity c.tbs_certificate serial v (of_whole c (read_has_tree certificate_codec certificate c e)) k l
