-- The fields of what is signed in a certificate, as they are read (RFC 5280, 4.1).
use Rattle.std.specs.Prelude.{◌≡◌, ℕ, List, ◌∷◌, Option, Some, refl}
use Rattle.std.proofs.Common.{ap, ◌∙◌}
use Rattle.asn1_core.specs.Binds.{bind_some, some_is}
use Rattle.asn1_core.specs.Bits.{Bits}
use Rattle.der_tree.specs.Codec.{Codec, FieldsOf}
use Rattle.der_tree.specs.Element.{Element}
use Rattle.der_tree.specs.Grammar.{explicitly, implicitly, optional, required, with_default, ◌&◌}
use Rattle.der_tree.specs.PrimitiveTypes.{bit_string, integer}
use Rattle.der_tree.specs.Tags.{context}
use Rattle.der_tree.proofs.ReadFields.{first_is}
use Rattle.pkix_name.specs.Names.{name}
use Rattle.pkix_name.specs.declared.name.Name.{Name}
use Rattle.pkix_cert.specs.Algorithms.{algorithm_identifier, subject_public_key_info}
use Rattle.pkix_cert.specs.Certificates.{tbs_certificate_fields}
use Rattle.pkix_cert.specs.Extensions.{extensions}
use Rattle.pkix_cert.specs.Times.{validity}
use Rattle.pkix_cert.specs.Versions.{same_version, same_version_exact, v1, version}
use Rattle.pkix_cert.specs.declared.algorithm.AlgorithmIdentifier.{AlgorithmIdentifier}
use Rattle.pkix_cert.specs.declared.algorithm.SubjectPublicKeyInfo.{SubjectPublicKeyInfo}
use Rattle.pkix_cert.specs.declared.certificate.TbsCertificate.{TbsCertificate}
use Rattle.pkix_cert.specs.declared.certificate.Version.{Version}
use Rattle.pkix_cert.specs.declared.extension.Extensions.{Extensions}
use Rattle.pkix_cert.specs.declared.time.Validity.{Validity}

abbrev pub Identifiers : Type 0
Identifiers = Option Bits × (Option Bits × Option Extensions)

abbrev pub last_two : FieldsOf (Option Bits × Option Extensions)
last_two = optional (implicitly (context 2) bit_string refl) & optional (explicitly (context 3) extensions)

abbrev pub identifiers : FieldsOf Identifiers
identifiers = optional (implicitly (context 1) bit_string refl) & last_two

abbrev pub Signed : Type 0
Signed = List ℕ × (AlgorithmIdentifier × (Name × (Validity × (Name × (SubjectPublicKeyInfo × Identifiers)))))

abbrev pub of_signed : Version × Signed → TbsCertificate
of_signed v = record {
  version = v.0;
  serial_number = v.1.0;
  signature = v.1.1.0;
  issuer = v.1.1.1.0;
  validity = v.1.1.1.1.0;
  subject = v.1.1.1.1.1.0;
  subject_public_key_info = v.1.1.1.1.1.1.0;
  issuer_unique_id = v.1.1.1.1.1.1.1.0;
  subject_unique_id = v.1.1.1.1.1.1.1.1.0;
  extensions = v.1.1.1.1.1.1.1.1.1;
}

abbrev pub signed_fields : FieldsOf Signed
signed_fields =
    required integer & required algorithm_identifier & required name & required validity & required name & required subject_public_key_info & identifiers

abbrev pub versioned : FieldsOf Version
versioned = with_default (explicitly (context 0) version) same_version same_version_exact v1

abbrev tbs_get : List Element → Option ((Version × Signed) × List Element)
tbs_get ss = (versioned & signed_fields).get ss

pub signed_of : (ss : List Element) (t : TbsCertificate) (rest : List Element) → tbs_certificate_fields.fields.get ss ≡ Some (t, rest)
    → (v : Version × Signed) × ((versioned & signed_fields).get ss ≡ Some (v, rest)) × (of_signed v ≡ t)
unfolding tbs_certificate_fields
signed_of ss t rest e =
    let x = bind_some (tbs_get ss) (λ x. Some (of_signed x.0, x.1)) (t, rest) e in
    let same = some_is (of_signed x.0.0, x.0.1) (t, rest) x.2 in (
      x.0.0,
      x.1 ∙ ap (λ (p : TbsCertificate × List Element). let q : Option ((Version × Signed) × List Element) = Some (x.0.0, p.1) in q) same,
      ap (λ (p : TbsCertificate × List Element). p.0) same,
    )

-- six required fields, and those after them
module _ {A1 A2 A3 A4 A5 A6 R : Type 0} (c1 : Codec A1) (c2 : Codec A2) (c3 : Codec A3) (c4 : Codec A4) (c5 : Codec A5) (c6 : Codec A6) (g : FieldsOf R) where
  pub record Six (ss : List Element) (v : A1 × (A2 × (A3 × (A4 × (A5 × (A6 × R)))))) (rest : List Element) : Type 0 where
    pub s1 : Element
    pub s2 : Element
    pub s3 : Element
    pub s4 : Element
    pub s5 : Element
    pub s6 : Element
    pub after : List Element
    pub are : ss ≡ s1 ∷ s2 ∷ s3 ∷ s4 ∷ s5 ∷ s6 ∷ after
    pub r1 : c1.read_of s1 ≡ Some v.0
    pub r2 : c2.read_of s2 ≡ Some v.1.0
    pub r3 : c3.read_of s3 ≡ Some v.1.1.0
    pub r4 : c4.read_of s4 ≡ Some v.1.1.1.0
    pub r5 : c5.read_of s5 ≡ Some v.1.1.1.1.0
    pub r6 : c6.read_of s6 ≡ Some v.1.1.1.1.1.0
    pub more : g.get after ≡ Some (v.1.1.1.1.1.1, rest)

  pub six : (ss : List Element) (v : A1 × (A2 × (A3 × (A4 × (A5 × (A6 × R)))))) (rest : List Element)
      → (required c1 & required c2 & required c3 & required c4 & required c5 & required c6 & g).get ss ≡ Some (v, rest) → Six ss v rest
  six ss v rest e =
      let x1 = first_is c1 (required c2 & required c3 & required c4 & required c5 & required c6 & g) ss v rest e in
      let x2 = first_is c2 (required c3 & required c4 & required c5 & required c6 & g) x1.1 v.1 rest x1.4 in
      let x3 = first_is c3 (required c4 & required c5 & required c6 & g) x2.1 v.1.1 rest x2.4 in
      let x4 = first_is c4 (required c5 & required c6 & g) x3.1 v.1.1.1 rest x3.4 in
      let x5 = first_is c5 (required c6 & g) x4.1 v.1.1.1.1 rest x4.4 in
      let x6 = first_is c6 g x5.1 v.1.1.1.1.1 rest x5.4 in
      record {
        s1 = x1.0;
        s2 = x2.0;
        s3 = x3.0;
        s4 = x4.0;
        s5 = x5.0;
        s6 = x6.0;
        after = x6.1;
        are = x1.2 ∙ ap (λ (z : List Element). x1.0 ∷ z) (x2.2 ∙ ap (λ (z : List Element). x2.0 ∷ z) (x3.2 ∙ ap (λ (z : List Element). x3.0 ∷ z)
            (x4.2 ∙ ap (λ (z : List Element). x4.0 ∷ z) (x5.2 ∙ ap (λ (z : List Element). x5.0 ∷ z) x6.2))));
        r1 = x1.3;
        r2 = x2.3;
        r3 = x3.3;
        r4 = x4.3;
        r5 = x5.3;
        r6 = x6.3;
        more = x6.4;
      }
