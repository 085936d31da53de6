-- The parts of a certificate's form are the forms of its fields.
use Rattle.std.specs.Prelude.{Bool, List, None, Option, Some, cond, false, is_some, length, map, nat_le, not, refl, suc, true, ℕ, [], ◌&&◌, ◌+◌, ◌++◌, ◌∷◌, ◌≡◌, ◌⊎◌}
use Rattle.std.specs.List.{slice_get}
use Rattle.std.proofs.Common.{ap, arith, inl, inr, subst, sym, ◌∙◌}
use Rattle.std.proofs.Math.Bool.{or-false}
use Rattle.asn1_core.specs.Binds.{and_true, bind_some, kept, some_is, ◌>>=◌}
use Rattle.asn1_core.specs.Bits.{Bits}
use Rattle.asn1_core.specs.Octets.{octet_contents}
use Rattle.asn1_core.specs.declared.tag.Tag.{Tag}
use Rattle.der_tree.specs.Codec.{Codec, FieldsOf, struct_of}
use Rattle.der_tree.specs.Default.{default_get, default_with, or_default}
use Rattle.der_tree.specs.Element.{Element, all_encodable, children_of, element_at, element_octets, is_encodable, split}
use Rattle.der_tree.specs.Form.{IsDerOf}
use Rattle.der_tree.specs.Grammar.{beq, beq_exact, defaulted, explicitly, implicitly, list_of, optional, required, sequence_of, ◌&◌}
use Rattle.der_tree.specs.Optional.{absent_with, optional_get, present_with}
use Rattle.der_tree.specs.Primitive.{contents_at}
use Rattle.der_tree.specs.PrimitiveTypes.{bit_string, boolean, integer, object_identifier, octet_string}
use Rattle.der_tree.specs.SequenceOf.{each_of, within}
use Rattle.der_tree.specs.SetOf.{octets_in}
use Rattle.der_tree.specs.Tags.{context, disjoint, has, same_tag, these, universal}
use Rattle.der_tree.specs.laws.Codec.{element_starts}
use Rattle.der_tree.specs.laws.Element.{element_takes}
use Rattle.der_tree.specs.laws.Tags.{disjoint_is, same_tag_is}
use Rattle.der_tree.proofs.ReadFields.{all_children, encodable_at, fields_are, first_is, form_of_read, last_is, split_get}
use Rattle.pkix_name.specs.Names.{name}
use Rattle.pkix_cert.specs.Algorithms.{algorithm_identifier, subject_public_key_info}
use Rattle.pkix_cert.specs.Certificates.{certificate, certificate_fields, tbs_certificate, tbs_certificate_fields}
use Rattle.pkix_cert.specs.Extensions.{extension, extension_fields, extensions}
use Rattle.pkix_cert.specs.Held.{AreOfExtensions, IsOfCertificate, IsOfExtension, extensions_in}
use Rattle.pkix_cert.specs.Times.{validity}
use Rattle.pkix_cert.specs.Versions.{same_version, v1, version}
use Rattle.pkix_cert.specs.Views.{CertificateParts, certificate_parts, content_in, extension_list, extension_parts, has_tag, inside, last_of, octets_at, parts_of, tagged, version_count}
use Rattle.pkix_cert.specs.declared.algorithm.AlgorithmIdentifier.{AlgorithmIdentifier}
use Rattle.pkix_cert.specs.declared.certificate.Certificate.{Certificate}
use Rattle.pkix_cert.specs.declared.certificate.TbsCertificate.{TbsCertificate}
use Rattle.pkix_cert.specs.declared.certificate.Version.{Version}
use Rattle.pkix_cert.specs.declared.extension.Extension.{Extension}
use Rattle.pkix_cert.specs.declared.extension.Extensions.{Extensions}
use Rattle.pkix_cert.proofs.SignedFields.{Identifiers, Signed, Six, identifiers, of_signed, signed_fields, signed_of, six, versioned}
use Rattle.pkix_cert.proofs.Unread.{split_front}

-- ---- the elements within one

inside_is : (s : Element) (ss : List Element) → children_of s ≡ Some ss → inside (Some s) ≡ ss
inside_is s ss e = split_front s.content ss (kept s.constructed (split s.content) ss e).1

-- the form of what is at a place
form_at : {A : Type 0} (c : Codec A) (ss : List Element) (place : ℕ) (s : Element) (v : A) → all_encodable ss ≡ true → slice_get ss place ≡ Some s
    → c.read_of s ≡ Some v → IsDerOf c v (octets_at place ss)
form_at {A} c ss place s v h k e = subst (λ (b : List ℕ). IsDerOf c v b) (sym (ap octets_in k)) (form_of_read c s v (encodable_at ss place s h k) e)

-- ---- tags

read_starts : {A : Type 0} (c : Codec A) (s : Element) (v : A) → is_encodable s ≡ true → c.read_of s ≡ Some v → has c.starts s.tag ≡ true
read_starts c s v h e = let t = c.takes s v h e in element_starts c v t.0 s t.1 t.2

has_no : {A : Type 0} (g : Tag) (c : Codec A) (s : Element) → disjoint (these (g ∷ [])) c.starts ≡ true → has c.starts s.tag ≡ true → same_tag s.tag g ≡ false
has_no g c s apart h = sym (or-false (same_tag s.tag g)) ∙ disjoint_is (these (g ∷ [])) c.starts s.tag apart h

passed : (g : Tag) (s : Element) (ss : List Element) → same_tag s.tag g ≡ false → tagged g (s ∷ ss) ≡ tagged g ss
passed g s ss e = ap (λ (b : Bool). cond b (Some s) (tagged g ss)) e

found : (g : Tag) (s : Element) (ss : List Element) → same_tag s.tag g ≡ true → tagged g (s ∷ ss) ≡ Some s
found g s ss e = ap (λ (b : Bool). cond b (Some s) (tagged g ss)) e

-- ---- an optional field

record Present {A : Type 0} (c : Codec A) (s : Element) (ss : List Element) (v : Option A) (mid : List Element) : Type 0 where
  value : A
  there : has c.starts s.tag ≡ true
  is : v ≡ Some value
  reads : c.read_of s ≡ Some value
  left : mid ≡ ss

record Absent {A : Type 0} (c : Codec A) (s : Element) (ss : List Element) (v : Option A) (mid : List Element) : Type 0 where
  missing : has c.starts s.tag ≡ false
  is : v ≡ None
  left : mid ≡ s ∷ ss

option_at : {A : Type 0} (c : Codec A) (s : Element) (ss : List Element) (v : Option A) (mid : List Element) (b : Bool) → has c.starts s.tag ≡ b
    → cond b (c.read_of s >>= present_with ss) (absent_with (s ∷ ss)) ≡ Some (v, mid) → Present c s ss v mid ⊎ Absent c s ss v mid
option_at {A} c s ss v mid true h e =
    let x = bind_some (c.read_of s) (present_with ss) (v, mid) e in
    let same = some_is (Some x.0, ss) (v, mid) x.2 in
    inl (record {
      value = x.0;
      there = h;
      is = sym (ap (λ (p : Option A × List Element). p.0) same);
      reads = x.1;
      left = sym (ap (λ (p : Option A × List Element). p.1) same);
    })
option_at {A} c s ss v mid false h e =
    let same = some_is (None, s ∷ ss) (v, mid) e in
    inr (record {
      missing = h;
      is = sym (ap (λ (p : Option A × List Element). p.0) same);
      left = sym (ap (λ (p : Option A × List Element). p.1) same);
    })

option_is : {A : Type 0} (c : Codec A) (s : Element) (ss : List Element) (v : Option A) (mid : List Element) → optional_get c (s ∷ ss) ≡ Some (v, mid)
    → Present c s ss v mid ⊎ Absent c s ss v mid
option_is c s ss v mid e = option_at c s ss v mid (has c.starts s.tag) refl e

-- after an optional field of other tags
option_passed : {A : Type 0} (g : Tag) (c : Codec A) (ss : List Element) (v : Option A) (mid : List Element) → disjoint (these (g ∷ [])) c.starts ≡ true
    → optional_get c ss ≡ Some (v, mid) → tagged g ss ≡ tagged g mid
option_passed {A} g c [] v mid apart e = ap (λ (p : Option A × List Element). tagged g p.1) (some_is (None, []) (v, mid) e)
option_passed g c (s ∷ ss) v mid apart e =
    elim (option_is c s ss v mid e) as (λ _. tagged g (s ∷ ss) ≡ tagged g mid) [
      | inl x ↦ passed g s ss (has_no g c s apart x.there) ∙ ap (tagged g) (sym x.left)
      | inr x ↦ ap (tagged g) (sym x.left)
    ]

-- a field with a default, as the optional field that it is
default_parts : {A : Type 0} (f : FieldsOf (Option A)) (eq : A → A → Bool) (d : A) (ss : List Element) (v : A) (mid : List Element)
    → default_get f eq d ss ≡ Some (v, mid) → (o : Option A) × (f.get ss ≡ Some (o, mid)) × (or_default eq d o ≡ Some v)
default_parts {A} f eq d ss v mid e =
    let x = bind_some (f.get ss) (default_with eq d) (v, mid) e in
    let y = bind_some (or_default eq d x.0.0) (λ v. Some (v, x.0.1)) (v, mid) x.2 in
    let same = some_is (y.0, x.0.1) (v, mid) y.2 in (
      x.0.0,
      x.1 ∙ ap (λ (p : A × List Element). let q : Option (Option A × List Element) = Some (x.0.0, p.1) in q) same,
      y.1 ∙ ap (λ (p : A × List Element). Some p.0) same,
    )

-- ---- an extension

abbrev ExtensionValues : Type 0
ExtensionValues = List ℕ × (Bool × List ℕ)

abbrev of_extension : ExtensionValues → Extension
of_extension v = record { extn_id = v.0; critical = v.1.0; extn_value = v.1.1 }

abbrev critical_get : List Element → Option (Bool × List Element)
critical_get ss = (defaulted boolean beq beq_exact false).get ss

abbrev extension_get : List Element → Option (ExtensionValues × List Element)
extension_get ss = (required object_identifier & defaulted boolean beq beq_exact false & required octet_string).get ss

kept_content : (s : Element) (b : List ℕ) → contents_at (universal 4) s ≡ Some b → Some s.content ≡ Some b
kept_content s b e = (kept (same_tag s.tag (universal 4) && not s.constructed) (Some s.content) b e).1

head_is : (s t : Element) (ss ts : List Element) → s ∷ ss ≡ t ∷ ts → s ≡ t
head_is s t ss ts e = cc

octets_are : (s : Element) (b : List ℕ) → octet_string.read_of s ≡ Some b → s.content ≡ b
unfolding octet_contents
octets_are s b e =
    let x = bind_some (contents_at (universal 4) s) (λ b. Some b) b e in
    some_is s.content b ((kept_content s x.0 x.1) ∙ x.2)

three_parts : (s s1 t s3 : Element) (v : ExtensionValues) → inside (Some s) ≡ s1 ∷ t ∷ s3 ∷ [] → IsDerOf extension (of_extension v) (element_octets s)
    → IsDerOf object_identifier v.0 (element_octets s1) → same_tag t.tag (universal 1) ≡ v.1.0 → s3.content ≡ v.1.1
    → IsOfExtension (of_extension v) (extension_parts s)
unfolding extension_parts
three_parts s s1 t s3 v q w f k h = record {
  whole = w;
  id = subst (λ (ss : List Element). IsDerOf object_identifier v.0 (octets_at 0 ss)) (sym q) f;
  critical = ap (λ (ss : List Element). has_tag (universal 1) (slice_get ss 1)) q ∙ k;
  contents = ap (λ (ss : List Element). content_in (last_of ss)) q ∙ h;
}

two_parts : (s s1 s3 : Element) (v : ExtensionValues) → inside (Some s) ≡ s1 ∷ s3 ∷ [] → IsDerOf extension (of_extension v) (element_octets s)
    → IsDerOf object_identifier v.0 (element_octets s1) → same_tag s3.tag (universal 1) ≡ v.1.0 → s3.content ≡ v.1.1
    → IsOfExtension (of_extension v) (extension_parts s)
unfolding extension_parts
two_parts s s1 s3 v q w f k h = record {
  whole = w;
  id = subst (λ (ss : List Element). IsDerOf object_identifier v.0 (octets_at 0 ss)) (sym q) f;
  critical = ap (λ (ss : List Element). has_tag (universal 1) (slice_get ss 1)) q ∙ k;
  contents = ap (λ (ss : List Element). content_in (last_of ss)) q ∙ h;
}

written_true : (b v : Bool) → or_default beq false (Some b) ≡ Some v → true ≡ v
written_true true v e = some_is true v e
written_true false v e = absurd cc

-- after the identifier
behind_id : (s s1 : Element) (m1 m2 : List Element) (s3 : Element) (v : ExtensionValues) (o : Option Bool) → inside (Some s) ≡ s1 ∷ m1
    → IsDerOf extension (of_extension v) (element_octets s) → IsDerOf object_identifier v.0 (element_octets s1)
    → optional_get boolean m1 ≡ Some (o, m2) → or_default beq false o ≡ Some v.1.0 → m2 ≡ s3 ∷ [] → s3.content ≡ v.1.1
    → IsOfExtension (of_extension v) (extension_parts s)
behind_id s s1 [] m2 s3 v o q w f g d l h =
    absurd (let k : [] ≡ s3 ∷ [] = ap (λ (p : Option Bool × List Element). p.1) (some_is (None, []) (o, m2) g) ∙ l in cc)
behind_id s s1 (t ∷ ts) m2 s3 v o q w f g d l h =
    elim (option_is boolean t ts o m2 g) as (λ _. IsOfExtension (of_extension v) (extension_parts s)) [
      | inl x ↦
          let only : ts ≡ s3 ∷ [] = sym x.left ∙ l in
          let value : or_default beq false (Some x.value) ≡ Some v.1.0 = ap (or_default beq false) (sym x.is) ∙ d in
          three_parts s s1 t s3 v (q ∙ ap (λ (ss : List Element). s1 ∷ t ∷ ss) only) w f
          (sym (or-false (same_tag t.tag (universal 1))) ∙ x.there ∙ written_true x.value v.1.0 value) h
      | inr x ↦
          let only : t ∷ ts ≡ s3 ∷ [] = sym x.left ∙ l in
          let first : t ≡ s3 = head_is t s3 ts [] only in
          let value : Some false ≡ Some v.1.0 = ap (or_default beq false) (sym x.is) ∙ d in
          two_parts s s1 s3 v (q ∙ ap (λ (ss : List Element). s1 ∷ ss) only) w f
          (ap (λ (y : Element). same_tag y.tag (universal 1)) (sym first) ∙ sym (or-false (same_tag t.tag (universal 1))) ∙ x.missing ∙ some_is false v.1.0 value) h
    ]

extension_by : (s : Element) (ss : List Element) (v : ExtensionValues) → children_of s ≡ Some ss → IsDerOf extension (of_extension v) (element_octets s)
    → extension_get ss ≡ Some (v, []) → IsOfExtension (of_extension v) (extension_parts s)
extension_by s ss v at w e =
    let one = first_is object_identifier (defaulted boolean beq beq_exact false & required octet_string) ss v [] e in
    let two = split_get (defaulted boolean beq beq_exact false) (required octet_string) one.1 v.1 [] one.4 in
    let three = last_is octet_string two.0 v.1.1 [] two.2 in
    let d = default_parts (optional boolean) beq false one.1 v.1.0 two.0 two.1 in
    let fine = all_children s ss at in
    let place : slice_get ss 0 ≡ Some one.0 = ap (λ (z : List Element). slice_get z 0) one.2 in
    behind_id s one.0 one.1 two.0 three.0 v d.0 (inside_is s ss at ∙ one.2) w
    (form_of_read object_identifier one.0 v.0 (encodable_at ss 0 one.0 fine place) one.3) d.1 d.2 three.1
    (octets_are three.0 v.1.1 three.2)

extension_is : (s : Element) (e : Extension) → is_encodable s ≡ true → extension.read_of s ≡ Some e → IsOfExtension e (extension_parts s)
unfolding extension_fields
extension_is s e fine h =
    let f = fields_are (universal 16) extension_fields s e h in
    let x = bind_some (extension_get f.0) (λ x. Some (of_extension x.0, x.1)) (e, []) f.2 in
    let same = some_is (of_extension x.0.0, x.0.1) (e, []) x.2 in
    let value : of_extension x.0.0 ≡ e = ap (λ (p : Extension × List Element). p.0) same in
    let got : extension_get f.0 ≡ Some (x.0.0, []) =
    x.1 ∙ ap (λ (p : Extension × List Element). let q : Option (ExtensionValues × List Element) = Some (x.0.0, p.1) in q) same in
    subst (λ (y : Extension). IsOfExtension y (extension_parts s)) value
    (extension_by s f.0 x.0.0 f.1
    (form_of_read extension s (of_extension x.0.0) fine (h ∙ ap (λ (y : Extension). Some y) (sym value))) got)

-- ---- the list of them

each_is : (ss : List Element) (es : List Extension) → all_encodable ss ≡ true → each_of extension ss ≡ Some es → AreOfExtensions es (map extension_parts ss)
each_is [] es h e = subst (λ (z : List Extension). AreOfExtensions z []) (some_is [] es e) tt
each_is (s ∷ ss) es h e =
    let x = bind_some (extension.read_of s) (λ v. each_of extension ss >>= λ vs. Some (v ∷ vs)) es e in
    let y = bind_some (each_of extension ss) (λ vs. Some (x.0 ∷ vs)) es x.2 in
    let k = and_true (is_encodable s) (all_encodable ss) h in
    subst (λ (z : List Extension). AreOfExtensions z (map extension_parts (s ∷ ss))) (some_is (x.0 ∷ y.0) es y.2)
    (extension_is s x.0 k.0 x.1, each_is ss y.0 k.1 y.1)

list_is : (s : Element) (es : List Extension) → (sequence_of extension 1 None refl).read_of s ≡ Some es
    → (ss : List Element) × (children_of s ≡ Some ss) × (each_of extension ss ≡ Some es)
list_is s es e =
    let f = fields_are (universal 16) (struct_of (list_of extension 1 None refl) refl) s es e in
    let x = bind_some (each_of extension f.0) (λ vs. within extension 1 None vs >>= λ vs. Some (vs, [])) (es, []) f.2 in
    let y = bind_some (within extension 1 None x.0) (λ vs. Some (vs, [])) (es, []) x.2 in
    let k = kept (nat_le 1 (length x.0)) (Some x.0) y.0 y.1 in
    let same : x.0 ≡ es = some_is x.0 y.0 k.1 ∙ ap (λ (p : List Extension × List Element). p.0) (some_is (y.0, []) (es, []) y.2) in
    (f.0, f.1, x.1 ∙ ap (λ (z : List Extension). Some z) same)

extensions_are : (s : Element) (es : Extensions) → extensions.read_of s ≡ Some es → AreOfExtensions es.0 (map extension_parts (inside (Some s)))
extensions_are s es e =
    let x = bind_some ((sequence_of extension 1 None refl).read_of s) (λ l. let y : Extensions = record { 0 = l } in Some y) es e in
    let l = list_is s x.0 x.1 in
    let same : x.0 ≡ es.0 = ap (λ (y : Extensions). y.0) (some_is (record { 0 = x.0 }) es x.2) in
    subst (λ (z : List Extension). AreOfExtensions z (map extension_parts (inside (Some s)))) same
    (subst (λ (z : List Element). AreOfExtensions x.0 (map extension_parts z)) (sym (inside_is s l.0 l.1)) (each_is l.0 x.0 (all_children s l.0 l.1) l.2))

-- the field of context tag 3, which is the last
abbrev listed : List Element → List Element
listed ss = inside (slice_get (inside (tagged (context 3) ss)) 0)

in_third : (s : Element) (es : Extensions) → (explicitly (context 3) extensions).read_of s ≡ Some es
    → AreOfExtensions es.0 (map extension_parts (inside (slice_get (inside (Some s)) 0)))
in_third s es e =
    let f = fields_are (context 3) (struct_of (required extensions) refl) s es e in
    let one = last_is extensions f.0 es [] f.2 in
    let place : slice_get (inside (Some s)) 0 ≡ Some one.0 = ap (λ (z : List Element). slice_get z 0) (inside_is s f.0 f.1 ∙ one.1) in
    subst (λ (o : Option Element). AreOfExtensions es.0 (map extension_parts (inside o))) (sym place) (extensions_are one.0 es one.2)

third_is : (ss : List Element) (o : Option Extensions) → optional_get (explicitly (context 3) extensions) ss ≡ Some (o, [])
    → AreOfExtensions (extensions_in o) (map extension_parts (listed ss))
third_is [] o e = subst (λ (z : Option Extensions). AreOfExtensions (extensions_in z) []) (ap (λ (p : Option Extensions × List Element). p.0) (some_is (None, []) (o, []) e)) tt
third_is (s ∷ ss) o e =
    elim (option_is (explicitly (context 3) extensions) s ss o [] e) as (λ _. AreOfExtensions (extensions_in o) (map extension_parts (listed (s ∷ ss)))) [
      | inl x ↦
          let there : same_tag s.tag (context 3) ≡ true = sym (or-false (same_tag s.tag (context 3))) ∙ x.there in
          subst (λ (z : Option Extensions). AreOfExtensions (extensions_in z) (map extension_parts (listed (s ∷ ss)))) (sym x.is)
          (subst (λ (z : Option Element). AreOfExtensions x.value.0 (map extension_parts (inside (slice_get (inside z) 0)))) (sym (found (context 3) s ss there))
          (in_third s x.value x.reads))
      | inr x ↦ absurd (let k : [] ≡ s ∷ ss = x.left in cc)
    ]

-- ---- what is signed

identifiers_are : (ss : List Element) (v : Identifiers) → identifiers.get ss ≡ Some (v, [])
    → AreOfExtensions (extensions_in v.1.1) (map extension_parts (listed ss))
identifiers_are ss v e =
    let x = split_get (optional (implicitly (context 1) bit_string refl)) (optional (implicitly (context 2) bit_string refl) & optional (explicitly (context 3) extensions)) ss v [] e in
    let y = split_get (optional (implicitly (context 2) bit_string refl)) (optional (explicitly (context 3) extensions)) x.0 v.1 [] x.2 in
    let same : tagged (context 3) ss ≡ tagged (context 3) y.0 =
    option_passed (context 3) (implicitly (context 1) bit_string refl) ss v.0 x.0 refl x.1
    ∙ option_passed (context 3) (implicitly (context 2) bit_string refl) x.0 v.1.0 y.0 refl y.1 in
    subst (λ (o : Option Element). AreOfExtensions (extensions_in v.1.1) (map extension_parts (inside (slice_get (inside o) 0)))) (sym same) (third_is y.0 v.1.1 y.2)

-- the version before them, where it is written
record Versioned (ss mid : List Element) : Type 0 where
  places : (k : ℕ) → slice_get ss (version_count ss + k) ≡ slice_get mid k
  third : tagged (context 3) ss ≡ tagged (context 3) mid

no_version : (ss mid : List Element) → version_count ss ≡ 0 → ss ≡ mid → Versioned ss mid
no_version ss mid n e = record {
  places = λ k. let p : version_count ss + k ≡ k = omega (arith, n) in ap (slice_get ss) p ∙ ap (λ (z : List Element). slice_get z k) e;
  third = ap (tagged (context 3)) e;
}

one_version : (s : Element) (ss mid : List Element) → same_tag s.tag (context 0) ≡ true → ss ≡ mid → Versioned (s ∷ ss) mid
one_version s ss mid h e = record {
  places = λ k.
      let n : version_count (s ∷ ss) ≡ 1 = ap (λ (b : Bool). cond b 1 0) h in
      let p : version_count (s ∷ ss) + k ≡ suc k = omega (arith, n) in ap (slice_get (s ∷ ss)) p ∙ ap (λ (z : List Element). slice_get z k) e;
  third =
      let other : same_tag s.tag (context 3) ≡ false = ap (λ (g : Tag). same_tag g (context 3)) (same_tag_is s.tag (context 0) h) in
      passed (context 3) s ss other ∙ ap (tagged (context 3)) e;
}

version_is : (ss : List Element) (o : Option Version) (mid : List Element) → optional_get (explicitly (context 0) version) ss ≡ Some (o, mid) → Versioned ss mid
version_is [] o mid e = no_version [] mid refl (ap (λ (p : Option Version × List Element). p.1) (some_is (None, []) (o, mid) e))
version_is (s ∷ ss) o mid e =
    elim (option_is (explicitly (context 0) version) s ss o mid e) as (λ _. Versioned (s ∷ ss) mid) [
      | inl x ↦ one_version s ss mid (sym (or-false (same_tag s.tag (context 0))) ∙ x.there) (sym x.left)
      | inr x ↦
          let missing : same_tag s.tag (context 0) ≡ false = sym (or-false (same_tag s.tag (context 0))) ∙ x.missing in
          no_version (s ∷ ss) mid (ap (λ (b : Bool). cond b 1 0) missing) (sym x.left)
    ]

-- the parts of what is signed, among the elements within it
record Inner (ss : List Element) (t : TbsCertificate) : Type 0 where
  serial_number : IsDerOf integer t.serial_number (octets_at (version_count ss) ss)
  tbs_signature : IsDerOf algorithm_identifier t.signature (octets_at (version_count ss + 1) ss)
  issuer : IsDerOf name t.issuer (octets_at (version_count ss + 2) ss)
  valid : IsDerOf validity t.validity (octets_at (version_count ss + 3) ss)
  subject : IsDerOf name t.subject (octets_at (version_count ss + 4) ss)
  key_info : IsDerOf subject_public_key_info t.subject_public_key_info (octets_at (version_count ss + 5) ss)
  extension_parts_are : AreOfExtensions (extensions_in t.extensions) (map extension_parts (inside (extension_list ss)))

third_behind : (s1 s2 s3 s4 s5 s6 : Element) (after : List Element) → same_tag s1.tag (context 3) ≡ false → same_tag s2.tag (context 3) ≡ false
    → same_tag s3.tag (context 3) ≡ false → same_tag s4.tag (context 3) ≡ false → same_tag s5.tag (context 3) ≡ false
    → same_tag s6.tag (context 3) ≡ false → tagged (context 3) (s1 ∷ s2 ∷ s3 ∷ s4 ∷ s5 ∷ s6 ∷ after) ≡ tagged (context 3) after
third_behind s1 s2 s3 s4 s5 s6 after p1 p2 p3 p4 p5 p6 =
    passed (context 3) s1 (s2 ∷ s3 ∷ s4 ∷ s5 ∷ s6 ∷ after) p1 ∙ passed (context 3) s2 (s3 ∷ s4 ∷ s5 ∷ s6 ∷ after) p2
    ∙ passed (context 3) s3 (s4 ∷ s5 ∷ s6 ∷ after) p3 ∙ passed (context 3) s4 (s5 ∷ s6 ∷ after) p4
    ∙ passed (context 3) s5 (s6 ∷ after) p5 ∙ passed (context 3) s6 after p6

not_third : {A : Type 0} (c : Codec A) (s : Element) (v : A) → disjoint (these (context 3 ∷ [])) c.starts ≡ true → is_encodable s ≡ true
    → c.read_of s ≡ Some v → same_tag s.tag (context 3) ≡ false
not_third c s v apart h e = has_no (context 3) c s apart (read_starts c s v h e)

inner_by : (ss mid : List Element) (v : Version × Signed) → all_encodable ss ≡ true → Versioned ss mid
    → Six integer algorithm_identifier name validity name subject_public_key_info identifiers mid v.1 [] → Inner ss (of_signed v)
inner_by ss mid v fine w x =
    let n = version_count ss in
    let at : (k : ℕ) (s : Element) → slice_get mid k ≡ Some s → slice_get ss (n + k) ≡ Some s = λ k s e. w.places k ∙ e in
    let are : (k : ℕ) → slice_get mid k ≡ slice_get (x.s1 ∷ x.s2 ∷ x.s3 ∷ x.s4 ∷ x.s5 ∷ x.s6 ∷ x.after) k = λ k. ap (λ (z : List Element). slice_get z k) x.are in
    let zero_more : n + 0 ≡ n = omega arith in
    let p1 : slice_get ss n ≡ Some x.s1 = ap (slice_get ss) (sym zero_more) ∙ at 0 x.s1 (are 0) in
    let p2 : slice_get ss (n + 1) ≡ Some x.s2 = at 1 x.s2 (are 1) in
    let p3 : slice_get ss (n + 2) ≡ Some x.s3 = at 2 x.s3 (are 2) in
    let p4 : slice_get ss (n + 3) ≡ Some x.s4 = at 3 x.s4 (are 3) in
    let p5 : slice_get ss (n + 4) ≡ Some x.s5 = at 4 x.s5 (are 4) in
    let p6 : slice_get ss (n + 5) ≡ Some x.s6 = at 5 x.s6 (are 5) in
    let third : tagged (context 3) ss ≡ tagged (context 3) x.after =
    w.third ∙ ap (tagged (context 3)) x.are
    ∙ third_behind x.s1 x.s2 x.s3 x.s4 x.s5 x.s6 x.after
    (not_third integer x.s1 v.1.0 refl (encodable_at ss n x.s1 fine p1) x.r1)
    (not_third algorithm_identifier x.s2 v.1.1.0 refl (encodable_at ss (n + 1) x.s2 fine p2) x.r2)
    (not_third name x.s3 v.1.1.1.0 refl (encodable_at ss (n + 2) x.s3 fine p3) x.r3)
    (not_third validity x.s4 v.1.1.1.1.0 refl (encodable_at ss (n + 3) x.s4 fine p4) x.r4)
    (not_third name x.s5 v.1.1.1.1.1.0 refl (encodable_at ss (n + 4) x.s5 fine p5) x.r5)
    (not_third subject_public_key_info x.s6 v.1.1.1.1.1.1.0 refl (encodable_at ss (n + 5) x.s6 fine p6) x.r6) in
    record {
      serial_number = form_at integer ss n x.s1 v.1.0 fine p1 x.r1;
      tbs_signature = form_at algorithm_identifier ss (n + 1) x.s2 v.1.1.0 fine p2 x.r2;
      issuer = form_at name ss (n + 2) x.s3 v.1.1.1.0 fine p3 x.r3;
      valid = form_at validity ss (n + 3) x.s4 v.1.1.1.1.0 fine p4 x.r4;
      subject = form_at name ss (n + 4) x.s5 v.1.1.1.1.1.0 fine p5 x.r5;
      key_info = form_at subject_public_key_info ss (n + 5) x.s6 v.1.1.1.1.1.1.0 fine p6 x.r6;
      extension_parts_are =
          subst (λ (o : Option Element). AreOfExtensions (extensions_in v.1.1.1.1.1.1.1.1.1) (map extension_parts (inside (slice_get (inside o) 0)))) (sym third)
          (identifiers_are x.after v.1.1.1.1.1.1.1 x.more);
    }

inner_is : (s : Element) (t : TbsCertificate) → tbs_certificate.read_of s ≡ Some t → Inner (inside (Some s)) t
inner_is s t e =
    let f = fields_are (universal 16) tbs_certificate_fields s t e in
    let x = signed_of f.0 t [] f.2 in
    let y = split_get versioned signed_fields f.0 x.0 [] x.1 in
    let d = default_parts (optional (explicitly (context 0) version)) same_version v1 f.0 x.0.0 y.0 y.1 in
    subst (λ (z : List Element). Inner z t) (sym (inside_is s f.0 f.1))
    (subst (λ (z : TbsCertificate). Inner f.0 z) x.2
    (inner_by f.0 y.0 x.0 (all_children s f.0 f.1) (version_is f.0 d.0 y.0 d.1)
    (six integer algorithm_identifier name validity name subject_public_key_info identifiers y.0 x.0.1 [] y.2)))

-- ---- the certificate

abbrev Outer : Type 0
Outer = TbsCertificate × (AlgorithmIdentifier × Bits)

abbrev of_outer : Outer → Certificate
of_outer v = record { tbs_certificate = v.0; signature_algorithm = v.1.0; signature_value = v.1.1 }

abbrev outer_get : List Element → Option (Outer × List Element)
outer_get ss = (required tbs_certificate & required algorithm_identifier & required bit_string).get ss

outer_by : (s : Element) (after : List ℕ) (three : List Element) (v : Outer) → children_of s ≡ Some three → IsDerOf certificate (of_outer v) (element_octets s)
    → outer_get three ≡ Some (v, []) → IsOfCertificate (of_outer v) (parts_of s after)
unfolding parts_of
outer_by s after three v at w e =
    let x = first_is tbs_certificate (required algorithm_identifier & required bit_string) three v [] e in
    let y = first_is algorithm_identifier (required bit_string) x.1 v.1 [] x.4 in
    let z = last_is bit_string y.1 v.1.1 [] y.4 in
    let fine = all_children s three at in
    let all : inside (Some s) ≡ three = inside_is s three at in
    let are : three ≡ x.0 ∷ y.0 ∷ z.0 ∷ [] = x.2 ∙ ap (λ (t : List Element). x.0 ∷ t) (y.2 ∙ ap (λ (t : List Element). y.0 ∷ t) z.1) in
    let p0 : slice_get three 0 ≡ Some x.0 = ap (λ (t : List Element). slice_get t 0) are in
    let p1 : slice_get three 1 ≡ Some y.0 = ap (λ (t : List Element). slice_get t 1) are in
    let p2 : slice_get three 2 ≡ Some z.0 = ap (λ (t : List Element). slice_get t 2) are in
    let i : Inner (inside (slice_get (inside (Some s)) 0)) v.0 =
    subst (λ (o : Option Element). Inner (inside o) v.0) (sym (ap (λ (t : List Element). slice_get t 0) all ∙ p0)) (inner_is x.0 v.0 x.3) in
    record {
      whole = w;
      tbs = subst (λ (t : List Element). IsDerOf tbs_certificate v.0 (octets_at 0 t)) (sym all) (form_at tbs_certificate three 0 x.0 v.0 fine p0 x.3);
      serial_number = i.serial_number;
      tbs_signature = i.tbs_signature;
      issuer = i.issuer;
      validity = i.valid;
      subject = i.subject;
      key_info = i.key_info;
      signature_algorithm = subst (λ (t : List Element). IsDerOf algorithm_identifier v.1.0 (octets_at 1 t)) (sym all) (form_at algorithm_identifier three 1 y.0 v.1.0 fine p1 y.3);
      signature = subst (λ (t : List Element). IsDerOf bit_string v.1.1 (octets_at 2 t)) (sym all) (form_at bit_string three 2 z.0 v.1.1 fine p2 z.2);
      extensions = i.extension_parts_are;
    }

certificate_is : (s : Element) (after : List ℕ) (c : Certificate) → is_encodable s ≡ true → certificate.read_of s ≡ Some c
    → IsOfCertificate c (parts_of s after)
unfolding certificate_fields
certificate_is s after c fine e =
    let f = fields_are (universal 16) certificate_fields s c e in
    let x = bind_some (outer_get f.0) (λ x. Some (of_outer x.0, x.1)) (c, []) f.2 in
    let same = some_is (of_outer x.0.0, x.0.1) (c, []) x.2 in
    let value : of_outer x.0.0 ≡ c = ap (λ (p : Certificate × List Element). p.0) same in
    let got : outer_get f.0 ≡ Some (x.0.0, []) =
    x.1 ∙ ap (λ (p : Certificate × List Element). let q : Option (Outer × List Element) = Some (x.0.0, p.1) in q) same in
    subst (λ (y : Certificate). IsOfCertificate y (parts_of s after)) value
    (outer_by s after f.0 x.0.0 f.1
    (form_of_read certificate s (of_outer x.0.0) fine (e ∙ ap (λ (y : Certificate). Some y) (sym value))) got)

kept_parts : (s : Element) (after : List ℕ) (p : CertificateParts) (o : Option Certificate) → cond (is_some o) (Some (parts_of s after)) None ≡ Some p
    → (c : Certificate) × (o ≡ Some c) × (parts_of s after ≡ p)
kept_parts s after p None e = absurd cc
kept_parts s after p (Some c) e = (c, refl, some_is (parts_of s after) p e)

after_is : (s : Element) (after : List ℕ) → ((parts_of s after).whole ≡ element_octets s) × ((parts_of s after).after ≡ after)
unfolding parts_of
after_is s after = (refl, refl)

pub parts_are_of : (input : List ℕ) (p : CertificateParts) → certificate_parts input ≡ Some p
    → (c : Certificate) × IsOfCertificate c p × (input ≡ p.whole ++ p.after)
unfolding certificate_parts
parts_are_of input p e =
    let x = bind_some (element_at input) (λ x. cond (is_some (certificate.read_of x.0)) (Some (parts_of x.0 x.1)) None) p e in
    let k = kept_parts x.0.0 x.0.1 p (certificate.read_of x.0.0) x.2 in
    let front = element_takes input x.0.0 x.0.1 x.1 in
    let a = after_is x.0.0 x.0.1 in
    let spelled : input ≡ (parts_of x.0.0 x.0.1).whole ++ (parts_of x.0.0 x.0.1).after =
    front.0 ∙ ap (λ (b : List ℕ). b ++ x.0.1) (sym a.0) ∙ ap (λ (b : List ℕ). (parts_of x.0.0 x.0.1).whole ++ b) (sym a.1) in (
      k.0,
      subst (λ (q : CertificateParts). IsOfCertificate k.0 q) k.2 (certificate_is x.0.0 x.0.1 k.0 front.1 k.1),
      subst (λ (q : CertificateParts). input ≡ q.whole ++ q.after) k.2 spelled,
    )
