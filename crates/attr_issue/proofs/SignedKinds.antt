-- What is signed is of one kind: its children determine which.
use Rattle.std.specs.Prelude.{◌≡◌, ◌⊎◌, ℕ, Bool, true, false, ◌&&◌, cond, List, [], ◌∷◌, Option, Some, None, refl}
use Rattle.std.proofs.Common.{sym, ap, ◌∙◌, subst, inl, inr}
use Rattle.std.proofs.Math.Bool.{or-false}
use Rattle.std.proofs.lemmas.List.{append-nil}
use Rattle.asn1_core.specs.Binds.{◌>>=◌, and_true, bind_some, kept, some_is}
use Rattle.asn1_core.specs.Bits.{Bits}
use Rattle.asn1_core.specs.declared.tag.Tag.{Tag}
use Rattle.der_tree.specs.Codec.{Codec, FieldsOf, Struct}
use Rattle.der_tree.specs.Default.{default_get, default_with, or_default}
use Rattle.der_tree.specs.Element.{Element, all_encodable, is_encodable, split}
use Rattle.der_tree.specs.Form.{IsDerOf}
use Rattle.der_tree.specs.Grammar.{explicitly, implicitly, optional, required, sequence, sequence_of, set_of, unwritten_if_empty, with_default, ◌&◌}
use Rattle.der_tree.specs.Optional.{optional_at, present_with}
use Rattle.der_tree.specs.PrimitiveTypes.{bit_string, integer}
use Rattle.der_tree.specs.Sequence.{at_end, children, ended, node_read_of}
use Rattle.der_tree.specs.Tags.{Tags, context, has, same_tag, these, universal}
use Rattle.der_tree.specs.laws.Codec.{element_starts}
use Rattle.der_tree.specs.laws.Element.{split_takes}
use Rattle.der_tree.specs.laws.Tags.{same_tag_is}
use Rattle.der_tree.proofs.FormLaws.{front_is}
use Rattle.pkix_name.specs.Names.{attribute, name}
use Rattle.pkix_name.specs.declared.name.Attribute.{Attribute}
use Rattle.pkix_name.specs.declared.name.Name.{Name}
use Rattle.pkix_attr.specs.Certificates.{attribute_certificate_info, attribute_certificate_info_fields, attribute_certificate_validity_period}
use Rattle.pkix_attr.specs.Certificates.{attribute_certificate_version}
use Rattle.pkix_attr.specs.Holders.{holder, issuer}
use Rattle.pkix_attr.specs.declared.certificate.AttributeCertificateInfo.{AttributeCertificateInfo}
use Rattle.pkix_attr.specs.declared.certificate.AttributeCertificateValidityPeriod.{AttributeCertificateValidityPeriod}
use Rattle.pkix_cert.specs.Algorithms.{algorithm_identifier, subject_public_key_info}
use Rattle.pkix_cert.specs.Certificates.{tbs_certificate, tbs_certificate_fields}
use Rattle.pkix_cert.specs.Extensions.{extensions}
use Rattle.pkix_cert.specs.Requests.{certification_request_info, certification_request_info_fields}
use Rattle.pkix_cert.specs.Revocations.{revoked_certificate, tbs_cert_list, tbs_cert_list_fields}
use Rattle.pkix_cert.specs.Times.{time, validity}
use Rattle.pkix_cert.specs.Versions.{same_version, same_version_exact, v1, version}
use Rattle.pkix_cert.specs.declared.algorithm.AlgorithmIdentifier.{AlgorithmIdentifier}
use Rattle.pkix_cert.specs.declared.algorithm.SubjectPublicKeyInfo.{SubjectPublicKeyInfo}
use Rattle.pkix_cert.specs.declared.certificate.TbsCertificate.{TbsCertificate}
use Rattle.pkix_cert.specs.declared.certificate.Version.{Version}
use Rattle.pkix_cert.specs.declared.extension.Extensions.{Extensions}
use Rattle.pkix_cert.specs.declared.request.CertificationRequestInfo.{CertificationRequestInfo}
use Rattle.pkix_cert.specs.declared.revocation.RevokedCertificate.{RevokedCertificate}
use Rattle.pkix_cert.specs.declared.revocation.TbsCertList.{TbsCertList}
use Rattle.pkix_cert.specs.declared.time.Time.{Time}
use Rattle.pkix_cert.specs.declared.time.Validity.{Validity}

-- ---- the children of a SEQUENCE and the fields that they are

abbrev sequence_children : Element → Option (List Element)
sequence_children s = children (universal 16) s

children_encodable : (s : Element) (ss : List Element) → sequence_children s ≡ Some ss → all_encodable ss ≡ true
unfolding children
children_encodable s ss e =
    (split_takes s.content ss (kept (same_tag s.tag (universal 16) && s.constructed) (split s.content) ss e).1).1

-- the children that the fields of a value are
record HasFields {A : Type 0} (x : Struct A) (v : A) (s : Element) : Type 0 where
  all : List Element
  rest : List Element
  are_children : sequence_children s ≡ Some all
  are_encodable : all_encodable all ≡ true
  are_read : x.fields.get all ≡ Some (v, rest)

ended_with : {A : Type 0} (v w : A) (rest : List Element) → ended v rest ≡ Some w → v ≡ w
ended_with v w rest e = some_is v w (bind_some (at_end rest) (λ u. Some v) w e).2

fields_of : {A : Type 0} (x : Struct A) (v : A) (s : Element) → node_read_of (universal 16) x.fields s ≡ Some v → HasFields x v s
fields_of {A} x v s e =
    let c = bind_some (sequence_children s) (λ ss. x.fields.read ss ended) v e in
    let r = bind_some (x.fields.get c.0) (λ y. ended y.0 y.1) v (sym (x.fields.reads c.0 ended) ∙ c.2) in
    record {
      all = c.0;
      rest = r.0.1;
      are_children = c.1;
      are_encodable = children_encodable s c.0 c.1;
      are_read = r.1 ∙ ap (λ (w : A). Some (w, r.0.1)) (ended_with r.0.0 v r.0.1 r.2);
    }

-- what is read of an element begins with the element's tag
read_starts : {A : Type 0} (c : Codec A) (s : Element) (v : A) → is_encodable s ≡ true → c.read_of s ≡ Some v → has c.starts s.tag ≡ true
read_starts c s v h e = let t = c.takes s v h e in element_starts c v t.0 s t.1 t.2

-- a required field at the start
record HasFront {A B : Type 0} (c : Codec A) (f : FieldsOf B) (ss : List Element) : Type 0 where
  first : Element
  others : List Element
  split_so : ss ≡ first ∷ others
  starts : has c.starts first.tag ≡ true
  encodable : all_encodable others ≡ true
  value : B
  after : List Element
  read : f.get others ≡ Some (value, after)

front_of : {A B : Type 0} (c : Codec A) (f : FieldsOf B) (ss : List Element) (x : (A × B) × List Element) → all_encodable ss ≡ true
    → (required c & f).get ss ≡ Some x → HasFront c f ss
front_of c f [] x h e = absurd cc
front_of {A} {B} c f (s ∷ ss) x h e =
    let a = bind_some (c.read_of s >>= λ v. Some (v, ss)) (λ y. f.get y.1 >>= λ z. Some ((y.0, z.0), z.1)) x e in
    let r = bind_some (c.read_of s) (λ v. Some (v, ss)) a.0 a.1 in
    let rest : ss ≡ a.0.1 = ap (λ (y : A × List Element). y.1) (some_is (r.0, ss) a.0 r.2) in
    let g = bind_some (f.get a.0.1) (λ z. Some ((a.0.0, z.0), z.1)) x a.2 in
    let k = and_true (is_encodable s) (all_encodable ss) h in
    record {
      first = s;
      others = ss;
      split_so = refl;
      starts = read_starts c s r.0 k.0 r.1;
      encodable = k.1;
      value = g.0.0;
      after = g.0.1;
      read = ap f.get rest ∙ g.1;
    }

-- a required field that is the last
last_of : {A : Type 0} (c : Codec A) (ss : List Element) (x : A × List Element) → all_encodable ss ≡ true → (required c).get ss ≡ Some x
    → (first : Element) × (others : List Element) × (ss ≡ first ∷ others) × (has c.starts first.tag ≡ true)
last_of c [] x h e = absurd cc
last_of c (s ∷ ss) x h e =
    let r = bind_some (c.read_of s) (λ v. Some (v, ss)) x e in
    (s, ss, refl, read_starts c s r.0 (and_true (is_encodable s) (all_encodable ss) h).0 r.1)

-- an optional field at the start, present or absent
abbrev Placed : Tags → List Element → List Element → Type 0
Placed tags ss others = (ss ≡ others) ⊎ ((first : Element) × (ss ≡ first ∷ others) × (has tags first.tag ≡ true))

placed_at : {A : Type 0} (c : Codec A) (s : Element) (ss : List Element) (o : Option A) (others : List Element) (b : Bool) → has c.starts s.tag ≡ b
    → cond b (c.read_of s >>= present_with ss) (Some (None, s ∷ ss)) ≡ Some (o, others) → Placed c.starts (s ∷ ss) others
placed_at {A} c s ss o others true h e =
    let r = bind_some (c.read_of s) (present_with ss) (o, others) e in
    let same : ss ≡ others = ap (λ (y : Option A × List Element). y.1) (some_is (Some r.0, ss) (o, others) r.2) in
    inr (s, ap (λ (us : List Element). s ∷ us) same, h)
placed_at {A} c s ss o others false h e =
    inl (ap (λ (y : Option A × List Element). y.1) (some_is (None, s ∷ ss) (o, others) e))

placed : {A : Type 0} (c : Codec A) (ss : List Element) (o : Option A) (others : List Element)
    → optional_at c.starts c.read_of ss ≡ Some (o, others) → Placed c.starts ss others
placed {A} c [] o others e = inl (ap (λ (y : Option A × List Element). y.1) (some_is (None, []) (o, others) e))
placed c (s ∷ ss) o others e = placed_at c s ss o others (has c.starts s.tag) refl e

placed_encodable : (tags : Tags) (ss others : List Element) → Placed tags ss others → all_encodable ss ≡ true → all_encodable others ≡ true
placed_encodable tags ss others (inl e) h = ap all_encodable (sym e) ∙ h
placed_encodable tags ss others (inr x) h = (and_true (is_encodable x.0) (all_encodable others) (ap all_encodable (sym x.1) ∙ h)).1

default_place : {A : Type 0} (c : Codec A) (eq : A → A → Bool) (d : A) (ss : List Element) (x : A × List Element)
    → default_get (optional c) eq d ss ≡ Some x → Placed c.starts ss x.1
default_place {A} c eq d ss x e =
    let o = bind_some (optional_at c.starts c.read_of ss) (default_with eq d) x e in
    let w = bind_some (or_default eq d o.0.0) (λ v. Some (v, o.0.1)) x o.2 in
    let same : o.0.1 ≡ x.1 = ap (λ (y : A × List Element). y.1) (some_is (w.0, o.0.1) x w.2) in
    subst (λ (us : List Element). Placed c.starts ss us) same (placed c ss o.0.0 o.0.1 o.1)

-- ---- the kind of what is signed

data Kind : Type 0 where
  of_certificate : Kind
  of_request : Kind
  of_list : Kind
  of_attribute : Kind
  of_none : Kind

-- by the tag of the first child: a certificate may begin with its version, and a list without a version begins with the algorithm
abbrev kind_by_first : Tag → Kind → Kind
kind_by_first a other = cond (same_tag a (context 0)) of_certificate (cond (same_tag a (universal 16)) of_list other)

-- by that of the fourth, where the first is an INTEGER
abbrev kind_by_fourth : Tag → Kind → Kind
kind_by_fourth d other = cond (has time.starts d) of_list (cond (same_tag d (context 0)) of_request other)

-- by that of the fifth, where the fourth is a SEQUENCE: the number of an attribute certificate, or the subject of a certificate
abbrev kind_by_fifth : List Element → Kind
kind_by_fifth [] = of_none
kind_by_fifth (e ∷ rest) = cond (same_tag e.tag (universal 2)) of_attribute of_certificate

-- by what follows the first child
abbrev kind_behind : List Element → Kind
kind_behind [] = of_none
kind_behind (b ∷ []) = of_none
kind_behind (b ∷ c ∷ []) = of_none
kind_behind (b ∷ c ∷ d ∷ rest) = kind_by_fourth d.tag (kind_by_fifth rest)

abbrev kind : List Element → Kind
kind [] = of_none
kind (a ∷ others) = kind_by_first a.tag (kind_behind others)

abbrev kind_by : Tag → Tag → Kind → Kind
kind_by a d other = kind_by_first a (kind_by_fourth d other)

kind_at : (ss o1 o2 o3 o4 : List Element) (a b c d : Element) → ss ≡ a ∷ o1 → o1 ≡ b ∷ o2 → o2 ≡ c ∷ o3 → o3 ≡ d ∷ o4
    → kind ss ≡ kind_by a.tag d.tag (kind_by_fifth o4)
kind_at ss o1 o2 o3 o4 a b c d e1 e2 e3 e4 = rw (e1, e2, e3, e4) refl

kind_is : (k : Kind) (ss o1 o2 o3 o4 : List Element) (a b c d : Element) (g : Tag) → ss ≡ a ∷ o1 → o1 ≡ b ∷ o2 → o2 ≡ c ∷ o3 → o3 ≡ d ∷ o4
    → a.tag ≡ g → kind_by g d.tag (kind_by_fifth o4) ≡ k → kind ss ≡ k
kind_is k ss o1 o2 o3 o4 a b c d g e1 e2 e3 e4 s t = kind_at ss o1 o2 o3 o4 a b c d e1 e2 e3 e4 ∙ rw s t

list_tags : (t : Tag) (other : Kind) → has time.starts t ≡ true → kind_by (universal 2) t other ≡ of_list
list_tags t other h = rw h refl

request_tags : (t : Tag) (other : Kind) → t ≡ context 0 → kind_by (universal 2) t other ≡ of_request
request_tags t other h = rw h refl

-- the fifth child determines the kind, after an INTEGER and three others of which the last is a SEQUENCE
fifth_tags : (k : Kind) (t : Tag) (o4 o5 : List Element) (e : Element) (g : Tag) → t ≡ universal 16 → o4 ≡ e ∷ o5 → e.tag ≡ g
    → cond (same_tag g (universal 2)) of_attribute of_certificate ≡ k → kind_by (universal 2) t (kind_by_fifth o4) ≡ k
fifth_tags k t o4 o5 e g h s f is = rw (h, s, f) is

one_tag : (g t : Tag) → has (these (g ∷ [])) t ≡ true → t ≡ g
one_tag g t h = same_tag_is t g (sym (or-false (same_tag t g)) ∙ h)

abbrev request_attributes : Codec (List Attribute)
request_attributes = implicitly (context 0) (set_of attribute 0 None [] refl) refl

kind_of_request : (v : CertificationRequestInfo) (ss rest : List Element) → all_encodable ss ≡ true
    → certification_request_info_fields.fields.get ss ≡ Some (v, rest) → kind ss ≡ of_request
unfolding certification_request_info_fields
kind_of_request v ss rest h e =
    let z = bind_some _ _ (v, rest) e in
    let f1 = front_of version (required name & required subject_public_key_info & required request_attributes) ss z.0 h z.1 in
    let f2 = front_of name (required subject_public_key_info & required request_attributes) f1.others (f1.value, f1.after) f1.encodable f1.read in
    let f3 = front_of subject_public_key_info (required request_attributes) f2.others (f2.value, f2.after) f2.encodable f2.read in
    let f4 = last_of request_attributes f3.others (f3.value, f3.after) f3.encodable f3.read in
    kind_is of_request ss f1.others f2.others f3.others f4.1 f1.first f2.first f3.first f4.0 (universal 2) f1.split_so f2.split_so f3.split_so
    f4.2 (one_tag (universal 2) f1.first.tag f1.starts) (request_tags f4.0.tag (kind_by_fifth f4.1) (one_tag (context 0) f4.0.tag f4.3))

abbrev list_end : FieldsOf (Option Time × (List RevokedCertificate × Option Extensions))
list_end = optional time & unwritten_if_empty (sequence_of revoked_certificate 0 None refl) & optional (explicitly (context 0) extensions)

abbrev list_rest : FieldsOf (AlgorithmIdentifier × (Name × (Time × (Option Time × (List RevokedCertificate × Option Extensions)))))
list_rest = required algorithm_identifier & required name & required time & list_end

abbrev list_row : FieldsOf (Option Version × (AlgorithmIdentifier × (Name × (Time × (Option Time × (List RevokedCertificate × Option Extensions))))))
list_row = optional version & list_rest

-- the three children after a version
kind_of_list_at : (ss mid : List Element) → Placed (these (universal 2 ∷ [])) ss mid → (o1 o2 o3 : List Element) (a b c : Element)
    → mid ≡ a ∷ o1 → o1 ≡ b ∷ o2 → o2 ≡ c ∷ o3 → a.tag ≡ universal 16 → has time.starts c.tag ≡ true → kind ss ≡ of_list
kind_of_list_at ss mid (inl same) o1 o2 o3 a b c e1 e2 e3 s t = rw (same ∙ e1, s) refl
kind_of_list_at ss mid (inr x) o1 o2 o3 a b c e1 e2 e3 s t =
    kind_is of_list ss mid o1 o2 o3 x.0 a b c (universal 2) x.1 e1 e2 e3 (one_tag (universal 2) x.0.tag x.2)
    (list_tags c.tag (kind_by_fifth o3) t)

kind_of_list : (v : TbsCertList) (ss rest : List Element) → all_encodable ss ≡ true
    → tbs_cert_list_fields.fields.get ss ≡ Some (v, rest) → kind ss ≡ of_list
unfolding tbs_cert_list_fields
kind_of_list v ss rest h e =
    let z = bind_some (list_row.get ss) _ (v, rest) e in
    let y = bind_some {A = Option Version × List Element} (optional_at version.starts version.read_of ss)
    (λ x. list_rest.get x.1 >>= λ q. Some ((x.0, q.0), q.1)) z.0 z.1 in
    let r = bind_some (list_rest.get y.0.1) (λ q. Some ((y.0.0, q.0), q.1)) z.0 y.2 in
    let p = placed version ss y.0.0 y.0.1 y.1 in
    let mid = y.0.1 in
    let f1 = front_of algorithm_identifier (required name & required time & list_end) mid r.0
    (placed_encodable (these (universal 2 ∷ [])) ss mid p h) r.1 in
    let f2 = front_of name (required time & list_end) f1.others (f1.value, f1.after) f1.encodable f1.read in
    let f3 = front_of time list_end f2.others (f2.value, f2.after) f2.encodable f2.read in
    kind_of_list_at ss mid p f1.others f2.others f3.others f1.first f2.first f3.first f1.split_so f2.split_so f3.split_so
    (one_tag (universal 16) f1.first.tag f1.starts) f3.starts

-- the five children after a version
kind_of_certificate_at : (ss mid : List Element) → Placed (these (context 0 ∷ [])) ss mid → (o1 o2 o3 o4 o5 : List Element) (a b c d e : Element)
    → mid ≡ a ∷ o1 → o1 ≡ b ∷ o2 → o2 ≡ c ∷ o3 → o3 ≡ d ∷ o4 → o4 ≡ e ∷ o5 → a.tag ≡ universal 2 → d.tag ≡ universal 16 → e.tag ≡ universal 16
    → kind ss ≡ of_certificate
kind_of_certificate_at ss mid (inl same) o1 o2 o3 o4 o5 a b c d e e1 e2 e3 e4 e5 s t u =
    kind_is of_certificate ss o1 o2 o3 o4 a b c d (universal 2) (same ∙ e1) e2 e3 e4 s (fifth_tags of_certificate d.tag o4 o5 e (universal 16) t e5 u refl)
kind_of_certificate_at ss mid (inr x) o1 o2 o3 o4 o5 a b c d e e1 e2 e3 e4 e5 s t u =
    kind_at ss mid o1 o2 o3 x.0 a b c x.1 e1 e2 e3 ∙ rw (one_tag (context 0) x.0.tag x.2) refl

abbrev certificate_version : Codec Version
certificate_version = explicitly (context 0) version

abbrev subject_end : FieldsOf (SubjectPublicKeyInfo × (Option Bits × (Option Bits × Option Extensions)))
subject_end =
    required subject_public_key_info & optional (implicitly (context 1) bit_string refl)
    & optional (implicitly (context 2) bit_string refl) & optional (explicitly (context 3) extensions)

abbrev certificate_end : FieldsOf (Name × (SubjectPublicKeyInfo × (Option Bits × (Option Bits × Option Extensions))))
certificate_end = required name & subject_end

abbrev certificate_rest : FieldsOf (List ℕ × (AlgorithmIdentifier × (Name × (Validity × (Name × (SubjectPublicKeyInfo × (Option Bits × (Option Bits
    × Option Extensions))))))))
certificate_rest = required integer & required algorithm_identifier & required name & required validity & certificate_end

abbrev certificate_row : FieldsOf (Version × (List ℕ × (AlgorithmIdentifier × (Name × (Validity × (Name × (SubjectPublicKeyInfo
    × (Option Bits × (Option Bits × Option Extensions)))))))))
certificate_row = with_default certificate_version same_version same_version_exact v1 & certificate_rest

kind_of_certificate : (v : TbsCertificate) (ss rest : List Element) → all_encodable ss ≡ true
    → tbs_certificate_fields.fields.get ss ≡ Some (v, rest) → kind ss ≡ of_certificate
unfolding tbs_certificate_fields
kind_of_certificate v ss rest h e =
    let z = bind_some (certificate_row.get ss) _ (v, rest) e in
    let y = bind_some {A = Version × List Element} (default_get (optional certificate_version) same_version v1 ss)
    (λ x. certificate_rest.get x.1 >>= λ q. Some ((x.0, q.0), q.1)) z.0 z.1 in
    let r = bind_some (certificate_rest.get y.0.1) (λ q. Some ((y.0.0, q.0), q.1)) z.0 y.2 in
    let p = default_place certificate_version same_version v1 ss y.0 y.1 in
    let mid = y.0.1 in
    let f1 = front_of integer (required algorithm_identifier & required name & required validity & certificate_end) mid r.0
    (placed_encodable (these (context 0 ∷ [])) ss mid p h) r.1 in
    let f2 = front_of algorithm_identifier (required name & required validity & certificate_end) f1.others (f1.value, f1.after) f1.encodable f1.read in
    let f3 = front_of name (required validity & certificate_end) f2.others (f2.value, f2.after) f2.encodable f2.read in
    let f4 = front_of validity certificate_end f3.others (f3.value, f3.after) f3.encodable f3.read in
    let f5 = front_of name subject_end f4.others (f4.value, f4.after) f4.encodable f4.read in
    kind_of_certificate_at ss mid p f1.others f2.others f3.others f4.others f5.others f1.first f2.first f3.first f4.first f5.first f1.split_so
    f2.split_so f3.split_so f4.split_so f5.split_so (one_tag (universal 2) f1.first.tag f1.starts) (one_tag (universal 16) f4.first.tag f4.starts)
    (one_tag (universal 16) f5.first.tag f5.starts)

abbrev attribute_end : FieldsOf (AttributeCertificateValidityPeriod × (List Attribute × (Option Bits × Option Extensions)))
attribute_end =
    required attribute_certificate_validity_period & required (sequence_of attribute 0 None refl) & optional bit_string & optional extensions

kind_of_attribute : (v : AttributeCertificateInfo) (ss rest : List Element) → all_encodable ss ≡ true
    → attribute_certificate_info_fields.fields.get ss ≡ Some (v, rest) → kind ss ≡ of_attribute
unfolding attribute_certificate_info_fields
kind_of_attribute v ss rest h e =
    let z = bind_some _ _ (v, rest) e in
    let f1 = front_of attribute_certificate_version
    (required holder & required issuer & required algorithm_identifier & required integer & attribute_end) ss z.0 h z.1 in
    let f2 = front_of holder (required issuer & required algorithm_identifier & required integer & attribute_end) f1.others (f1.value, f1.after)
    f1.encodable f1.read in
    let f3 = front_of issuer (required algorithm_identifier & required integer & attribute_end) f2.others (f2.value, f2.after) f2.encodable f2.read in
    let f4 = front_of algorithm_identifier (required integer & attribute_end) f3.others (f3.value, f3.after) f3.encodable f3.read in
    let f5 = front_of integer attribute_end f4.others (f4.value, f4.after) f4.encodable f4.read in
    kind_is of_attribute ss f1.others f2.others f3.others f4.others f1.first f2.first f3.first f4.first (universal 2) f1.split_so f2.split_so
    f3.split_so f4.split_so (one_tag (universal 2) f1.first.tag f1.starts)
    (fifth_tags of_attribute f4.first.tag f4.others f5.others f5.first (universal 2) (one_tag (universal 16) f4.first.tag f4.starts) f5.split_so
    (one_tag (universal 2) f5.first.tag f5.starts) refl)

-- ---- two kinds

-- the forms of two values with the same octets have the same children
two_kinds : {A B : Type 0} (x : Struct A) (y : Struct B) (v : A) (w : B) (b : List ℕ) (j k : Kind)
    → ((ss rest : List Element) → all_encodable ss ≡ true → x.fields.get ss ≡ Some (v, rest) → kind ss ≡ j)
    → ((ss rest : List Element) → all_encodable ss ≡ true → y.fields.get ss ≡ Some (w, rest) → kind ss ≡ k)
    → IsDerOf (sequence (universal 16) x) v b → IsDerOf (sequence (universal 16) y) w b → j ≡ k
two_kinds x y v w b j k first second h g =
    let p = front_is (sequence (universal 16) x) b v b [] h (sym (append-nil b)) in
    let q = front_is (sequence (universal 16) y) b w b [] g (sym (append-nil b)) in
    let same : h.1 ≡ g.1 = ap (λ (z : Element × List ℕ). z.0) (some_is (h.1, []) (g.1, []) (sym p.0 ∙ q.0)) in
    let m = fields_of x v h.1 p.1 in
    let n = fields_of y w g.1 q.1 in
    let children : m.all ≡ n.all = some_is m.all n.all (sym m.are_children ∙ ap sequence_children same ∙ n.are_children) in
    sym (first m.all m.rest m.are_encodable m.are_read) ∙ ap kind children ∙ second n.all n.rest n.are_encodable n.are_read

pub certificate_is_no_request : (c : TbsCertificate) (r : CertificationRequestInfo) (b : List ℕ) → IsDerOf tbs_certificate c b
    → ¬ (IsDerOf certification_request_info r b)
certificate_is_no_request c r b h g =
    let same = two_kinds tbs_certificate_fields certification_request_info_fields c r b of_certificate of_request
    (kind_of_certificate c) (kind_of_request r) h g in
    absurd (let e : of_certificate ≡ of_request = same in cc)

pub certificate_is_no_list : (c : TbsCertificate) (l : TbsCertList) (b : List ℕ) → IsDerOf tbs_certificate c b → ¬ (IsDerOf tbs_cert_list l b)
certificate_is_no_list c l b h g =
    let same = two_kinds tbs_certificate_fields tbs_cert_list_fields c l b of_certificate of_list (kind_of_certificate c) (kind_of_list l) h g in
    absurd (let e : of_certificate ≡ of_list = same in cc)

pub request_is_no_list : (r : CertificationRequestInfo) (l : TbsCertList) (b : List ℕ) → IsDerOf certification_request_info r b
    → ¬ (IsDerOf tbs_cert_list l b)
request_is_no_list r l b h g =
    let same = two_kinds certification_request_info_fields tbs_cert_list_fields r l b of_request of_list (kind_of_request r) (kind_of_list l) h g in
    absurd (let e : of_request ≡ of_list = same in cc)

pub certificate_is_no_attribute : (c : TbsCertificate) (a : AttributeCertificateInfo) (b : List ℕ) → IsDerOf tbs_certificate c b
    → ¬ (IsDerOf attribute_certificate_info a b)
certificate_is_no_attribute c a b h g =
    let same = two_kinds tbs_certificate_fields attribute_certificate_info_fields c a b of_certificate of_attribute
    (kind_of_certificate c) (kind_of_attribute a) h g in
    absurd (let e : of_certificate ≡ of_attribute = same in cc)

pub request_is_no_attribute : (r : CertificationRequestInfo) (a : AttributeCertificateInfo) (b : List ℕ) → IsDerOf certification_request_info r b
    → ¬ (IsDerOf attribute_certificate_info a b)
request_is_no_attribute r a b h g =
    let same = two_kinds certification_request_info_fields attribute_certificate_info_fields r a b of_request of_attribute
    (kind_of_request r) (kind_of_attribute a) h g in
    absurd (let e : of_request ≡ of_attribute = same in cc)

pub list_is_no_attribute : (l : TbsCertList) (a : AttributeCertificateInfo) (b : List ℕ) → IsDerOf tbs_cert_list l b
    → ¬ (IsDerOf attribute_certificate_info a b)
list_is_no_attribute l a b h g =
    let same = two_kinds tbs_cert_list_fields attribute_certificate_info_fields l a b of_list of_attribute (kind_of_list l) (kind_of_attribute a) h g in
    absurd (let e : of_list ≡ of_attribute = same in cc)
