-- What is tested over the parts of certificates are the conditions on the certificates.
use Rattle.std.specs.Prelude.{Bool, List, MatchOption, None, Option, Some, cond, drop, false, find, int_lt, map}
use Rattle.std.specs.Prelude.{not, refl, true, ℕ, [], ◌&&◌, ◌+◌, ◌<ℤ◌, ◌==◌, ◌||◌, ◌∷◌, ◌≡◌, ℤ}
use Rattle.std.specs.Bool.{Decides}
use Rattle.std.specs.List.{IsDistinct, list_any}
use Rattle.std.specs.Option.{option_or}
use Rattle.std.specs.Str.{bytes_eq}
use Rattle.std.proofs.Common.{ap, arith, inl, inr, subst, sym, ◌∙◌}
use Rattle.std.proofs.lemmas.Bool.Decides.{Decides-and, Decides-at, Decides-eqb, Decides-like, Decides-not, same_from_decides}
use Rattle.std.proofs.lemmas.Slice.Eq.{bytes_eq-Decides}
use Rattle.pkix_cert.specs.ExtensionIds.{ce_basic_constraints, ce_ext_key_usage, ce_key_usage, ce_subject_alt_name, id_ce, id_ce_der}
use Rattle.jiff.specs.Types.{DateTime}
use Rattle.jiff.specs.Words.{civil_nanos}
use Rattle.asn1_core.specs.Base128.{digits}
use Rattle.asn1_core.specs.Binds.{some_is, ◌>>=◌}
use Rattle.asn1_core.specs.Bits.{Bits, has_bit}
use Rattle.asn1_core.specs.ObjectIdentifiers.{object_identifier_contents}
use Rattle.der_tree.specs.Codec.{Codec}
use Rattle.der_tree.specs.Element.{element_octets, identifier_octets, length_octets}
use Rattle.der_tree.specs.Form.{IsDerOf, value_of}
use Rattle.der_tree.specs.PrimitiveTypes.{bit_string, object_identifier}
use Rattle.der_tree.proofs.FormLaws.{same_form, same_value, value_again}
use Rattle.pkix_name.specs.Names.{name}
use Rattle.pkix_cert.specs.Algorithms.{algorithm_identifier, subject_public_key_info}
use Rattle.pkix_cert.specs.Certificates.{tbs_certificate}
use Rattle.pkix_cert.specs.Constraints.{basic_constraints}
use Rattle.pkix_cert.specs.Held.{AreOfExtensions, IsOfCertificate, IsOfExtension}
use Rattle.pkix_cert.specs.Times.{validity}
use Rattle.pkix_cert.specs.Views.{CertificateParts, ExtensionParts}
use Rattle.pkix_cert.specs.declared.certificate.Certificate.{Certificate}
use Rattle.pkix_cert.specs.declared.constraint.BasicConstraints.{BasicConstraints}
use Rattle.pkix_cert.specs.declared.extension.Extension.{Extension}
use Rattle.pkix_cert.specs.declared.time.Validity.{Validity}
use Rattle.chain_check.specs.Extensions.{AreReadable, IsOneValue, basic_constraints_of, contents_with, extensions_of}
use Rattle.chain_check.specs.Extensions.{is_handled, is_unhandled, key_usage_of, same_id}
use Rattle.chain_check.specs.Inputs.{Inputs, Place}
use Rattle.chain_check.specs.ViewChecks.{algorithms_differ, bad_extension, bad_signature, extension_reason}
use Rattle.chain_check.specs.ViewChecks.{handled, is_earlier}
use Rattle.chain_check.specs.ViewChecks.{issued_reason, issuing_reason, judged, most_below, no_cert_sign, not_ca, own_reason}
use Rattle.chain_check.specs.ViewChecks.{place_reason, read_ca_extensions, said, time_reason, too_long, unhandled, validity_reason}
use Rattle.pkix_cert.specs.Times.{moment_of}
use Rattle.chain_check.specs.Reasons.{AreNotSelfIssued, Breaks, IsEarlier, IsIssuing, IsSigned, is_below}
use Rattle.chain_check.specs.declared.extension.CaExtensions.{CaExtensions}
use Rattle.chain_check.specs.declared.error.ChainReason.{ChainReason}
use Rattle.chain_check.specs.declared.error.ChainReason.TheVariants.{Empty, NotCertificate, AlgorithmsDiffer, NotYetValid, Expired, BadExtension}
use Rattle.chain_check.specs.declared.error.ChainReason.TheVariants.{UnhandledCritical, NotCa, NoCertSign, PathTooLong, NameMismatch, BadSignature}
use Rattle.extension_lookup.proofs.Distinct.{distinct_decides}
use Rattle.extension_lookup.specs.Lookup.{are_distinct, contents_at, ids_of, is_one_value, read_from}
use Rattle.chain_check.proofs.Orders.{IsLeast, all_reasons, least}

-- ---- truth values

not_true : (b : Bool) → Decides (not b) (b ≡ false)
not_true true = (λ e. absurd cc, λ e. absurd cc)
not_true false = (λ e. refl, λ e. refl)

is_itself : (b : Bool) → Decides b (b ≡ true)
is_itself b = (λ e. e, λ e. e)

never : Decides false ⊥
never = (λ e. absurd cc, λ h. absurd h)

pub no_some : {A : Type 0} (y : A) → Some y ≡ None → ⊥
no_some y e = cc

-- ---- forms

-- forms are equal where their values are
pub forms_decide : {A : Type 0} (c : Codec A) (v w : A) (a b : List ℕ) → IsDerOf c v a → IsDerOf c w b → Decides (bytes_eq a b) (v ≡ w)
forms_decide {A} c v w a b h k =
    Decides-like (bytes_eq a b)
    (λ e. same_value c v w b (subst (λ (x : List ℕ). IsDerOf c v x) e h) k)
    (λ e. same_form c w a b (subst (λ (x : A). IsDerOf c x a) e h) k)
    (bytes_eq-Decides a b)

same_ids : (v w a b : List ℕ) → IsDerOf object_identifier v a → IsDerOf object_identifier w b → bytes_eq a b ≡ same_id v w
same_ids v w a b h k = same_from_decides (bytes_eq a b) (same_id v w) (forms_decide object_identifier v w a b h k) (bytes_eq-Decides v w)

id_15 : IsDerOf object_identifier (id_ce ce_key_usage) (id_ce_der ce_key_usage)
unfolding object_identifier_contents element_octets identifier_octets length_octets digits
id_15 = (_, _, refl, refl, refl)

id_17 : IsDerOf object_identifier (id_ce ce_subject_alt_name) (id_ce_der ce_subject_alt_name)
unfolding object_identifier_contents element_octets identifier_octets length_octets digits
id_17 = (_, _, refl, refl, refl)

id_19 : IsDerOf object_identifier (id_ce ce_basic_constraints) (id_ce_der ce_basic_constraints)
unfolding object_identifier_contents element_octets identifier_octets length_octets digits
id_19 = (_, _, refl, refl, refl)

id_37 : IsDerOf object_identifier (id_ce ce_ext_key_usage) (id_ce_der ce_ext_key_usage)
unfolding object_identifier_contents element_octets identifier_octets length_octets digits
id_37 = (_, _, refl, refl, refl)

-- ---- extensions

-- a test of each extension is one of its parts
any_are : (f : Extension → Bool) (g : ExtensionParts → Bool) (es : List Extension) (ps : List ExtensionParts)
    → ((e : Extension) (p : ExtensionParts) → IsOfExtension e p → g p ≡ f e) → AreOfExtensions es ps → list_any g ps ≡ list_any f es
any_are f g [] [] same h = refl
any_are f g [] (p ∷ ps) same h = absurd h
any_are f g (e ∷ es) [] same h = absurd h
any_are f g (e ∷ es) (p ∷ ps) same h = ap (λ (b : Bool). b || list_any g ps) (same e p h.0) ∙ ap (λ (b : Bool). f e || b) (any_are f g es ps same h.1)

found_step : (b : Bool) (e : Extension) (p : ExtensionParts) (r : Option ExtensionParts) (s : Option Extension) → p.contents ≡ e.extn_value
    → (r >>= λ q. Some q.contents) ≡ (s >>= λ f. Some f.extn_value)
    → (cond b (Some p) r >>= λ q. Some q.contents) ≡ (cond b (Some e) s >>= λ f. Some f.extn_value)
found_step true e p r s h more = ap (λ (x : List ℕ). Some x) h
found_step false e p r s h more = more

pub contents_are : (id octets : List ℕ) → IsDerOf object_identifier id octets → (es : List Extension) (ps : List ExtensionParts) → AreOfExtensions es ps
    → contents_at octets ps ≡ contents_with id es
unfolding contents_at
contents_are id octets is [] [] h = refl
contents_are id octets is [] (p ∷ ps) h = absurd h
contents_are id octets is (e ∷ es) [] h = absurd h
contents_are id octets is (e ∷ es) (p ∷ ps) h =
    ap (λ (b : Bool). cond b (Some p) (find (λ q. bytes_eq q.id octets) ps) >>= λ q. Some q.contents) (same_ids e.extn_id id p.id octets h.0.id is)
    ∙ found_step (same_id e.extn_id id) e p (find (λ q. bytes_eq q.id octets) ps) (find (λ f. same_id f.extn_id id) es) h.0.contents
    (contents_are id octets is es ps h.1)

any_ids : (id octets : List ℕ) → IsDerOf object_identifier id octets → (es : List Extension) (ps : List ExtensionParts) → AreOfExtensions es ps
    → list_any (bytes_eq octets) (ids_of ps) ≡ list_any (same_id id) (map (λ (e : Extension). e.extn_id) es)
any_ids id octets is [] [] h = refl
any_ids id octets is [] (p ∷ ps) h = absurd h
any_ids id octets is (e ∷ es) [] h = absurd h
any_ids id octets is (e ∷ es) (p ∷ ps) h =
    ap (λ (b : Bool). b || list_any (bytes_eq octets) (ids_of ps)) (same_ids id e.extn_id octets p.id is h.0.id)
    ∙ ap (λ (b : Bool). same_id id e.extn_id || b) (any_ids id octets is es ps h.1)

same_distinct : (es : List Extension) (ps : List ExtensionParts) → AreOfExtensions es ps
    → are_distinct (ids_of ps) ≡ are_distinct (map (λ (e : Extension). e.extn_id) es)
same_distinct [] [] h = refl
same_distinct [] (p ∷ ps) h = absurd h
same_distinct (e ∷ es) [] h = absurd h
same_distinct (e ∷ es) (p ∷ ps) h =
    ap (λ (b : Bool). not b && are_distinct (ids_of ps)) (any_ids e.extn_id p.id h.0.id es ps h.1)
    ∙ ap (λ (b : Bool). not (list_any (same_id e.extn_id) (map (λ (f : Extension). f.extn_id) es)) && b) (same_distinct es ps h.1)

distinct_are : (es : List Extension) (ps : List ExtensionParts) → AreOfExtensions es ps
    → Decides (are_distinct (ids_of ps)) (IsDistinct same_id (map (λ (e : Extension). e.extn_id) es))
distinct_are es ps h =
    Decides-at (are_distinct (ids_of ps)) (are_distinct (map (λ (e : Extension). e.extn_id) es)) (same_distinct es ps h)
    (distinct_decides (map (λ (e : Extension). e.extn_id) es))

one_value_is : {A : Type 0} (c : Codec A) (o : Option (List ℕ)) → Decides (is_one_value c o) (IsOneValue c o)
unfolding is_one_value
one_value_is c None = (λ e. tt, λ h. refl)
one_value_is c (Some octets) = (λ e. e, λ h. h)

one_value_of : {A : Type 0} (c : Codec A) (id octets : List ℕ) → IsDerOf object_identifier id octets → (es : List Extension) (ps : List ExtensionParts)
    → AreOfExtensions es ps
    → Decides (is_one_value c (contents_at octets ps)) (IsOneValue c (contents_with id es))
one_value_of c id octets is es ps h =
    Decides-at (is_one_value c (contents_at octets ps)) (is_one_value c (contents_with id es)) (ap (λ (o : Option (List ℕ)). is_one_value c o)
    (contents_are id octets is es ps h))
    (one_value_is c (contents_with id es))

readable : (es : List Extension) (ps : List ExtensionParts) → AreOfExtensions es ps → Decides (bad_extension ps) (¬ (AreReadable es))
readable es ps h =
    let d = are_distinct (ids_of ps) in
    let u = is_one_value bit_string (contents_at (id_ce_der ce_key_usage) ps) in
    let b = is_one_value basic_constraints (contents_at (id_ce_der ce_basic_constraints) ps) in
    Decides-not (d && u && b)
    (Decides-like (d && u && b)
    (λ k. record { distinct = k.0.0; key_usage = k.0.1; basic_constraints = k.1 })
    (λ r. ((r.distinct, r.key_usage), r.basic_constraints))
    (Decides-and (d && u) b (Decides-and d u (distinct_are es ps h) (one_value_of bit_string (id_ce ce_key_usage) (id_ce_der ce_key_usage) id_15 es ps h))
    (one_value_of basic_constraints (id_ce ce_basic_constraints) (id_ce_der ce_basic_constraints) id_19 es ps h)))

grouped : (a b c d : Bool) → (a || b || c || d) ≡ (a || (b || (c || (d || false))))
grouped true b c d = refl
grouped false true c d = refl
grouped false false true d = refl
grouped false false false true = refl
grouped false false false false = refl

same_handled : (id octets : List ℕ) → IsDerOf object_identifier id octets → handled octets ≡ is_handled id
unfolding handled
same_handled id octets is =
    rw (
      same_ids id (id_ce ce_key_usage) octets (id_ce_der ce_key_usage) is id_15,
      same_ids id (id_ce ce_subject_alt_name) octets (id_ce_der ce_subject_alt_name) is id_17,
      same_ids id (id_ce ce_basic_constraints) octets (id_ce_der ce_basic_constraints) is id_19,
      same_ids id (id_ce ce_ext_key_usage) octets (id_ce_der ce_ext_key_usage) is id_37,
    )
    (grouped (same_id id (id_ce ce_key_usage)) (same_id id (id_ce ce_subject_alt_name)) (same_id id (id_ce ce_basic_constraints)) (same_id id (id_ce ce_ext_key_usage)))

same_unhandled : (e : Extension) (p : ExtensionParts) → IsOfExtension e p → unhandled p ≡ is_unhandled e
same_unhandled e p h =
    ap (λ (b : Bool). b && not (handled p.id)) h.critical ∙ ap (λ (b : Bool). e.critical && not b) (same_handled e.extn_id p.id h.id)

-- ---- times

earlier : (a b : DateTime) → Decides (is_earlier a b) (IsEarlier a b)
earlier a b = (λ e. lt_yes (civil_nanos a) (civil_nanos b) e, λ l. lt_no (civil_nanos a) (civil_nanos b) l)
  where
    lt_yes : (x y : ℤ) → int_lt x y ≡ true → x <ℤ y
    lt_yes x y e = grind arith

    lt_no : (x y : ℤ) → x <ℤ y → int_lt x y ≡ true
    lt_no x y l = grind arith

abbrev too_early : DateTime → Option Validity → Bool
too_early at None = true
too_early at (Some v) = is_earlier at (moment_of v.not_before)

abbrev too_late : DateTime → Option Validity → Bool
too_late at None = false
too_late at (Some v) = is_earlier (moment_of v.not_after) at

time_is : (at : DateTime) (o : Option Validity) → time_reason at o ≡ cond (too_early at o) (Some NotYetValid) (cond (too_late at o) (Some Expired) None)
unfolding time_reason validity_reason
time_is at None = refl
time_is at (Some v) = refl

-- ---- what one that issued another is for

-- the count that the code keeps, None where nothing comes before
abbrev pub IsCountBefore : List Certificate → Option ℕ → Type 0
IsCountBefore [] o = o ≡ None
IsCountBefore (b ∷ bs) o = (n : ℕ) × (o ≡ Some n) × AreNotSelfIssued bs n

pub one_count : (cs : List Certificate) (m n : ℕ) → AreNotSelfIssued cs m → AreNotSelfIssued cs n → m ≡ n
one_count [] m n h k = h ∙ sym k
one_count (c ∷ cs) m n (inl h) (inl k) = one_count cs m n h.1 k.1
one_count (c ∷ cs) m n (inl h) (inr k) = absurd (k.0 h.0)
one_count (c ∷ cs) m n (inr h) (inl k) = absurd (h.0 k.0)
one_count (c ∷ cs) m n (inr h) (inr k) = h.1.1 ∙ ap (λ (x : ℕ). x + 1) (one_count cs h.1.0 k.1.0 h.1.2 k.1.2) ∙ sym k.1.1

ca_is : (o : Option BasicConstraints) → Decides (not_ca o) (MatchOption o (Unit {0}) (λ b. b.ca ≡ false))
unfolding not_ca
ca_is None = (λ e. tt, λ h. refl)
ca_is (Some b) = not_true b.ca

cert_sign_is : (o : Option Bits) → Decides (no_cert_sign o) (MatchOption o ⊥ (λ usage. has_bit usage 5 ≡ false))
unfolding no_cert_sign
cert_sign_is None = never
cert_sign_is (Some usage) = not_true (has_bit usage 5)

abbrev IsOver : List Certificate → Option (List ℕ) → Type 0
IsOver cs o = MatchOption o ⊥ (λ most. (n : ℕ) × AreNotSelfIssued cs n × (is_below most n ≡ true))

most_is : (cs : List Certificate) (n : ℕ) → AreNotSelfIssued cs n → (o : Option (List ℕ)) → Decides (most_below n o) (IsOver cs o)
most_is cs n h None = never
most_is cs n h (Some most) = (λ e. (n, h, e), λ k. ap (λ (x : ℕ). is_below most x) (one_count cs n k.0 h k.1) ∙ k.2)

too_long_is : (cs : List Certificate) (n : ℕ) → AreNotSelfIssued cs n → (o : Option BasicConstraints)
    → Decides (too_long n o) (MatchOption o ⊥ (λ b. IsOver cs b.path_len_constraint))
unfolding too_long
too_long_is cs n h None = never
too_long_is cs n h (Some b) = most_is cs n h b.path_len_constraint

-- ---- a place

abbrev if_issuing : Option ℕ → (ℕ → Bool) → Bool
if_issuing None test = false
if_issuing (Some n) test = test n

-- the test of each reason
abbrev pub breaks : (List ℕ → List ℕ → List ℕ → List ℕ → Bool) → DateTime → Option ℕ → CertificateParts → CertificateParts → ChainReason → Bool
breaks accepts at others p q Empty = false
breaks accepts at others p q NotCertificate = false
breaks accepts at others p q AlgorithmsDiffer = algorithms_differ p
breaks accepts at others p q NotYetValid = too_early at (value_of validity p.validity)
breaks accepts at others p q Expired = too_late at (value_of validity p.validity)
breaks accepts at others p q BadExtension = bad_extension p.extensions
breaks accepts at others p q UnhandledCritical = list_any unhandled p.extensions
breaks accepts at others p q NotCa = if_issuing others (λ n. not_ca (said p.extensions).constraints)
breaks accepts at others p q NoCertSign = if_issuing others (λ n. no_cert_sign (said p.extensions).usage)
breaks accepts at others p q PathTooLong = if_issuing others (λ n. too_long n (said p.extensions).constraints)
breaks accepts at others p q NameMismatch = not (bytes_eq p.issuer q.subject)
breaks accepts at others p q BadSignature = bad_signature (accepts p.tbs q.key_info p.signature_algorithm) (value_of bit_string p.signature)

abbrev three : Bool → Bool → Bool → Option ChainReason → Option ChainReason
three a y e rest = cond a (Some AlgorithmsDiffer) (cond y (Some NotYetValid) (cond e (Some Expired) rest))

own_first : (a y e : Bool) (rest : Option ChainReason)
    → option_or (cond a (Some AlgorithmsDiffer) (cond y (Some NotYetValid) (cond e (Some Expired) None))) rest ≡ three a y e rest
own_first true y e rest = refl
own_first false true e rest = refl
own_first false false true rest = refl
own_first false false false rest = refl

own_is : (at : DateTime) (p : CertificateParts) (rest : Option ChainReason)
    → option_or (own_reason at p) rest
    ≡ three (algorithms_differ p) (too_early at (value_of validity p.validity)) (too_late at (value_of validity p.validity)) rest
unfolding own_reason
own_is at p rest =
    ap (λ (o : Option ChainReason). option_or (cond (algorithms_differ p) (Some AlgorithmsDiffer) o) rest) (time_is at (value_of validity p.validity))
    ∙ own_first (algorithms_differ p) (too_early at (value_of validity p.validity)) (too_late at (value_of validity p.validity)) rest

issuing_first : (n k l : Bool) (rest : Option ChainReason)
    → option_or (cond n (Some NotCa) (cond k (Some NoCertSign) (cond l (Some PathTooLong) None))) rest
    ≡ cond n (Some NotCa) (cond k (Some NoCertSign) (cond l (Some PathTooLong) rest))
issuing_first true k l rest = refl
issuing_first false true l rest = refl
issuing_first false false true rest = refl
issuing_first false false false rest = refl

extension_first : (others : Option ℕ) (b u : Bool) (s : CaExtensions) (rest : Option ChainReason)
    → option_or (judged others u (cond b None (Some s))) rest
    ≡ cond b (Some BadExtension) (cond u (Some UnhandledCritical)
    (cond (if_issuing others (λ n. not_ca s.constraints)) (Some NotCa) (cond (if_issuing others (λ n. no_cert_sign s.usage)) (Some NoCertSign)
    (cond (if_issuing others (λ n. too_long n s.constraints)) (Some PathTooLong) rest))))
unfolding issuing_reason
extension_first others true u s rest = refl
extension_first others false true s rest = refl
extension_first None false false s rest = refl
extension_first (Some n) false false s rest = issuing_first (not_ca s.constraints) (no_cert_sign s.usage) (too_long n s.constraints) rest

pub first_is : (accepts : List ℕ → List ℕ → List ℕ → List ℕ → Bool) (at : DateTime) (others : Option ℕ) (p q : CertificateParts)
    → place_reason accepts at others p q ≡ find (breaks accepts at others p q) all_reasons
unfolding place_reason extension_reason read_ca_extensions issued_reason
first_is accepts at others p q =
    own_is at p (option_or (extension_reason others p.extensions) (issued_reason accepts p q))
    ∙ ap (λ (o : Option ChainReason). three (algorithms_differ p) (too_early at (value_of validity p.validity)) (too_late at (value_of validity p.validity)) o)
    (extension_first others (bad_extension p.extensions) (list_any unhandled p.extensions) (said p.extensions) (issued_reason accepts p q))

-- ---- the conditions

module _ (x : Inputs) (before : List Certificate) (c d : Certificate) (p q : CertificateParts) (of_c : IsOfCertificate c p) (of_d : IsOfCertificate d q) where
  abbrev at_place : Place
  at_place = record { before = before; this = c; issuer = d }

  abbrev validity_of : Validity
  validity_of = c.tbs_certificate.validity

  has_validity : value_of validity p.validity ≡ Some c.tbs_certificate.validity
  has_validity = value_again validity p.validity c.tbs_certificate.validity of_c.validity

  algorithms : Decides (algorithms_differ p) (Breaks x at_place AlgorithmsDiffer)
  unfolding algorithms_differ
  algorithms =
      Decides-not (bytes_eq p.tbs_signature p.signature_algorithm)
      (forms_decide algorithm_identifier c.tbs_certificate.signature c.signature_algorithm p.tbs_signature p.signature_algorithm of_c.tbs_signature of_c.signature_algorithm)

  early : Decides (too_early x.at (value_of validity p.validity)) (Breaks x at_place NotYetValid)
  early =
      Decides-at (too_early x.at (value_of validity p.validity)) (is_earlier x.at (moment_of c.tbs_certificate.validity.not_before))
      (ap (λ (o : Option Validity). too_early x.at o) has_validity) (earlier x.at (moment_of c.tbs_certificate.validity.not_before))

  late : Decides (too_late x.at (value_of validity p.validity)) (Breaks x at_place Expired)
  late =
      Decides-at (too_late x.at (value_of validity p.validity)) (is_earlier (moment_of c.tbs_certificate.validity.not_after) x.at)
      (ap (λ (o : Option Validity). too_late x.at o) has_validity) (earlier (moment_of c.tbs_certificate.validity.not_after) x.at)

  has_unhandled : Decides (list_any unhandled p.extensions) (Breaks x at_place UnhandledCritical)
  has_unhandled =
      Decides-at (list_any unhandled p.extensions) (list_any is_unhandled (extensions_of c))
      (any_are is_unhandled unhandled (extensions_of c) p.extensions same_unhandled of_c.extensions) (is_itself (list_any is_unhandled (extensions_of c)))

  constraints_are : (said p.extensions).constraints ≡ basic_constraints_of c
  unfolding read_from
  constraints_are = ap (λ (o : Option (List ℕ)). o >>= value_of basic_constraints) (contents_are (id_ce ce_basic_constraints) (id_ce_der ce_basic_constraints) id_19
      (extensions_of c) p.extensions of_c.extensions)

  usage_is : (said p.extensions).usage ≡ key_usage_of c
  unfolding read_from
  usage_is = ap (λ (o : Option (List ℕ)). o >>= value_of bit_string) (contents_are (id_ce ce_key_usage) (id_ce_der ce_key_usage) id_15 (extensions_of c) p.extensions of_c.extensions)

  names : Decides (not (bytes_eq p.issuer q.subject)) (Breaks x at_place NameMismatch)
  names = Decides-not (bytes_eq p.issuer q.subject)
      (forms_decide name c.tbs_certificate.issuer d.tbs_certificate.subject p.issuer q.subject of_c.issuer of_d.subject)

  has_signature : value_of bit_string p.signature ≡ Some c.signature_value
  has_signature = value_again bit_string p.signature c.signature_value of_c.signature

  accepted_of : IsSigned x at_place → x.accepts p.tbs q.key_info p.signature_algorithm c.signature_value.bytes ≡ true
  accepted_of s =
      rw (
        same_form tbs_certificate c.tbs_certificate p.tbs s.info of_c.tbs s.is_info,
        same_form subject_public_key_info d.tbs_certificate.subject_public_key_info q.key_info s.key_info of_d.key_info s.is_key_info,
        same_form algorithm_identifier c.signature_algorithm p.signature_algorithm s.algorithm of_c.signature_algorithm s.is_algorithm,
      ) s.accepted

  signed_is : Decides (c.signature_value.unused == 0 && x.accepts p.tbs q.key_info p.signature_algorithm c.signature_value.bytes) (IsSigned x at_place)
  signed_is =
      Decides-like (c.signature_value.unused == 0 && x.accepts p.tbs q.key_info p.signature_algorithm c.signature_value.bytes)
      (λ k. record {
        info = p.tbs;
        key_info = q.key_info;
        algorithm = p.signature_algorithm;
        is_info = of_c.tbs;
        is_key_info = of_d.key_info;
        is_algorithm = of_c.signature_algorithm;
        whole = k.0;
        accepted = k.1;
      })
      (λ s. (s.whole, accepted_of s))
      (Decides-and (c.signature_value.unused == 0) (x.accepts p.tbs q.key_info p.signature_algorithm c.signature_value.bytes)
      (Decides-eqb c.signature_value.unused 0)
      (is_itself (x.accepts p.tbs q.key_info p.signature_algorithm c.signature_value.bytes)))

  signature : Decides (bad_signature (x.accepts p.tbs q.key_info p.signature_algorithm) (value_of bit_string p.signature)) (Breaks x at_place BadSignature)
  unfolding bad_signature
  signature =
      Decides-at (bad_signature (x.accepts p.tbs q.key_info p.signature_algorithm) (value_of bit_string p.signature))
      (not (c.signature_value.unused == 0 && x.accepts p.tbs q.key_info p.signature_algorithm c.signature_value.bytes))
      (ap (λ (o : Option Bits). bad_signature (x.accepts p.tbs q.key_info p.signature_algorithm) o) has_signature)
      (Decides-not (c.signature_value.unused == 0 && x.accepts p.tbs q.key_info p.signature_algorithm c.signature_value.bytes) signed_is)

  with_issuing : {P : Type 0} (b : Bool) → IsIssuing at_place → Decides b P → Decides b (IsIssuing at_place × P)
  with_issuing b h k = (λ e. (h, k.0 e), λ r. k.1 r.1)

  not_issuing : {P : Type 0} → ¬ (IsIssuing at_place) → Decides false (IsIssuing at_place × P)
  not_issuing other = (λ e. absurd cc, λ r. absurd (other r.0))

  ca : (n : ℕ) → IsIssuing at_place → Decides (not_ca (said p.extensions).constraints) (Breaks x at_place NotCa)
  ca n h =
      with_issuing (not_ca (said p.extensions).constraints) h
      (Decides-at (not_ca (said p.extensions).constraints) (not_ca (basic_constraints_of c)) (ap not_ca constraints_are) (ca_is (basic_constraints_of c)))

  cert_sign : (n : ℕ) → IsIssuing at_place → Decides (no_cert_sign (said p.extensions).usage) (Breaks x at_place NoCertSign)
  cert_sign n h =
      with_issuing (no_cert_sign (said p.extensions).usage) h
      (Decides-at (no_cert_sign (said p.extensions).usage) (no_cert_sign (key_usage_of c)) (ap no_cert_sign usage_is) (cert_sign_is (key_usage_of c)))

  long : (n : ℕ) → IsIssuing at_place → AreNotSelfIssued (drop 1 before) n → Decides (too_long n (said p.extensions).constraints) (Breaks x at_place PathTooLong)
  long n h count =
      with_issuing (too_long n (said p.extensions).constraints) h
      (Decides-at (too_long n (said p.extensions).constraints) (too_long n (basic_constraints_of c)) (ap (λ (o : Option BasicConstraints). too_long n o) constraints_are)
      (too_long_is (drop 1 before) n count (basic_constraints_of c)))

  at_leaf : ¬ (IsIssuing at_place) → (r : ChainReason) → Decides (breaks x.accepts x.at None p q r) (Breaks x at_place r)
  at_leaf other Empty = never
  at_leaf other NotCertificate = never
  at_leaf other AlgorithmsDiffer = algorithms
  at_leaf other NotYetValid = early
  at_leaf other Expired = late
  at_leaf other BadExtension = readable (extensions_of c) p.extensions of_c.extensions
  at_leaf other UnhandledCritical = has_unhandled
  at_leaf other NotCa = not_issuing other
  at_leaf other NoCertSign = not_issuing other
  at_leaf other PathTooLong = not_issuing other
  at_leaf other NameMismatch = names
  at_leaf other BadSignature = signature

  above : (n : ℕ) → IsIssuing at_place → AreNotSelfIssued (drop 1 before) n → (r : ChainReason)
      → Decides (breaks x.accepts x.at (Some n) p q r) (Breaks x at_place r)
  above n h count Empty = never
  above n h count NotCertificate = never
  above n h count AlgorithmsDiffer = algorithms
  above n h count NotYetValid = early
  above n h count Expired = late
  above n h count BadExtension = readable (extensions_of c) p.extensions of_c.extensions
  above n h count UnhandledCritical = has_unhandled
  above n h count NotCa = ca n h
  above n h count NoCertSign = cert_sign n h
  above n h count PathTooLong = long n h count
  above n h count NameMismatch = names
  above n h count BadSignature = signature

-- each test tells whether its reason holds at the place
pub tests_are : (x : Inputs) (before : List Certificate) (c d : Certificate) (p q : CertificateParts) (others : Option ℕ) → IsOfCertificate c p
    → IsOfCertificate d q
    → IsCountBefore before others → (r : ChainReason) → Decides (breaks x.accepts x.at others p q r) (Breaks x
    (record { before = before; this = c; issuer = d }) r)
tests_are x [] c d p q None of_c of_d h = at_leaf x [] c d p q of_c of_d (λ l. omega arith)
tests_are x [] c d p q (Some n) of_c of_d h = absurd (no_some n h)
tests_are x (b ∷ bs) c d p q None of_c of_d h = absurd (no_some h.0 (sym h.1))
tests_are x (b ∷ bs) c d p q (Some n) of_c of_d h =
    above x (b ∷ bs) c d p q of_c of_d n (omega arith) (subst (λ (m : ℕ). AreNotSelfIssued bs m) (sym (some_is n h.0 h.1)) h.2)

-- the first of a place's reasons
pub first_at : (x : Inputs) (before : List Certificate) (c d : Certificate) (p q : CertificateParts) (others : Option ℕ) → IsOfCertificate c p
    → IsOfCertificate d q
    → IsCountBefore before others → IsLeast (Breaks x (record { before = before; this = c; issuer = d })) (place_reason x.accepts x.at others p q)
first_at x before c d p q others of_c of_d h =
    subst (λ (o : Option ChainReason). IsLeast (Breaks x (record { before = before; this = c; issuer = d })) o) (sym (first_is x.accepts x.at others p q))
    (least (Breaks x (record { before = before; this = c; issuer = d })) (breaks x.accepts x.at others p q) (tests_are x before c d p q others of_c of_d h))
