-- The message of a request exists.
use Rattle.std.specs.Prelude.{◌≡◌, ◌==◌, ℕ, ◌+◌, ◌*◌, ◌≤◌, ◌<◌, ◌^◌, false, List, [], ◌∷◌, ◌++◌, ◌&&◌, true, length, map, Option, Some, None, Result, Ok, Err, refl}
use Rattle.std.specs.List.{sum_by}
use Rattle.std.specs.Option.{IfSome, option_map_or}
use Rattle.std.proofs.Common.{arith, ap, subst, sym, ◌∙◌}
use Rattle.std.proofs.lemmas.List.Sorted.{sum_by-IsPermutation}
use Rattle.std.proofs.lemmas.List.Sums.{sum_by-cons}
use Rattle.asn1_core.specs.Binds.{and_true, true_and}
use Rattle.asn1_core.specs.Bits.{Bits, bits}
use Rattle.asn1_core.specs.Unsigned.{unsigned_64_contents}
use Rattle.der_tree.specs.Element.{Element}
use Rattle.der_tree.specs.Form.{IsDerOf}
use Rattle.der_tree.specs.Grammar.{any, implicitly, required, sequence_of, set_of, ◌&◌}
use Rattle.der_tree.specs.PrimitiveTypes.{bit_string, object_identifier}
use Rattle.der_tree.specs.Results.{ok_then}
use Rattle.der_tree.specs.Sequence.{node_of}
use Rattle.der_tree.specs.Tags.{context, universal}
use Rattle.der_tree.specs.Tree.{PlainTree, leaf, node, row}
use Rattle.der_tree.specs.TreeBytes.{bytes, made}
use Rattle.der_tree.specs.TreeElement.{element_of}
use Rattle.der_tree.specs.declared.error.EncodeError.{EncodeError}
use Rattle.der_tree.specs.laws.Results.{ok_is}
use Rattle.der_tree.proofs.Putting.{one_more}
use Rattle.der_tree.proofs.ShortTrees.{tags_fit}
use Rattle.der_tree.proofs.Writing.{bytes_are}
use Rattle.pkix_cert.specs.Algorithms.{algorithm_identifier, subject_public_key_info}
use Rattle.pkix_cert.specs.Extensions.{extensions}
use Rattle.pkix_cert.specs.Requests.{certification_request, certification_request_fields, certification_request_info, certification_request_info_fields}
use Rattle.pkix_cert.specs.Versions.{v1, version}
use Rattle.pkix_cert.specs.declared.algorithm.AlgorithmIdentifier.{AlgorithmIdentifier}
use Rattle.pkix_cert.specs.declared.algorithm.SubjectPublicKeyInfo.{SubjectPublicKeyInfo}
use Rattle.pkix_cert.specs.declared.certificate.Version.{Version}
use Rattle.pkix_cert.specs.declared.extension.Extensions.{Extensions}
use Rattle.pkix_cert.specs.declared.request.CertificationRequest.{CertificationRequest}
use Rattle.pkix_cert.specs.declared.request.CertificationRequestInfo.{CertificationRequestInfo}
use Rattle.pkix_name.specs.GeneralNames.{general_name}
use Rattle.pkix_name.specs.Names.{attribute, attribute_fields, name}
use Rattle.pkix_name.specs.declared.name.Attribute.{Attribute as AttributeValue}
use Rattle.pkix_name.specs.declared.name.Name.{Name}
use Rattle.rcgen_certificate.specs.BasicConstraints.{basic_constraints_row}
use Rattle.rcgen_certificate.specs.CustomExtensions.{custom_row}
use Rattle.rcgen_certificate.specs.ExtendedKeyUsages.{ext_key_usage, ext_key_usage_row}
use Rattle.rcgen_certificate.specs.ExtensionRows.{IsField}
use Rattle.rcgen_certificate.specs.KeyUsages.{key_usage_row}
use Rattle.rcgen_certificate.specs.KeyValues.{key_value}
use Rattle.rcgen_certificate.specs.NameValues.{name_value}
use Rattle.rcgen_certificate.specs.ParamsView.{ParamsView}
use Rattle.rcgen_certificate.specs.Requests.{AreAsked, AreAttributes, IsExtensionRequest, IsInfo, IsRequestedWith, IsShortExtensionRequest, RequestFitsIn64Bits, first_request_cause, request_rows}
use Rattle.rcgen_certificate.specs.SubjectAltNames.{subject_alt_name, subject_alt_name_row}
use Rattle.rcgen_certificate.proofs.NamesAsRead.{name_as_read_tree}
use Rattle.rcgen_certificate.proofs.NoCause.{no_request_cause}
use Rattle.rcgen_certificate.proofs.RequestMet.{request_met}
use Rattle.rcgen_certificate.proofs.Trees.{TreeOf, form_there}
use Rattle.rcgen_sign.specs.Keys.{Key}
use Rattle.rcgen_sign.proofs.ElementCounts.{element_octets_count}
use Rattle.shelf_fault.specs.declared.fault.Fault.TheVariants.{NameNotKept}
use Rattle.shelf_job.specs.Jobs.{has_name_octets}
use Rattle.shelf_job.specs.NamedRequests.{IsRequestMessageAs, with_subject}
use Rattle.shelf_job.proofs.Subjects.{name_has_tree}
use Rattle.shelf_keys.specs.Encoded.{encoded}
use Rattle.outcomes.specs.PartSizes.{alternative_size, custom_size, info_size, name_size, params_size, purpose_size}
use Rattle.outcomes.specs.Requests.{RequestsHaveMessages}
use Rattle.outcomes.proofs.Parts.{alternatives_within, customs_within, in_set, info_within, name_within, purposes_within}
use Rattle.outcomes.proofs.Rows.{algorithm_within, field_within, key_info_small, rows_joined, rows_size}
use Rattle.outcomes.proofs.Shorts.{alternative_rows, ca_rows, purpose_rows, short_if, short_name, short_texts, usage_rows}
use Rattle.outcomes.proofs.Tags.{tags_of}
use Rattle.outcomes.proofs.Views.{causeless, short_of, then_ok}
use Rattle.outcomes.proofs.Within.{Within, any_within, bits_within, computed, field, fields_both, identifier_within, in_implicit, in_sequence}

-- ---- attributes

abbrev pub value_size : AttributeValue → ℕ
value_size a = 60 + 10 * length a.attr_type + sum_by (λ (b : List ℕ). length b) a.values

pub attribute_within : (a : AttributeValue) → Within attribute a (value_size a)
unfolding attribute_fields
attribute_within a t e =
    let n = sum_by (λ (b : List ℕ). length b) a.values in
    let id = field object_identifier a.attr_type (20 + 10 * length a.attr_type) (identifier_within a.attr_type) in
    let values = field (set_of any 0 None [] refl) a.values (20 + n) (in_set any 0 None [] refl (λ (b : List ℕ). length b) any_within a.values) in
    let both = fields_both (required object_identifier) (required (set_of any 0 None [] refl)) a.attr_type a.values (20 + 10 * length a.attr_type) (20 + n) id values in
    let whole = in_sequence (universal 16) attribute_fields a (20 + 10 * length a.attr_type + (20 + n)) both t e in
    omega arith

-- the attribute that asks for extensions of at most n bytes
asking_size : (x : Extensions) (a : AttributeValue) (n : ℕ) → Within extensions x n → IsExtensionRequest x a → value_size a ≤ 200 + n
asking_size x a n h r =
    let f = r.form in
    let size = h f.0 f.2 in
    let same : length r.value ≡ length (bytes f.0) = ap length (f.4 ∙ sym (bytes_are f.0 f.1 f.3)) in
    let one = sum_by-cons (λ (b : List ℕ). length b) r.value [] in
    rw (r.attr_type, r.values) (omega arith)

asked_size : (field : Option Extensions) (asked : List AttributeValue) (n : ℕ) → IfSome field (λ x. Within extensions x n) → AreAsked field asked
    → sum_by value_size asked ≤ 200 + n
asked_size None asked n h r = rw r (omega arith)
asked_size (Some x) asked n h r =
    let size = asking_size x r.0 n h r.1 in
    let one = sum_by-cons value_size r.0 [] in
    rw r.2 (omega arith)

-- ---- the extensions that are asked for

abbrev rows_bound : ParamsView → ℕ
rows_bound p =
    1000 + sum_by alternative_size p.subject_alt_names + sum_by purpose_size p.extended_key_usages + sum_by custom_size p.custom_extensions

rows_within : (p : ParamsView) → rows_size (request_rows p) ≤ rows_bound p
rows_within p =
    let critical = length p.distinguished_name == 0 in
    let a = key_usage_row p.key_usages in
    let b = subject_alt_name_row critical p.subject_alt_names in
    let c = ext_key_usage_row p.extended_key_usages in
    let d = basic_constraints_row p.is_ca in
    let e = map custom_row p.custom_extensions in
    let x = sum_by alternative_size p.subject_alt_names in
    let y = sum_by purpose_size p.extended_key_usages in
    let two = rows_joined a b 163 (160 + x) (usage_rows p.key_usages) (alternative_rows critical p.subject_alt_names) in
    let three = rows_joined (a ++ b) c (163 + (160 + x)) (160 + y) two (purpose_rows p.extended_key_usages) in
    let four = rows_joined (a ++ b ++ c) d (163 + (160 + x) + (160 + y)) 240 three (ca_rows p.is_ca) in
    let given = customs_within p.custom_extensions in
    let five = rows_joined (a ++ b ++ c ++ d) e (163 + (160 + x) + (160 + y) + 240) (sum_by custom_size p.custom_extensions) four (omega arith) in
    omega arith

widened_rows : (p : ParamsView) (o : Option Extensions) → IsField (request_rows p) o → IfSome o (λ x. Within extensions x (20 + rows_bound p))
widened_rows p None h = tt
widened_rows p (Some x) h = λ t e. let k = field_within (request_rows p) (Some x) h t e in omega (arith, rows_within p)

-- ---- the request

abbrev attributes_bound : ParamsView → ℕ
attributes_bound p = 400 + rows_bound p

attributes_size : (p : ParamsView) (attributes : List AttributeValue) → AreAttributes (request_rows p) [] attributes
    → sum_by value_size attributes ≤ attributes_bound p
attributes_size p attributes h =
    let same = sum_by-IsPermutation value_size h.asked attributes h.each in
    let size = asked_size h.field h.asked (20 + rows_bound p) (widened_rows p h.field h.is_field) h.are_asked in
    omega arith

abbrev named_bound : ParamsView → Key → Name → ℕ
named_bound p k x = 2000 + name_size x + length k.octets + rows_bound p

abbrev info_bound : ParamsView → Key → ℕ
info_bound p k = named_bound p k (name_value p.distinguished_name)

version_one : Within version v1 30
unfolding unsigned_64_contents
version_one = computed version v1 (leaf (universal 2) (0 ∷ [])) 30 refl (omega (arith, element_octets_count (made (universal 2) false (0 ∷ []))))

-- under any name
named_within : (p : ParamsView) (k : Key) (x : Name) (i : CertificationRequestInfo) → IsInfo p k [] i
    → Within certification_request_info (with_subject x i) (named_bound p k x)
unfolding certification_request_info_fields
named_within p k x i h t e =
    let n = name_size x in
    let v = sum_by value_size i.attributes in
    let m = info_size (key_value k.algorithm k.octets) in
    let own = field version i.version 30 (subst (λ (x : Version). Within version x 30) (sym h.version) version_one) in
    let subject = field name x n (name_within x) in
    let key = field subject_public_key_info i.subject_public_key_info m
    (subst (λ (x : SubjectPublicKeyInfo). Within subject_public_key_info x m) (sym h.subject_key) (info_within (key_value k.algorithm k.octets))) in
    let f3 = implicitly (context 0) (set_of attribute 0 None [] refl) refl in
    let attributes = field f3 i.attributes (20 + (20 + v))
    (in_implicit (context 0) (set_of attribute 0 None [] refl) refl i.attributes (20 + v) (in_set attribute 0 None [] refl value_size attribute_within i.attributes)) in
    let two = fields_both (required subject_public_key_info) (required f3) i.subject_public_key_info i.attributes m (20 + (20 + v)) key attributes in
    let three = fields_both (required name) (required subject_public_key_info & required f3) x (i.subject_public_key_info, i.attributes)
    n (m + (20 + (20 + v))) subject two in
    let all = fields_both (required version) (required name & (required subject_public_key_info & required f3)) i.version
    (x, (i.subject_public_key_info, i.attributes)) 30 (n + (m + (20 + (20 + v)))) own three in
    let whole = in_sequence (universal 16) certification_request_info_fields (with_subject x i) (30 + (n + (m + (20 + (20 + v))))) all t e in
    omega (arith, attributes_size p i.attributes h.attributes, key_info_small k.algorithm)

request_info_within : (p : ParamsView) (k : Key) (i : CertificationRequestInfo) → IsInfo p k [] i → Within certification_request_info i (info_bound p k)
request_info_within p k i h =
    let own : with_subject (name_value p.distinguished_name) i ≡ i = λ t. record i { subject = (sym h.subject_name) t } in
    subst (λ (j : CertificationRequestInfo). Within certification_request_info j (info_bound p k)) own
    (named_within p k (name_value p.distinguished_name) i h)

request_within : (p : ParamsView) (k : Key) (signature : List ℕ) (c : CertificationRequest) → IsRequestedWith p k [] signature c
    → Within certification_request c (500 + info_bound p k + length signature)
unfolding certification_request_fields
request_within p k signature c h u e =
    let n = info_bound p k in
    let algorithm = field algorithm_identifier c.signature_algorithm 400
    (subst (λ (y : AlgorithmIdentifier). Within algorithm_identifier y 400) (sym h.signature_algorithm) (algorithm_within k.algorithm)) in
    let info = field certification_request_info c.info n (request_info_within p k c.info h.info) in
    let g = field bit_string c.signature (21 + length signature)
    (subst (λ (y : Bits). Within bit_string y (21 + length signature)) (sym h.signature_value) (bits_within (bits 0 signature))) in
    let two = fields_both (required algorithm_identifier) (required bit_string) c.signature_algorithm c.signature 400 (21 + length signature) algorithm g in
    let all = fields_both (required certification_request_info) (required algorithm_identifier & required bit_string) c.info (c.signature_algorithm, c.signature)
    n (400 + (21 + length signature)) info two in
    let whole = in_sequence (universal 16) certification_request_fields c (n + (400 + (21 + length signature))) all u e in
    omega arith

-- ---- another name

abbrev alone : Result PlainTree EncodeError → Result (List PlainTree) EncodeError
alone r = ok_then r (λ t. Ok (t ∷ []))

-- the tree of four fields
abbrev four : Result PlainTree EncodeError → Result PlainTree EncodeError → Result PlainTree EncodeError → Result PlainTree EncodeError
    → Result PlainTree EncodeError
four a b c d = node_of (universal 16) (one_more (alone a) (one_more (alone b) (one_more (alone c) (alone d))))

second_replaced : (a b c d : Result PlainTree EncodeError) (t : PlainTree) (s : Element) (u : PlainTree) → four a b c d ≡ Ok t → element_of t ≡ Some s
    → tags_fit u ≡ true → (w : PlainTree) × (four a (Ok u) c d ≡ Ok w) × (tags_fit w ≡ true)
second_replaced (Err x) b c d t s u e f g = absurd cc
second_replaced (Ok a) (Err x) c d t s u e f g = absurd cc
second_replaced (Ok a) (Ok b) (Err x) d t s u e f g = absurd cc
second_replaced (Ok a) (Ok b) (Ok c) (Err x) t s u e f g = absurd cc
second_replaced (Ok a) (Ok b) (Ok c) (Ok d) t s u e f g =
    let whole = node (universal 16) (row (a ∷ b ∷ c ∷ d ∷ [])) in
    let last = tags_fit c && (tags_fit d && true) in
    let h = and_true (tags_fit a) (tags_fit b && last) (tags_of whole s (ap element_of (ok_is whole t e) ∙ f)) in
    let k = and_true (tags_fit b) last h.1 in
    (node (universal 16) (row (a ∷ u ∷ c ∷ d ∷ [])), refl, true_and (tags_fit a) (tags_fit u && last) h.0 (true_and (tags_fit u) last g k.1))

named_tree : (x : Name) (i : CertificationRequestInfo) (m : List ℕ) → IsDerOf certification_request_info i m → TreeOf name x
    → TreeOf certification_request_info (with_subject x i)
unfolding certification_request_info_fields
named_tree x i m f n =
    let a = version.tree_of i.version in
    let c = subject_public_key_info.tree_of i.subject_public_key_info in
    let d = (implicitly (context 0) (set_of attribute 0 None [] refl) refl).tree_of i.attributes in
    let w = second_replaced a (name.tree_of i.subject) c d f.0 f.1 n.tree f.2 f.3 n.tags in
    record { tree = w.0; is_tree = ap (λ (r : Result PlainTree EncodeError). four a r c d) n.is_tree ∙ w.1; tags = w.2 }

message_as : (p : ParamsView) (k : Key) (named : Option Name) (i : CertificationRequestInfo) (m : List ℕ) → IsInfo p k [] i
    → IsDerOf certification_request_info i m → has_name_octets named ≡ Ok tt → params_size p + length k.octets + option_map_or name_size named 0 < 2 ^ 60
    → (message : List ℕ) × IsRequestMessageAs p k named message
message_as p k None i m h f r l = (m, (i, h, f))
message_as p k (Some x) i m h f r l =
    let e = then_ok (encoded name NameNotKept x) _ tt r in
    let tree = named_tree x i m f (name_as_read_tree x (name_has_tree x NameNotKept e.0 e.1)) in
    let b = form_there certification_request_info (with_subject x i)
    (record { of_value = tree; short = (let w = named_within p k x i h tree.tree tree.is_tree in omega arith) }) in
    (b.0, (with_subject x i, record { base = i; base_is = h; replaced = refl }, b.1))

-- ---- the law

asked_short : (p : ParamsView) → rows_bound p < 2 ^ 61 → (x : Extensions) → IsField (request_rows p) (Some x) → IsShortExtensionRequest x
asked_short p l x h =
    let within = widened_rows p (Some x) h in
    record {
      value = short_of extensions x (20 + rows_bound p) within (omega arith);
      request = λ a r. short_of attribute a (value_size a) (attribute_within a) (let k = asking_size x a (20 + rows_bound p) within r in omega arith);
    }

pub request_messages : RequestsHaveMessages
request_messages a r ascii l =
    let p : ParamsView = a.params in
    let named = then_ok (has_name_octets a.name) _ tt r in
    let none = no_request_cause p [] (causeless (first_request_cause p []) tt named.2) in
    let short : RequestFitsIn64Bits p [] = record {
      subject_name = short_name p.distinguished_name (omega arith);
      other_names = short_texts p.subject_alt_names (omega arith);
      alternative_names = short_if (sequence_of general_name 0 None refl) (subject_alt_name p.subject_alt_names) (20 + sum_by alternative_size p.subject_alt_names)
          (alternatives_within p.subject_alt_names) (omega arith);
      purposes = short_if (sequence_of object_identifier 0 None refl) (ext_key_usage p.extended_key_usages) (20 + sum_by purpose_size p.extended_key_usages)
          (purposes_within p.extended_key_usages) (omega arith);
      asked = asked_short p (omega arith);
      attributes = tt;
    } in
    let c = request_met p [] ascii none short a.key [] in
    let forms = c.2 (short_of certification_request c.0 (500 + info_bound p a.key + 0) (request_within p a.key [] c.0 c.1) (omega arith)) in
    message_as p a.key a.name c.0.info forms.message c.1.info forms.message_form named.1 l
