-- An issuer that was read from its certificate: its name has a tree, and its name and identifier aren't longer than the certificate.
use Rattle.std.specs.Prelude.{◌≡◌, ℕ, ◌+◌, ◌-◌, ◌≤◌, ◌&&◌, ◌||◌, Bool, true, false, cond, List, [], ◌∷◌, length, Option, Some, None, Result, Ok, Err, filter, filter_map, is_ok, nat_eq, ok_or, refl}
use Rattle.std.specs.Cmp.Lexicographic.{pointwise}
use Rattle.std.specs.List.{cons_option}
use Rattle.std.specs.Option.{IfSome}
use Rattle.std.proofs.Common.{ap, arith, subst, sym, ◌∙◌}
use Rattle.std.proofs.lemmas.List.{length-append, length-take}
use Rattle.asn1_core.specs.Binds.{and_true}
use Rattle.asn1_core.specs.Bits.{Bits}
use Rattle.der_tree.specs.Codec.{FieldsOf, struct_of}
use Rattle.der_tree.specs.Form.{value_of}
use Rattle.der_tree.specs.Grammar.{beq, beq_exact, defaulted, explicitly, implicitly, list_of, optional, required, with_default, ◌&◌}
use Rattle.der_tree.specs.HasTree.{HasTree}
use Rattle.der_tree.specs.PrimitiveTypes.{bit_string, boolean, integer, object_identifier, octet_string}
use Rattle.der_tree.specs.Results.{ok_then}
use Rattle.der_tree.specs.SequenceOf.{each_put, is_within}
use Rattle.der_tree.specs.Tags.{context, universal}
use Rattle.der_tree.specs.Tree.{PlainTree, row}
use Rattle.der_tree.specs.TreeBytes.{bytes, row_bytes}
use Rattle.der_tree.specs.declared.error.EncodeError.TheVariants.{SizeOutOfRange}
use Rattle.der_tree.specs.laws.Results.{ok_is, ok_kept, ok_then_ok}
use Rattle.der_tree.proofs.FormLaws.{value_there}
use Rattle.der_tree.proofs.Writing.{bytes_are}
use Rattle.pkix_cert.specs.Algorithms.{algorithm_identifier, subject_public_key_info}
use Rattle.pkix_cert.specs.Certificates.{certificate, certificate_fields, tbs_certificate, tbs_certificate_fields}
use Rattle.pkix_cert.specs.ExtensionIds.{ce_subject_key_identifier, id_ce}
use Rattle.pkix_cert.specs.Extensions.{extension, extension_fields, extensions}
use Rattle.pkix_cert.specs.Held.{extensions_in}
use Rattle.pkix_cert.specs.Times.{validity}
use Rattle.pkix_cert.specs.Versions.{same_version, same_version_exact, v1, version}
use Rattle.pkix_cert.specs.declared.algorithm.AlgorithmIdentifier.{AlgorithmIdentifier}
use Rattle.pkix_cert.specs.declared.time.Validity.{Validity}
use Rattle.pkix_cert.specs.declared.algorithm.SubjectPublicKeyInfo.{SubjectPublicKeyInfo}
use Rattle.pkix_cert.specs.declared.certificate.Certificate.{Certificate}
use Rattle.pkix_cert.specs.declared.certificate.Version.{Version}
use Rattle.pkix_cert.specs.declared.certificate.TbsCertificate.{TbsCertificate}
use Rattle.pkix_cert.specs.declared.extension.Extension.{Extension}
use Rattle.pkix_cert.specs.declared.extension.Extensions.{Extensions}
use Rattle.pkix_name.specs.Names.{name as name_codec}
use Rattle.pkix_name.specs.declared.name.Name.{Name}
use Rattle.rcgen_read.specs.IssuerReading.{CertifiedIssuer, certificate_at, certified as certified_as, method_by, read_certified}
use Rattle.rcgen_read.specs.Reading.{and_then as read_then}
use Rattle.rcgen_read.proofs.Fronts.{exactly}
use Rattle.rcgen_sign.specs.KeyIds.{Method, by_sha256, by_sha384, by_sha512, key_id, pre_specified}
use Rattle.rcgen_text.specs.Causes.{Cause, not_certificate}
use Rattle.rcgen_text.specs.declared.key_usage.KeyUsagePurpose.{KeyUsagePurpose}
use Rattle.sha2.specs.Sha256.{sha256}
use Rattle.sha2.specs.Sha512.{sha384, sha512}
use Rattle.shelf_fault.specs.Faults.{by_cause}
use Rattle.shelf_job.specs.Issuers.{certified}
use Rattle.outcomes.specs.Sizes.{method_size}
use Rattle.outcomes.proofs.Least.{AtLeast, FieldsAtLeast, least_explicit, least_field, least_first, least_if, least_octets, least_rest, least_sequence}
use Rattle.outcomes.proofs.Within.{Within}

-- ---- the identifier of its key

pub id_size : (m : Method) (info : List ℕ) → length (key_id m info) ≤ method_size m
id_size by_sha256 info = omega (arith, length-take 20 (sha256 info))
id_size by_sha384 info = omega (arith, length-take 20 (sha384 info))
id_size by_sha512 info = omega (arith, length-take 20 (sha512 info))
id_size (pre_specified id) info = omega arith

least_extension : (e : Extension) → AtLeast extension e (length e.extn_value)
unfolding extension_fields
least_extension e =
    let value = least_field octet_string e.extn_value (length e.extn_value) (least_octets e.extn_value) in
    let rest = least_rest (defaulted boolean beq beq_exact false) (required octet_string) e.critical e.extn_value (length e.extn_value) value in
    least_sequence (universal 16) extension_fields e (length e.extn_value)
    (least_rest (required object_identifier) (defaulted boolean beq beq_exact false & required octet_string) e.extn_id (e.critical, e.extn_value) (length e.extn_value) rest)

-- an identifier isn't longer than the octets that it was read from
read_size : (b id : List ℕ) → value_of octet_string b ≡ Some id → length id ≤ length b
read_size b id e =
    let f = value_there octet_string b id e in
    let least = least_octets id f.0 f.2 in
    let same : bytes f.0 ≡ b = bytes_are f.0 f.1 f.3 ∙ sym f.4 in
    subst (λ (x : List ℕ). length id ≤ length x) same least

abbrev id_of : Extension → Option (List ℕ)
id_of e = value_of octet_string e.extn_value

-- the first identifier isn't longer
one_id : (o : Option (List ℕ)) (others : List (List ℕ)) (n m : ℕ) → IfSome o (λ id. length id ≤ n) → method_size (method_by others) ≤ 20 + m
    → method_size (method_by (cons_option o others)) ≤ 20 + (n + m)
one_id None others n m h k = omega arith
one_id (Some id) others n m h k = omega arith

read_if : (b : List ℕ) (o : Option (List ℕ)) → value_of octet_string b ≡ o → IfSome o (λ id. length id ≤ length b)
read_if b None e = tt
read_if b (Some id) e = read_size b id e

abbrev ids : (Extension → Bool) → List Extension → List (List ℕ)
ids test es = filter_map id_of (filter test es)

-- of an extension that is kept or not
kept_id : (b : Bool) (e : Extension) (kept : List Extension) (n m : ℕ) → length e.extn_value ≤ n → method_size (method_by (filter_map id_of kept)) ≤ 20 + m
    → method_size (method_by (filter_map id_of (cond b (e ∷ kept) kept))) ≤ 20 + (n + m)
kept_id false e kept n m l k = omega arith
kept_id true e kept n m l k =
    let id = one_id (id_of e) (filter_map id_of kept) (length e.extn_value) m (read_if e.extn_value (id_of e) refl) k in omega arith

ids_within : (test : Extension → Bool) (es : List Extension) (ts : List PlainTree) → each_put extension es ≡ Ok ts
    → method_size (method_by (ids test es)) ≤ 20 + length (row_bytes (row ts))
ids_within test [] ts h = omega arith
ids_within test (e ∷ es) ts h =
    let y = ok_then_ok (extension.tree_of e) (λ t. ok_then (each_put extension es) (λ r. Ok (t ∷ r))) ts h in
    let z = ok_then_ok (each_put extension es) (λ r. Ok (y.0 ∷ r)) ts y.2 in
    let rest = ids_within test es z.0 z.1 in
    let first = least_extension e y.0 y.1 in
    let both = kept_id (test e) e (filter test es) (length (bytes y.0)) (length (row_bytes (row z.0))) first rest in
    subst (λ (x : List PlainTree). method_size (method_by (ids test (e ∷ es))) ≤ 20 + length (row_bytes (row x))) (ok_is (y.0 ∷ z.0) ts z.2)
    (omega (arith, length-append (bytes y.0) (row_bytes (row z.0))))

-- ---- the fields of what is signed

abbrev version_field : FieldsOf Version
version_field = with_default (explicitly (context 0) version) same_version same_version_exact v1

abbrev extensions_field : FieldsOf (Option Extensions)
extensions_field = optional (explicitly (context 3) extensions)

abbrev after_issuer_id : FieldsOf (Option Bits × Option Extensions)
after_issuer_id = optional (implicitly (context 2) bit_string refl) & extensions_field

abbrev after_key : FieldsOf (Option Bits × (Option Bits × Option Extensions))
after_key = optional (implicitly (context 1) bit_string refl) & after_issuer_id

abbrev AfterSubject : Type 0
AfterSubject = SubjectPublicKeyInfo × (Option Bits × (Option Bits × Option Extensions))

abbrev after_subject : FieldsOf AfterSubject
after_subject = required subject_public_key_info & after_key

-- what each tree of the subject, or of what comes after it, has at least
on_subject : (t : TbsCertificate) (n : ℕ)
    → FieldsAtLeast (required name_codec & after_subject) (t.subject, (t.subject_public_key_info, (t.issuer_unique_id, (t.subject_unique_id, t.extensions)))) n
    → AtLeast tbs_certificate t n
unfolding tbs_certificate_fields
on_subject t n h =
    let key : Name × AfterSubject = (t.subject, (t.subject_public_key_info, (t.issuer_unique_id, (t.subject_unique_id, t.extensions)))) in
    let validity_on = required validity & (required name_codec & after_subject) in
    let issuer_on = required name_codec & validity_on in
    let algorithm_on = required algorithm_identifier & issuer_on in
    let serial_on = required integer & algorithm_on in
    let v : Validity × (Name × AfterSubject) = (t.validity, key) in
    let i : Name × (Validity × (Name × AfterSubject)) = (t.issuer, v) in
    let a : AlgorithmIdentifier × (Name × (Validity × (Name × AfterSubject))) = (t.signature, i) in
    let s : List ℕ × (AlgorithmIdentifier × (Name × (Validity × (Name × AfterSubject)))) = (t.serial_number, a) in
    least_sequence (universal 16) tbs_certificate_fields t n
    (least_rest version_field serial_on t.version s n
    (least_rest (required integer) algorithm_on t.serial_number a n
    (least_rest (required algorithm_identifier) issuer_on t.signature i n
    (least_rest (required name_codec) validity_on t.issuer v n
    (least_rest (required validity) (required name_codec & after_subject) t.validity key n h)))))

name_least : (t : TbsCertificate) (n : ℕ) → AtLeast name_codec t.subject n → AtLeast tbs_certificate t n
name_least t n h =
    let rest : AfterSubject = (t.subject_public_key_info, (t.issuer_unique_id, (t.subject_unique_id, t.extensions))) in
    on_subject t n (least_first (required name_codec) after_subject t.subject rest n (least_field name_codec t.subject n h))

extensions_least : (t : TbsCertificate) (n : ℕ) → FieldsAtLeast extensions_field t.extensions n → AtLeast tbs_certificate t n
extensions_least t n h =
    let both : Option Bits × Option Extensions = (t.subject_unique_id, t.extensions) in
    let three : Option Bits × (Option Bits × Option Extensions) = (t.issuer_unique_id, both) in
    on_subject t n
    (least_rest (required name_codec) after_subject t.subject (t.subject_public_key_info, three) n
    (least_rest (required subject_public_key_info) after_key t.subject_public_key_info three n
    (least_rest (optional (implicitly (context 1) bit_string refl)) after_issuer_id t.issuer_unique_id both n
    (least_rest (optional (implicitly (context 2) bit_string refl)) extensions_field t.subject_unique_id t.extensions n h))))

given_least : (test : Extension → Bool) (x : Extensions) → AtLeast extensions x (method_size (method_by (ids test x.0)) - 20)
given_least test x =
    least_sequence (universal 16) (struct_of (list_of extension 1 None refl) refl) x.0 (method_size (method_by (ids test x.0)) - 20)
    (λ ts e. let k = ok_kept (is_within 1 None (length x.0)) (each_put extension x.0) ts SizeOutOfRange e in
    let w = ids_within test x.0 ts k.1 in omega arith)

ids_least : (test : Extension → Bool) (o : Option Extensions) → FieldsAtLeast extensions_field o (method_size (method_by (ids test (extensions_in o))) - 20)
ids_least test None ts e = omega arith
ids_least test (Some x) ts e =
    least_if (explicitly (context 3) extensions) x (method_size (method_by (ids test x.0)) - 20)
    (least_explicit (context 3) extensions x (method_size (method_by (ids test x.0)) - 20) (given_least test x)) ts e

in_sixth : (a b c d e f rest : Bool) → (a && (b && (c && (d && (e && (f && rest)))))) ≡ true → f ≡ true
in_sixth true true true true true f rest h = (and_true f rest h).0
in_sixth true true true true false f rest h = absurd cc
in_sixth true true true false e f rest h = absurd cc
in_sixth true true false d e f rest h = absurd cc
in_sixth true false c d e f rest h = absurd cc
in_sixth false b c d e f rest h = absurd cc

name_formed : (t : TbsCertificate) → HasTree tbs_certificate t → HasTree name_codec t.subject
unfolding tbs_certificate_fields
name_formed t h =
    in_sixth ((explicitly (context 0) version).has_tree t.version || same_version t.version v1) (integer.has_tree t.serial_number)
    (algorithm_identifier.has_tree t.signature) (name_codec.has_tree t.issuer) (validity.has_tree t.validity) (name_codec.has_tree t.subject) _ h

-- ---- the certificate

signed_least : (c : Certificate) (n : ℕ) → AtLeast tbs_certificate c.tbs_certificate n → AtLeast certificate c n
unfolding certificate_fields
signed_least c n h =
    least_sequence (universal 16) certificate_fields c n
    (least_first (required tbs_certificate) (required algorithm_identifier & required bit_string) c.tbs_certificate (c.signature_algorithm, c.signature_value) n
    (least_field tbs_certificate c.tbs_certificate n h))

signed_formed : (c : Certificate) → HasTree certificate c → HasTree tbs_certificate c.tbs_certificate
unfolding certificate_fields
signed_formed c h = (and_true (tbs_certificate.has_tree c.tbs_certificate) (algorithm_identifier.has_tree c.signature_algorithm && bit_string.has_tree c.signature_value) h).0

-- ---- what is read of it

pub record IsRead (issuer : List ℕ) (i : CertifiedIssuer) : Type 0 where
  pub name : Name
  pub field : i.field ≡ Some name
  pub has_tree : HasTree name_codec name
  pub within : Within name_codec name (length issuer)
  pub method : method_size i.method ≤ 20 + length issuer

cause_free : (r : Result CertifiedIssuer Cause) (i : CertifiedIssuer) → by_cause r ≡ Ok i → r ≡ Ok i
cause_free (Ok x) i e = cc
cause_free (Err c) i e = absurd cc

found : {A B : Type 0} (o : Option A) (f : A → Result B Cause) (y : B) → read_then (ok_or o not_certificate) f ≡ Ok y → (x : A) × (o ≡ Some x) × (f x ≡ Ok y)
found (Some x) f y e = (x, refl, e)
found None f y e = absurd cc

said : (r : Result (List KeyUsagePurpose) Cause) (field : Option Name) (method : Method) (i : CertifiedIssuer)
    → read_then r (λ usages. Ok (record { field = field; method = method; usages = usages })) ≡ Ok i → (i.field ≡ field) × (i.method ≡ method)
said (Ok usages) field method i e = (cc, cc)
said (Err c) field method i e = absurd cc

abbrev is_key_id : Extension → Bool
is_key_id e = pointwise nat_eq e.extn_id (id_ce ce_subject_key_identifier)

certified_says : (c : Certificate) (i : CertifiedIssuer) → certified_as c ≡ Ok i
    → (i.field ≡ Some c.tbs_certificate.subject) × (i.method ≡ method_by (ids is_key_id (extensions_in c.tbs_certificate.extensions)))
certified_says c i e =
    said _ (Some c.tbs_certificate.subject) (method_by (ids is_key_id (extensions_in c.tbs_certificate.extensions))) i e

itself_least : (name : Name) (t : PlainTree) → name_codec.tree_of name ≡ Ok t → AtLeast name_codec name (length (bytes t))
itself_least name t e u f = subst (λ (x : PlainTree). length (bytes t) ≤ length (bytes x)) (ok_is t u (sym e ∙ f)) (omega arith)

pub read_there : (issuer : List ℕ) (i : CertifiedIssuer) → certified issuer ≡ Ok i → IsRead issuer i
unfolding certified
read_there issuer i e =
    let at = found (certificate_at issuer) certified_as i (cause_free (read_certified issuer) i e) in
    let c : Certificate = at.0 in
    let front = (exactly certificate issuer c).0 at.1 in
    let f = front.2 in
    let size : length (bytes f.0) ≤ length issuer =
    omega (arith, ap length (bytes_are f.0 f.1 f.3 ∙ sym f.4), ap length front.3, length-append front.0 front.1) in
    let says = certified_says c i at.2 in
    let es = extensions_in c.tbs_certificate.extensions in
    let n = method_size (method_by (ids is_key_id es)) - 20 in
    let id = signed_least c n (extensions_least c.tbs_certificate n (ids_least is_key_id c.tbs_certificate.extensions)) f.0 f.2 in
    record {
      name = c.tbs_certificate.subject;
      field = says.0;
      has_tree = name_formed c.tbs_certificate (signed_formed c (certificate.has_tree_is c ∙ ap is_ok f.2));
      within = λ t g.
          let l = signed_least c (length (bytes t)) (name_least c.tbs_certificate (length (bytes t)) (itself_least c.tbs_certificate.subject t g)) f.0 f.2 in
          omega arith;
      method = rw says.1 (omega arith);
    }
