-- What is signed in a certificate: its tree, and how large it is.
use Rattle.std.specs.Prelude.{◌≡◌, ◌==◌, ◌&&◌, ℕ, ◌+◌, ◌≤◌, ◌<◌, ◌^◌, Bool, true, false, List, [], ◌∷◌, ◌++◌, length, map, take, Option, Some, None, refl}
use Rattle.std.specs.List.{sum_by}
use Rattle.std.specs.Option.{IfSome, option_map_or}
use Rattle.std.proofs.Common.{arith}
use Rattle.std.proofs.lemmas.List.{length-take}
use Rattle.asn1_core.specs.Arcs.{is_oid}
use Rattle.asn1_core.specs.Binds.{and_true}
use Rattle.asn1_core.specs.Bits.{Bits, are_bits, bit_string_contents}
use Rattle.asn1_core.specs.Twos.{integer_contents, is_shortest}
use Rattle.asn1_core.specs.Unsigned.{unsigned_64_contents}
use Rattle.der_tree.specs.AnyElement.{is_one}
use Rattle.der_tree.specs.Default.{unless_default}
use Rattle.der_tree.specs.Grammar.{any, explicitly, implicitly, optional, required, sequence_of, with_default, ◌&◌}
use Rattle.der_tree.specs.HasTree.{HasTree}
use Rattle.der_tree.specs.PrimitiveTypes.{bit_string, integer, object_identifier, octet_string}
use Rattle.der_tree.specs.Tags.{context, universal}
use Rattle.der_tree.specs.Tree.{PlainTree, leaf, node, raw, row}
use Rattle.der_tree.specs.TreeBytes.{made}
use Rattle.pkix_cert.specs.Algorithms.{algorithm_identifier, algorithm_identifier_fields, subject_public_key_info, subject_public_key_info_fields}
use Rattle.pkix_cert.specs.Certificates.{tbs_certificate, tbs_certificate_fields}
use Rattle.pkix_cert.specs.Constraints.{name_constraints as name_constraints_codec}
use Rattle.pkix_cert.specs.Distributions.{distribution_point}
use Rattle.pkix_cert.specs.ExtensionIds.{ce_authority_key_identifier, ce_crl_distribution_points, ce_name_constraints, ce_subject_key_identifier, id_ce}
use Rattle.pkix_cert.specs.Extensions.{extensions}
use Rattle.pkix_cert.specs.KeyIdentifiers.{authority_key_identifier}
use Rattle.pkix_cert.specs.Times.{time, validity, validity_fields}
use Rattle.pkix_cert.specs.Versions.{same_version, same_version_exact, v1, v3, version}
use Rattle.pkix_cert.specs.declared.algorithm.SubjectPublicKeyInfo.{SubjectPublicKeyInfo}
use Rattle.pkix_cert.specs.declared.certificate.TbsCertificate.{TbsCertificate}
use Rattle.pkix_cert.specs.declared.extension.Extensions.{Extensions}
use Rattle.pkix_cert.specs.declared.time.Time.{Time}
use Rattle.pkix_cert.specs.declared.time.Validity.{Validity}
use Rattle.pkix_name.specs.GeneralNames.{general_name}
use Rattle.pkix_name.specs.Names.{name}
use Rattle.pkix_name.specs.declared.name.Name.{Name}
use Rattle.rcgen_certificate.specs.BasicConstraints.{basic_constraints_row}
use Rattle.rcgen_certificate.specs.CustomExtensions.{custom_row}
use Rattle.rcgen_certificate.specs.DistributionPoints.{crl_distribution_points, crl_distribution_points_row}
use Rattle.rcgen_certificate.specs.ExtendedKeyUsages.{ext_key_usage, ext_key_usage_row}
use Rattle.rcgen_certificate.specs.ExtensionRows.{IsField}
use Rattle.rcgen_certificate.specs.Issue.{FitIn64Bits}
use Rattle.rcgen_certificate.specs.IssuedExtensions.{extension_rows, subject_id}
use Rattle.rcgen_certificate.specs.Issuers.{IssuerView}
use Rattle.rcgen_certificate.specs.KeyIdentifiers.{authority_key_if, authority_key_row, subject_key_if, subject_key_row}
use Rattle.rcgen_certificate.specs.KeyUsages.{key_usage_row}
use Rattle.rcgen_certificate.specs.KeyValues.{signature_identifier}
use Rattle.rcgen_certificate.specs.NameConstraints.{name_constraints, name_constraints_row}
use Rattle.rcgen_certificate.specs.ParamsView.{ParamsView}
use Rattle.rcgen_certificate.specs.Serials.{default_serial, serial_of, without_top_bit}
use Rattle.rcgen_certificate.specs.SubjectAltNames.{subject_alt_name, subject_alt_name_row}
use Rattle.rcgen_certificate.proofs.OptionalTrees.{explicit_trees}
use Rattle.rcgen_certificate.proofs.RelativeNames.{contents_there}
use Rattle.rcgen_certificate.proofs.TableTrees.{signature_identifier_tree}
use Rattle.rcgen_certificate.proofs.Trees.{TreeOf}
use Rattle.rcgen_sign.specs.Keys.{Key, key_info_octets}
use Rattle.rcgen_sign.specs.declared.sign_algo.SignatureAlgorithm.{SignatureAlgorithm}
use Rattle.rcgen_sign.proofs.ElementCounts.{element_octets_count}
use Rattle.rcgen_text.specs.declared.basic_constraints.IsCa.{IsCa}
use Rattle.rcgen_text.specs.declared.basic_constraints.IsCa.TheVariants.{NoCa, ExplicitNoCa, Ca}
use Rattle.sha2.specs.Sha256.{sha256}
use Rattle.outcomes.specs.PartSizes.{alternative_size, bases_size, custom_size, distribution_size, info_size, name_size, params_size, purpose_size}
use Rattle.outcomes.specs.Sizes.{method_size}
use Rattle.outcomes.proofs.Issuers.{id_size}
use Rattle.outcomes.proofs.Parts.{alternatives_within, constraints_within, customs_within, info_within, name_within, points_within, purposes_within}
use Rattle.outcomes.proofs.Rows.{algorithm_within, field_within, row_within, rows_joined, rows_size, time_within, unsigned_count}
use Rattle.outcomes.proofs.Shorts.{alternative_rows, ca_rows, purpose_rows, short_if, short_name, short_subtrees, short_texts, usage_rows}
use Rattle.outcomes.proofs.Views.{IsSmall, authority_key_within}
use Rattle.outcomes.proofs.Within.{Within, computed, field, field_by_default, field_if, fields_both, in_explicit, in_sequence, integer_within, octets_within}

-- ---- the tree of a key's info, as it was read

identifier_tree : (arcs : List ℕ) (parameters : Option (List ℕ)) → is_oid arcs ≡ true → option_map_or is_one parameters true ≡ true
    → TreeOf algorithm_identifier (record { algorithm = arcs; parameters = parameters })
unfolding algorithm_identifier_fields
identifier_tree arcs None h one =
    let o = contents_there arcs h in
    record { tree = node (universal 16) (row (leaf (universal 6) o.0 ∷ [])); is_tree = rw o.1 refl; tags = refl }
identifier_tree arcs (Some b) h one =
    let o = contents_there arcs h in
    record { tree = node (universal 16) (row (leaf (universal 6) o.0 ∷ raw b ∷ [])); is_tree = rw (o.1, one) refl; tags = refl }

info_of : (arcs : List ℕ) (parameters : Option (List ℕ)) (key : Bits) → is_oid arcs ≡ true → option_map_or is_one parameters true ≡ true
    → are_bits key ≡ true → TreeOf subject_public_key_info (record { algorithm = record { algorithm = arcs; parameters = parameters }; subject_public_key = key })
unfolding subject_public_key_info_fields bit_string_contents
info_of arcs parameters key h one fine =
    let i = identifier_tree arcs parameters h one in
    record {
      tree = node (universal 16) (row (i.tree ∷ leaf (universal 3) (key.unused ∷ key.bytes) ∷ []));
      is_tree = rw (i.is_tree, fine) refl;
      tags = rw i.tags refl;
    }

one_or_none : (o : Option (List ℕ)) (id : Bool) → (id && (optional any).has_trees o) ≡ true → (id ≡ true) × (option_map_or is_one o true ≡ true)
one_or_none None id h = ((and_true id true h).0, refl)
one_or_none (Some b) id h = and_true id (is_one b) h

pub info_there : (i : SubjectPublicKeyInfo) → HasTree subject_public_key_info i → TreeOf subject_public_key_info i
unfolding subject_public_key_info_fields algorithm_identifier_fields
info_there i h =
    let hs = and_true (is_oid i.algorithm.algorithm && (optional any).has_trees i.algorithm.parameters) (are_bits i.subject_public_key) h in
    let one = one_or_none i.algorithm.parameters (is_oid i.algorithm.algorithm) hs.0 in
    info_of i.algorithm.algorithm i.algorithm.parameters i.subject_public_key one.0 one.1 hs.1

-- ---- what is signed

abbrev pub signed_value : List ℕ → SignatureAlgorithm → Name → Time → Time → Name → SubjectPublicKeyInfo → Option Extensions → TbsCertificate
signed_value serial a issuer from to subject info field = record {
  version = v3;
  serial_number = serial;
  signature = signature_identifier a;
  issuer = issuer;
  validity = record { not_before = from; not_after = to };
  subject = subject;
  subject_public_key_info = info;
  issuer_unique_id = None;
  subject_unique_id = None;
  extensions = field;
}

validity_tree : (from to : Time) → TreeOf time from → TreeOf time to → TreeOf validity (record { not_before = from; not_after = to })
unfolding validity_fields
validity_tree from to f t = record {
  tree = node (universal 16) (row (f.tree ∷ t.tree ∷ []));
  is_tree = rw (f.is_tree, t.is_tree) refl;
  tags = rw (f.tags, t.tags) refl;
}

abbrev version_node : PlainTree
version_node = node (context 0) (row (leaf (universal 2) (2 ∷ []) ∷ []))

pub signed_tree : (serial : List ℕ) (a : SignatureAlgorithm) (issuer : Name) (from to : Time) (subject : Name) (info : SubjectPublicKeyInfo)
    (x : Option Extensions) → is_shortest serial ≡ true → TreeOf name issuer → TreeOf time from → TreeOf time to → TreeOf name subject
    → TreeOf subject_public_key_info info → IfSome x (TreeOf extensions) → TreeOf tbs_certificate (signed_value serial a issuer from to subject info x)
unfolding tbs_certificate_fields integer_contents unsigned_64_contents unless_default
signed_tree serial a issuer from to subject info x shortest i f t s k e =
    let algorithm = signature_identifier_tree a in
    let times = validity_tree from to f t in
    let given = explicit_trees (context 3) extensions x refl e in
    record {
      tree = node (universal 16) (row (version_node ∷ leaf (universal 2) serial ∷ algorithm.tree ∷ i.tree ∷ times.tree ∷ s.tree ∷ k.tree ∷ given.trees));
      is_tree = rw (
        shortest,
        algorithm.is_tree,
        i.is_tree,
        times.is_tree,
        s.is_tree,
        k.is_tree,
        given.are_trees,
      ) refl;
      tags = rw (algorithm.tags, i.tags, times.tags, s.tags, k.tags, given.tags) refl;
    }

-- ---- how large it is

version_three : Within version v3 30
unfolding unsigned_64_contents
version_three = computed version v3 (leaf (universal 2) (2 ∷ [])) 30 refl (omega (arith, element_octets_count (made (universal 2) false (2 ∷ []))))

validity_within : (v : Validity) → Within validity v 110
unfolding validity_fields
validity_within v t e =
    let both = fields_both (required time) (required time) v.not_before v.not_after 45 45 (field time v.not_before 45 (time_within v.not_before))
    (field time v.not_after 45 (time_within v.not_after)) in
    let whole = in_sequence (universal 16) validity_fields v 90 both t e in
    omega arith

wrapped : (o : Option Extensions) (n : ℕ) → IfSome o (λ x. Within extensions x n) → IfSome o (λ x. Within (explicitly (context 3) extensions) x (20 + n))
wrapped None n h = tt
wrapped (Some x) n h = in_explicit (context 3) extensions x n h

pub signed_within : (serial : List ℕ) (a : SignatureAlgorithm) (issuer : Name) (from to : Time) (subject : Name) (info : SubjectPublicKeyInfo)
    (x : Option Extensions) (n m : ℕ) → Within name issuer n → IfSome x (λ y. Within extensions y m)
    → Within tbs_certificate (signed_value serial a issuer from to subject info x) (1000 + length serial + n + name_size subject + info_size info + m)
unfolding tbs_certificate_fields
signed_within serial a issuer from to subject info x n m i h u e =
    let k = info_size info in
    let s = name_size subject in
    let times : Validity = record { not_before = from; not_after = to } in
    let f0 = with_default (explicitly (context 0) version) same_version same_version_exact v1 in
    let f1 = required integer in
    let f2 = required algorithm_identifier in
    let f3 = required name in
    let f4 = required validity in
    let f5 = required name in
    let f6 = required subject_public_key_info in
    let c7 = implicitly (context 1) bit_string refl in
    let c8 = implicitly (context 2) bit_string refl in
    let c9 = explicitly (context 3) extensions in
    let v7 : Option Bits × (Option Bits × Option Extensions) = (None, (None, x)) in
    let q8 = 0 + (20 + m) in
    let q = 0 + q8 in
    let p9 = field_if c9 x (20 + m) (wrapped x m h) in
    let p8 = fields_both (optional c8) (optional c9) None x 0 (20 + m) (field_if c8 None 0 tt) p9 in
    let p7 = fields_both (optional c7) (optional c8 & optional c9) None (None, x) 0 q8 (field_if c7 None 0 tt) p8 in
    let g7 = optional c7 & (optional c8 & optional c9) in
    let p6 = fields_both f6 g7 info v7 k q (field subject_public_key_info info k (info_within info)) p7 in
    let p5 = fields_both f5 (f6 & g7) subject (info, v7) s (k + q) (field name subject s (name_within subject)) p6 in
    let p4 = fields_both f4 (f5 & (f6 & g7)) times (subject, (info, v7)) 110 (s + (k + q)) (field validity times 110 (validity_within times)) p5 in
    let p3 = fields_both f3 (f4 & (f5 & (f6 & g7))) issuer (times, (subject, (info, v7))) n (110 + (s + (k + q))) (field name issuer n i) p4 in
    let p2 = fields_both f2 (f3 & (f4 & (f5 & (f6 & g7)))) (signature_identifier a) (issuer, (times, (subject, (info, v7)))) 400 (n + (110 + (s + (k + q))))
    (field algorithm_identifier (signature_identifier a) 400 (algorithm_within a)) p3 in
    let p1 = fields_both f1 (f2 & (f3 & (f4 & (f5 & (f6 & g7))))) serial (signature_identifier a, (issuer, (times, (subject, (info, v7))))) (20 + length serial)
    (400 + (n + (110 + (s + (k + q))))) (field integer serial (20 + length serial) (integer_within serial)) p2 in
    let p0 = fields_both f0 (f1 & (f2 & (f3 & (f4 & (f5 & (f6 & g7)))))) v3 (serial, (signature_identifier a, (issuer, (times, (subject, (info, v7)))))) 50
    (20 + length serial + (400 + (n + (110 + (s + (k + q))))))
    (field_by_default (explicitly (context 0) version) same_version v1 v3 50 (in_explicit (context 0) version v3 30 version_three)) p1 in
    let whole = in_sequence (universal 16) tbs_certificate_fields (signed_value serial a issuer from to subject info x)
    (50 + (20 + length serial + (400 + (n + (110 + (s + (k + q))))))) p0 u e in
    omega arith

-- ---- serial numbers

top_count : (b : List ℕ) → length (without_top_bit b) ≤ length b
top_count [] = omega arith
top_count (x ∷ rest) = omega arith

pub serial_count : (given : Option (List ℕ)) (key : List ℕ) → length (serial_of given key) ≤ 21 + option_map_or length given 0
serial_count None key = omega (arith, unsigned_count (default_serial key), top_count (take 20 (sha256 key)), length-take 20 (sha256 key))
serial_count (Some serial) key = omega (arith, unsigned_count serial)

-- ---- extensions

pub authority_if : (asked : Bool) (id : List ℕ) → IfSome (authority_key_if asked id) (λ x. Within authority_key_identifier x (60 + length id))
authority_if true id = authority_key_within id
authority_if false id = tt

subject_if : (is_ca : IsCa) (id : List ℕ) → IfSome (subject_key_if is_ca id) (λ x. Within octet_string x (20 + length id))
subject_if NoCa id = tt
subject_if ExplicitNoCa id = octets_within id
subject_if (Ca c) id = octets_within id

abbrev pub rows_bound : ParamsView → ℕ → ℕ
rows_bound p n = 2000 + n + params_size p + method_size p.key_identifier_method

pub rows_within : (p : ParamsView) (k : Key) (i : IssuerView) (n : ℕ) → length i.key_identifier ≤ 20 + n → rows_size (extension_rows p k i) ≤ rows_bound p n
rows_within p k i n l =
    let critical = length p.distinguished_name == 0 in
    let id = subject_id p k in
    let size = id_size p.key_identifier_method (key_info_octets k) in
    let a = authority_key_row p.use_authority_key_identifier_extension i.key_identifier in
    let b = subject_alt_name_row critical p.subject_alt_names in
    let c = key_usage_row p.key_usages in
    let d = ext_key_usage_row p.extended_key_usages in
    let e = name_constraints_row p.name_constraints in
    let f = crl_distribution_points_row p.crl_distribution_points in
    let g = subject_key_row p.is_ca id in
    let h = basic_constraints_row p.is_ca in
    let j = map custom_row p.custom_extensions in
    let na = 220 + n in
    let nb = 160 + sum_by alternative_size p.subject_alt_names in
    let nd = 160 + sum_by purpose_size p.extended_key_usages in
    let ne = 140 + option_map_or bases_size p.name_constraints 0 in
    let nf = 160 + sum_by distribution_size p.crl_distribution_points in
    let ng = 160 + method_size p.key_identifier_method in
    let ra = row_within (id_ce ce_authority_key_identifier) false authority_key_identifier (authority_key_if p.use_authority_key_identifier_extension i.key_identifier)
    (60 + length i.key_identifier) (authority_if p.use_authority_key_identifier_extension i.key_identifier) in
    let re = row_within (id_ce ce_name_constraints) true name_constraints_codec (name_constraints p.name_constraints) (option_map_or bases_size p.name_constraints 0)
    (constraints_within p.name_constraints) in
    let rf = row_within (id_ce ce_crl_distribution_points) false (sequence_of distribution_point 0 None refl) (crl_distribution_points p.crl_distribution_points)
    (20 + sum_by distribution_size p.crl_distribution_points) (points_within p.crl_distribution_points) in
    let rg = row_within (id_ce ce_subject_key_identifier) false octet_string (subject_key_if p.is_ca id) (20 + length id) (subject_if p.is_ca id) in
    let s2 = rows_joined a b na nb (omega arith) (alternative_rows critical p.subject_alt_names) in
    let s3 = rows_joined (a ++ b) c (na + nb) 163 s2 (usage_rows p.key_usages) in
    let s4 = rows_joined (a ++ b ++ c) d (na + nb + 163) nd s3 (purpose_rows p.extended_key_usages) in
    let s5 = rows_joined (a ++ b ++ c ++ d) e (na + nb + 163 + nd) ne s4 (omega arith) in
    let s6 = rows_joined (a ++ b ++ c ++ d ++ e) f (na + nb + 163 + nd + ne) nf s5 (omega arith) in
    let s7 = rows_joined (a ++ b ++ c ++ d ++ e ++ f) g (na + nb + 163 + nd + ne + nf) ng s6 (omega arith) in
    let s8 = rows_joined (a ++ b ++ c ++ d ++ e ++ f ++ g) h (na + nb + 163 + nd + ne + nf + ng) 240 s7 (ca_rows p.is_ca) in
    let given = customs_within p.custom_extensions in
    let s9 = rows_joined (a ++ b ++ c ++ d ++ e ++ f ++ g ++ h) j (na + nb + 163 + nd + ne + nf + ng + 240) (sum_by custom_size p.custom_extensions) s8 (omega arith) in
    omega arith

pub field_bound : (p : ParamsView) (k : Key) (i : IssuerView) (n : ℕ) (o : Option Extensions) → length i.key_identifier ≤ 20 + n
    → IsField (extension_rows p k i) o → IfSome o (λ x. Within extensions x (20 + rows_bound p n))
field_bound p k i n None l h = tt
field_bound p k i n (Some x) l h = λ t e. let b = field_within (extension_rows p k i) (Some x) h t e in omega (arith, rows_within p k i n l)

-- ---- the parts are short

pub fit_there : (p : ParamsView) (k : Key) (i : IssuerView) (n : ℕ) → IsSmall n i → params_size p + method_size p.key_identifier_method + n < 2 ^ 61
    → params_size p < 2 ^ 60 → FitIn64Bits p k i
fit_there p k i n s l m =
    let id = subject_id p k in
    let size = id_size p.key_identifier_method (key_info_octets k) in
    let own = s.id in
    record {
      subject_name = short_name p.distinguished_name (omega arith);
      issuer_name = s.name_tree;
      other_names = short_texts p.subject_alt_names (omega arith);
      directory_names = short_subtrees p.name_constraints (omega arith);
      authority_key_id = short_if authority_key_identifier (authority_key_if p.use_authority_key_identifier_extension i.key_identifier) (60 + length i.key_identifier)
          (authority_if p.use_authority_key_identifier_extension i.key_identifier) (omega arith);
      alternative_names = short_if (sequence_of general_name 0 None refl) (subject_alt_name p.subject_alt_names) (20 + sum_by alternative_size p.subject_alt_names)
          (alternatives_within p.subject_alt_names) (omega arith);
      purposes = short_if (sequence_of object_identifier 0 None refl) (ext_key_usage p.extended_key_usages) (20 + sum_by purpose_size p.extended_key_usages)
          (purposes_within p.extended_key_usages) (omega arith);
      subtrees = short_if name_constraints_codec (name_constraints p.name_constraints) (option_map_or bases_size p.name_constraints 0)
          (constraints_within p.name_constraints) (omega arith);
      points = short_if (sequence_of distribution_point 0 None refl) (crl_distribution_points p.crl_distribution_points)
          (20 + sum_by distribution_size p.crl_distribution_points) (points_within p.crl_distribution_points) (omega arith);
      subject_key = short_if octet_string (subject_key_if p.is_ca id) (20 + length id) (subject_if p.is_ca id) (omega arith);
    }
