-- The tree of what is issued.
use Rattle.std.specs.Prelude.{int_le, ◌/◌, ◌≡◌, ℕ, true, ◌&&◌, List, [], ◌∷◌, ◌++◌}
use Rattle.std.specs.Prelude.{Option, Some, None, pos, ◌≤ℤ◌, refl}
use Rattle.std.specs.Option.{IfSome, option_map_or}
use Rattle.std.proofs.Common.{ap, ◌∙◌, arith}
use Rattle.jiff.specs.Types.{DateTime, Date}
use Rattle.asn1_core.specs.Arcs.{is_oid}
use Rattle.asn1_core.specs.Bits.{bit_string_contents}
use Rattle.asn1_core.specs.GeneralizedTime.{generalized_time_contents}
use Rattle.asn1_core.specs.TwoDigits.{two_digits}
use Rattle.asn1_core.specs.Written.{IsWritten, IsWholeSecond}
use Rattle.asn1_core.specs.Twos.{integer_contents}
use Rattle.asn1_core.specs.Unsigned.{unsigned_64_contents}
use Rattle.asn1_core.specs.UtcTime.{is_utc_time_year, twelve_digits, utc_time_contents, year_of}
use Rattle.der_tree.specs.AnyElement.{is_one}
use Rattle.der_tree.specs.HasTree.{HasTree}
use Rattle.der_tree.specs.Default.{unless_default}
use Rattle.der_tree.specs.PrimitiveTypes.{generalized_time}
use Rattle.der_tree.specs.Tags.{context, universal}
use Rattle.der_tree.specs.Tree.{PlainTree, leaf, node, raw, row}
use Rattle.pkix_name.specs.Names.{name}
use Rattle.pkix_name.specs.declared.name.Name.{Name}
use Rattle.pkix_cert.specs.Algorithms.{algorithm_identifier, algorithm_identifier_fields, subject_public_key_info, subject_public_key_info_fields}
use Rattle.pkix_cert.specs.Certificates.{certificate, certificate_fields, tbs_certificate, tbs_certificate_fields}
use Rattle.pkix_cert.specs.Extensions.{extensions}
use Rattle.pkix_cert.specs.Times.{time, time_parts, validity, validity_fields}
use Rattle.pkix_cert.specs.declared.certificate.TbsCertificate.{TbsCertificate}
use Rattle.pkix_cert.specs.declared.extension.Extensions.{Extensions}
use Rattle.pkix_cert.specs.declared.time.Time.{Time}
use Rattle.pkix_cert.specs.declared.time.Time.TheVariants.{Utc, General}
use Rattle.rcgen_sign.specs.Keys.{Key}
use Rattle.rcgen_sign.specs.declared.sign_algo.SignatureAlgorithm.{SignatureAlgorithm}
use Rattle.rcgen_sign.specs.Algorithms.{signature_arcs, key_arcs, key_parameters}
use Rattle.rcgen_sign.proofs.AlgorithmLemmas.{are_one, key_arcs_are, no_unused, signature_parameters_are_one}
use Rattle.rcgen_certificate.specs.KeyValues.{signature_identifier, key_value}
use Rattle.rcgen_certificate.specs.NameValues.{name_value}
use Rattle.rcgen_certificate.specs.ParamsView.{ParamsView}
use Rattle.rcgen_certificate.specs.Serials.{serial_of}
use Rattle.rcgen_certificate.proofs.IssuedTrees.{not_negative, signature_arcs_are}
use Rattle.rcgen_certificate.proofs.OptionalTrees.{explicit_trees}
use Rattle.rcgen_certificate.proofs.RelativeNames.{contents_there}
use Rattle.rcgen_certificate.proofs.TableParts.{certificate_of, tbs_value, serial_shortest}
use Rattle.rcgen_certificate.proofs.Trees.{HasWhole, ShortTreeOf, TreeOf, has_tree_of, short_leaf, whole_there}

-- ---- algorithms and keys

identifier_tree : (arcs : List ℕ) (parameters : Option (List ℕ)) → is_oid arcs ≡ true → option_map_or is_one parameters true ≡ true
    → TreeOf algorithm_identifier (record { algorithm = arcs; parameters = parameters })
unfolding algorithm_identifier_fields
identifier_tree arcs None h one =
    let o = contents_there arcs h in
    record { tree = node (universal 16) (row (leaf (universal 6) o.0 ∷ [])); is_tree = rw o.1 refl; tags = refl }
identifier_tree arcs (Some b) h one =
    let o = contents_there arcs h in
    record { tree = node (universal 16) (row (leaf (universal 6) o.0 ∷ raw b ∷ [])); is_tree = rw (o.1, one) refl; tags = refl }

pub signature_identifier_tree : (a : SignatureAlgorithm) → TreeOf algorithm_identifier (signature_identifier a)
signature_identifier_tree a = identifier_tree (signature_arcs a) _ (signature_arcs_are a) (signature_parameters_are_one a)

pub key_value_tree : (a : SignatureAlgorithm) (key : List ℕ) → TreeOf subject_public_key_info (key_value a key)
unfolding subject_public_key_info_fields bit_string_contents
key_value_tree a key =
    let i = identifier_tree (key_arcs a) (key_parameters a) (key_arcs_are a) (are_one a) in
    record {
      tree = node (universal 16) (row (i.tree ∷ leaf (universal 3) (0 ∷ key) ∷ []));
      is_tree = rw (i.is_tree, no_unused key) refl;
      tags = rw i.tags refl;
    }

-- ---- times

utc_tree : (at whole : DateTime) → is_utc_time_year at ≡ true → IsWholeSecond at whole → TreeOf time (Utc (record { at = whole }))
unfolding utc_time_contents
utc_tree at whole y w =
    let same : is_utc_time_year whole ≡ true = ap (λ (d : Date). int_le (pos 1950) d.year && int_le d.year (pos 2049)) w.0 ∙ y in
    record { tree = leaf (universal 23) (twelve_digits whole ++ 90 ∷ []); is_tree = rw (same, w.4) refl; tags = refl }

-- a GeneralizedTime of a whole second, and its octets
pub general_tree : (at whole : DateTime) → pos 0 ≤ℤ at.date.year → IsWholeSecond at whole → ShortTreeOf generalized_time (record { at = whole })
unfolding generalized_time_contents
general_tree at whole l w =
    let same : int_le (pos 0) whole.date.year ≡ true = ap (λ (d : Date). int_le (pos 0) d.year) w.0 ∙ not_negative at.date.year l in
    short_leaf generalized_time (record { at = whole }) (universal 24) (two_digits (year_of whole / 100) ++ twelve_digits whole ++ 90 ∷ [])
    (rw (same, w.4) refl) refl (omega arith)

pub time_tree : (at : DateTime) (t : Time) → pos 0 ≤ℤ at.date.year → IsWritten at (time_parts t) → TreeOf time t
time_tree at (Utc t) l w = utc_tree at t.at w.0 w.1
time_tree at (General t) l w =
    let g = (general_tree at t.at l w.1).of_value in
    record { tree = g.tree; is_tree = g.is_tree; tags = g.tags }

pub written_has : (at : DateTime) (t : Time) → pos 0 ≤ℤ at.date.year → IsWritten at (time_parts t) → HasTree time t
written_has at t l w = has_tree_of time t (time_tree at t l w)

validity_tree : (from to : Time) → TreeOf time from → TreeOf time to → TreeOf validity (record { not_before = from; not_after = to })
unfolding validity_fields
validity_tree from to f t = record {
  tree = node (universal 16) (row (f.tree ∷ t.tree ∷ []));
  is_tree = rw (f.is_tree, t.is_tree) refl;
  tags = rw (f.tags, t.tags) refl;
}

-- ---- the certificate

-- the version, as its field
abbrev version_node : PlainTree
version_node = node (context 0) (row (leaf (universal 2) (2 ∷ []) ∷ []))

pub tbs_tree : (p : ParamsView) (s : Key) (issuer : Name) (a : SignatureAlgorithm) (from to : Time) (field : Option Extensions)
    → IfSome field (TreeOf extensions) → TreeOf time from → TreeOf time to → TreeOf name (name_value p.distinguished_name) → TreeOf name issuer
    → TreeOf tbs_certificate (tbs_value p s issuer a from to field)
unfolding tbs_certificate_fields integer_contents unsigned_64_contents unless_default
tbs_tree p s issuer a from to field e f t subject issued_by =
    let algorithm = signature_identifier_tree a in
    let times = validity_tree from to f t in
    let key = key_value_tree s.algorithm s.octets in
    let x = explicit_trees (context 3) extensions field refl e in
    record {
      tree = node (universal 16) (row (version_node ∷ leaf (universal 2) (serial_of p.serial_number s.octets)
          ∷ algorithm.tree ∷ issued_by.tree ∷ times.tree ∷ subject.tree ∷ key.tree ∷ x.trees));
      is_tree = rw (
        serial_shortest p.serial_number s.octets,
        algorithm.is_tree,
        issued_by.is_tree,
        times.is_tree,
        subject.is_tree,
        key.is_tree,
        x.are_trees,
      ) refl;
      tags = rw (algorithm.tags, issued_by.tags, times.tags, subject.tags, key.tags, x.tags) refl;
    }

pub certificate_there : (t : TbsCertificate) (a : SignatureAlgorithm) (g : List ℕ) → TreeOf tbs_certificate t
    → HasWhole certificate (certificate_of t a g) tbs_certificate t
unfolding certificate_fields bit_string_contents
certificate_there t a g h =
    let algorithm = signature_identifier_tree a in
    whole_there certificate (certificate_of t a g) tbs_certificate t h (algorithm.tree ∷ leaf (universal 3) (0 ∷ g) ∷ [])
    (rw (h.is_tree, algorithm.is_tree, no_unused g) refl) (rw algorithm.tags refl)
