-- The table of attribute certificates can be met.
use Rattle.std.specs.Prelude.{◌≡◌, ℕ, true, List, [], ◌∷◌, map, Option, None, refl}
use Rattle.std.specs.List.{list_all}
use Rattle.std.specs.Option.{IfSome, option_map}
use Rattle.std.proofs.Common.{sym, ap, ◌∙◌, subst}
use Rattle.asn1_core.specs.Bits.{bit_string_contents, bits}
use Rattle.asn1_core.specs.Twos.{unsigned}
use Rattle.asn1_core.specs.declared.time.generalized_time.GeneralizedTime.{GeneralizedTime}
use Rattle.der_tree.specs.HasTree.{HasTree}
use Rattle.der_tree.specs.PrimitiveTypes.{generalized_time}
use Rattle.der_tree.specs.Tags.{context, universal}
use Rattle.der_tree.specs.Tree.{PlainTree, leaf, node, row}
use Rattle.der_tree.specs.laws.Results.{some_there}
use Rattle.pkix_name.specs.Names.{attribute, name as name_codec}
use Rattle.pkix_name.specs.declared.name.Attribute.{Attribute as AttributeValue}
use Rattle.pkix_name.specs.declared.name.Name.{Name}
use Rattle.pkix_cert.specs.Extensions.{extensions}
use Rattle.pkix_cert.specs.declared.extension.Extensions.{Extensions}
use Rattle.pkix_attr.specs.Certificates.{attribute_certificate, attribute_certificate_fields, attribute_certificate_info, attribute_certificate_info_fields}
use Rattle.pkix_attr.specs.Certificates.{attribute_certificate_validity_period, attribute_certificate_validity_period_fields}
use Rattle.pkix_attr.specs.Holders.{holder, holder_fields, issuer as issuer_codec, issuer_serial_fields, v2_form_fields}
use Rattle.pkix_attr.specs.declared.certificate.AttributeCertificate.{AttributeCertificate}
use Rattle.pkix_attr.specs.declared.certificate.AttributeCertificateInfo.{AttributeCertificateInfo}
use Rattle.rcgen_sign.specs.declared.sign_algo.SignatureAlgorithm.{SignatureAlgorithm}
use Rattle.rcgen_sign.proofs.AlgorithmLemmas.{no_unused}
use Rattle.rcgen_certificate.specs.Issuers.{IssuerView}
use Rattle.rcgen_certificate.specs.KeyValues.{signature_identifier}
use Rattle.rcgen_certificate.specs.NameValues.{name_value}
use Rattle.rcgen_certificate.specs.Requests.{attribute_value, given_of, has_attribute_type, has_values}
use Rattle.rcgen_certificate.specs.declared.csr.Attribute.{Attribute}
use Rattle.rcgen_certificate.proofs.AttributeTrees.{given_tree}
use Rattle.rcgen_certificate.proofs.IssuerNames.{is_named, name_is}
use Rattle.rcgen_certificate.proofs.KindTrees.{authority_key_there, number_tree}
use Rattle.rcgen_certificate.proofs.NamesAsRead.{name_as_read_tree}
use Rattle.rcgen_certificate.proofs.ListTrees.{TreesOf, both_hold, each_passes, each_tree, list_tree}
use Rattle.rcgen_certificate.proofs.OptionalTrees.{field_trees}
use Rattle.rcgen_certificate.proofs.RelativeNames.{name_tree}
use Rattle.rcgen_certificate.proofs.RowTrees.{HasField, field_there}
use Rattle.rcgen_certificate.proofs.TableParts.{whole_second}
use Rattle.rcgen_certificate.proofs.TableTrees.{general_tree, signature_identifier_tree}
use Rattle.rcgen_certificate.proofs.Trees.{HasWhole, TreeOf, whole_there}
use Rattle.rcgen_issue.specs.ListTable.{HasCivilTime}
use Rattle.attr_issue.specs.AttributeCauses.{HasNoEarlyCause, has_set, has_type}
use Rattle.attr_issue.specs.AttributeCertificateView.{AttributeCertificateView}
use Rattle.attr_issue.specs.AttributeCertificates.{attribute_extension_rows, attribute_of, holder_value, issuer_value, v2}
use Rattle.attr_issue.proofs.AttributeCauses.{sets_seen, types_seen, written_seen}
use Rattle.attr_issue.specs.AttributeTable.{AttributeCertificateFitsIn64Bits, AttributeCertificateExists}

-- ---- the holder and the issuer

-- names of one directory name with this tree
abbrev names_node : PlainTree → PlainTree
names_node t = node (universal 16) (row (node (context 4) (row (t ∷ [])) ∷ []))

holder_tree : (serial : List ℕ) (n : Name) → TreeOf name_codec n → TreeOf holder (holder_value serial n)
unfolding holder_fields issuer_serial_fields
holder_tree serial n h =
    let number = number_tree serial in
    record {
      tree = node (universal 16) (row (node (context 0) (row (names_node h.tree ∷ number.tree ∷ [])) ∷ []));
      is_tree = rw (h.is_tree, number.is_tree) refl;
      tags = rw (h.tags, number.tags) refl;
    }

issuer_tree : (n : Name) → TreeOf name_codec n → TreeOf issuer_codec (issuer_value n)
unfolding v2_form_fields
issuer_tree n h = record {
  tree = node (context 0) (row (names_node h.tree ∷ []));
  is_tree = rw h.is_tree refl;
  tags = rw h.tags refl;
}

-- ---- the times

validity_tree : (from to : GeneralizedTime) → TreeOf generalized_time from → TreeOf generalized_time to
    → TreeOf attribute_certificate_validity_period (record { not_before = from; not_after = to })
unfolding attribute_certificate_validity_period_fields
validity_tree from to f t = record {
  tree = node (universal 16) (row (f.tree ∷ t.tree ∷ []));
  is_tree = rw (f.is_tree, t.is_tree) refl;
  tags = rw (f.tags, t.tags) refl;
}

-- ---- the attributes and the extension

pub given_trees : (gs : List Attribute) → list_all has_type (map given_of gs) ≡ true → list_all has_set (map given_of gs) ≡ true
    → TreesOf attribute (map attribute_of (map given_of gs))
given_trees gs types values =
    subst (TreesOf attribute) (sym (written_seen gs))
    (each_tree attribute attribute_value _ (λ a h. given_tree a h.0 h.1) gs
    (both_hold _ _ gs (each_passes has_attribute_type gs (sym (types_seen gs) ∙ types)) (each_passes has_values gs (sym (sets_seen gs) ∙ values))))

extension_there : (params : AttributeCertificateView) (issuer : IssuerView) → AttributeCertificateFitsIn64Bits params issuer
    → HasField (attribute_extension_rows params issuer)
extension_there params issuer short =
    field_there (attribute_extension_rows params issuer)
    (authority_key_there params.use_authority_key_identifier_extension issuer.key_identifier short.authority_key_id)

-- ---- the attribute certificate

abbrev info_of : List ℕ → Name → Name → SignatureAlgorithm → List ℕ → GeneralizedTime → GeneralizedTime → List AttributeValue → Option Extensions
    → AttributeCertificateInfo
info_of held holder_issuer issuer a serial from to attributes field = record {
  version = v2;
  holder = holder_value held holder_issuer;
  issuer = issuer_value issuer;
  signature = signature_identifier a;
  serial_number = unsigned serial;
  attr_cert_validity_period = record { not_before = from; not_after = to };
  attributes = attributes;
  issuer_unique_id = None;
  extensions = field;
}

info_tree : (held : List ℕ) (h i : Name) (a : SignatureAlgorithm) (serial : List ℕ) (from to : GeneralizedTime) (vs : List AttributeValue)
    (x : Option Extensions) → TreeOf name_codec h → TreeOf name_codec i → TreeOf generalized_time from → TreeOf generalized_time to
    → TreesOf attribute vs → IfSome x (TreeOf extensions) → TreeOf attribute_certificate_info (info_of held h i a serial from to vs x)
unfolding attribute_certificate_info_fields
info_tree held h i a serial from to vs x held_by issued_by f t given e =
    let version = number_tree (1 ∷ []) in
    let holder = holder_tree held h held_by in
    let issuer = issuer_tree i issued_by in
    let algorithm = signature_identifier_tree a in
    let number = number_tree serial in
    let times = validity_tree from to f t in
    let attributes = list_tree attribute vs given in
    let field = field_trees extensions x e in
    record {
      tree = node (universal 16) (row (version.tree ∷ holder.tree ∷ issuer.tree ∷ algorithm.tree ∷ number.tree ∷ times.tree
          ∷ attributes.tree ∷ field.trees));
      is_tree = rw (
        version.is_tree,
        holder.is_tree,
        issuer.is_tree,
        algorithm.is_tree,
        number.is_tree,
        times.is_tree,
        attributes.is_tree,
        field.are_trees,
      ) refl;
      tags = rw (version.tags, holder.tags, issuer.tags, algorithm.tags, number.tags, times.tags, attributes.tags, field.tags) refl;
    }

abbrev attribute_certificate_of : AttributeCertificateInfo → SignatureAlgorithm → List ℕ → AttributeCertificate
attribute_certificate_of t a g = record { info = t; signature_algorithm = signature_identifier a; signature_value = bits 0 g }

certificate_there : (t : AttributeCertificateInfo) (a : SignatureAlgorithm) (g : List ℕ) → TreeOf attribute_certificate_info t
    → HasWhole attribute_certificate (attribute_certificate_of t a g) attribute_certificate_info t
unfolding attribute_certificate_fields bit_string_contents
certificate_there t a g h =
    let algorithm = signature_identifier_tree a in
    whole_there attribute_certificate (attribute_certificate_of t a g) attribute_certificate_info t h (algorithm.tree ∷ leaf (universal 3) (0 ∷ g) ∷ [])
    (rw (h.is_tree, algorithm.is_tree, no_unused g) refl) (rw algorithm.tags refl)

pub met : (params : AttributeCertificateView) (issuer : IssuerView) → HasCivilTime params.not_before → HasCivilTime params.not_after
    → HasNoEarlyCause params issuer.name → TreesOf attribute (map attribute_of params.attributes) → AttributeCertificateExists params issuer
met params issuer starts ends none attributes short signature =
    let held = is_named params.holder_issuer none.holder_types in
    let holder_name = name_value params.holder_issuer in
    let name = some_there issuer.name none.issuer_types in
    let encodable = subst (λ (o : Option Name). IfSome o (HasTree name_codec)) name.1 short.issuer_name in
    let from = starts none.not_before in
    let to = ends none.not_after in
    let f = whole_second from.0 in
    let t = whole_second to.0 in
    let before : GeneralizedTime = record { at = f.0 } in
    let after : GeneralizedTime = record { at = t.0 } in
    let x = extension_there params issuer short in
    let vs = map attribute_of params.attributes in
    let info = info_of params.holder_serial holder_name name.0 issuer.algorithm params.serial_number before after vs x.field in
    let whole = certificate_there info issuer.algorithm signature
    (info_tree params.holder_serial holder_name name.0 issuer.algorithm params.serial_number before after vs x.field
    (name_tree params.holder_issuer held short.holder_issuer) (name_as_read_tree name.0 encodable)
    (general_tree from.0 f.0 from.1.1.0 f.1).of_value (general_tree to.0 t.0 to.1.1.0 t.1).of_value
    attributes x.tree) in (
      attribute_certificate_of info issuer.algorithm signature,
      record {
        issued = record {
          info = record {
            version = refl;
            holder = ap (option_map (holder_value params.holder_serial)) (name_is params.holder_issuer held);
            issuer_form = ap (option_map issuer_value) name.1;
            signature = refl;
            serial_number = refl;
            not_before = (from.0, from.1, f.1);
            not_after = (to.0, to.1, t.1);
            attributes = refl;
            issuer_unique_id = refl;
            extensions = x.is_field;
          };
          signature_algorithm = refl;
          no_unused_bits = refl;
        };
        signature_value = refl;
        has_tree = whole.has_tree;
      },
      whole.forms,
    )
