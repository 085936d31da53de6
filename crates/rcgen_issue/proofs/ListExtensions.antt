-- The field of a list's extensions, for the table.
use Rattle.std.specs.Prelude.{◌≡◌, ℕ, true, false, List, [], ◌∷◌, length, map, Option, Some, None, refl}
use Rattle.std.specs.List.{list_all}
use Rattle.std.specs.Option.{IfSome, option_map}
use Rattle.std.proofs.Common.{arith}
use Rattle.std.proofs.lemmas.Bool.{le-leb}
use Rattle.asn1_core.specs.Octets.{boolean_contents}
use Rattle.asn1_core.specs.Twos.{unsigned}
use Rattle.der_tree.specs.Default.{unless_default}
use Rattle.der_tree.specs.Grammar.{explicitly}
use Rattle.der_tree.specs.HasTree.{HasTree}
use Rattle.der_tree.specs.PrimitiveTypes.{integer}
use Rattle.der_tree.specs.Tags.{context, universal}
use Rattle.der_tree.specs.Tree.{PlainTree, leaf, node, row}
use Rattle.pkix_name.specs.declared.general_name.GeneralName.TheVariants.{Uri}
use Rattle.pkix_cert.specs.Distributions.{distribution_point_name, issuing_distribution_point, issuing_distribution_point_fields}
use Rattle.pkix_cert.specs.KeyIdentifiers.{authority_key_identifier}
use Rattle.pkix_cert.specs.declared.distribution.IssuingDistributionPoint.{IssuingDistributionPoint}
use Rattle.rcgen_certificate.specs.AsciiTexts.{is_ascii}
use Rattle.rcgen_certificate.specs.DistributionPoints.{full_name}
use Rattle.pkix_cert.specs.ExtensionIds.{ce_crl_number, ce_issuing_distribution_point, id_ce}
use Rattle.rcgen_certificate.specs.Issuers.{IssuerView}
use Rattle.rcgen_certificate.specs.KeyIdentifiers.{authority_key}
use Rattle.rcgen_certificate.proofs.KindTrees.{authority_key_there, authority_key_tree, number_tree, uri_trees}
use Rattle.rcgen_certificate.proofs.RowTrees.{HasField, field_there, rows_then, tree_row}
pub use Rattle.rcgen_certificate.proofs.Rows.{named}
use Rattle.rcgen_certificate.proofs.Trees.{TreeOf, has_tree_if, has_tree_of}
use Rattle.rcgen_issue.specs.ListTable.{CrlFitsIn64Bits}
use Rattle.rcgen_issue.specs.CrlView.{CrlView}
use Rattle.rcgen_issue.specs.Lists.{issuing_point_value, issuing_uris, crl_extension_rows, crl_key_id, of_authorities_only, of_users_only}
use Rattle.rcgen_text.specs.declared.crl_scope.CrlScope.{CrlScope}
use Rattle.rcgen_text.specs.declared.crl_scope.CrlScope.TheVariants as scope

-- ---- the issuing point

-- its name, in its field
name_there : (texts : List (List ℕ)) → list_all is_ascii texts ≡ true → TreeOf (explicitly (context 0) distribution_point_name) (full_name texts)
name_there texts a =
    let uris = uri_trees texts a in
    record {
      tree = node (context 0) (row (node (context 0) (row uris.trees) ∷ []));
      is_tree = rw (le-leb 0 (length (map Uri texts)) (omega arith), uris.are_trees) refl;
      tags = rw uris.tags refl;
    }

abbrev point_of_scope : List (List ℕ) → Option CrlScope → IssuingDistributionPoint
point_of_scope uris s = record {
  distribution_point = Some (full_name uris);
  only_contains_user_certs = of_users_only s;
  only_contains_ca_certs = of_authorities_only s;
  only_some_reasons = None;
  indirect_crl = false;
  only_contains_attribute_certs = false;
}

-- the field of the scope's flag
abbrev flag : Option CrlScope → List PlainTree
flag None = []
flag (Some scope.UserCertsOnly) = leaf (context 1) (255 ∷ []) ∷ []
flag (Some scope.CaCertsOnly) = leaf (context 2) (255 ∷ []) ∷ []

scoped_tree : (uris : List (List ℕ)) (s : Option CrlScope) → TreeOf (explicitly (context 0) distribution_point_name) (full_name uris)
    → TreeOf issuing_distribution_point (point_of_scope uris s)
unfolding issuing_distribution_point_fields unless_default boolean_contents
scoped_tree uris None h =
    record { tree = node (universal 16) (row (h.tree ∷ flag None)); is_tree = rw h.is_tree refl; tags = rw h.tags refl }
scoped_tree uris (Some scope.UserCertsOnly) h = record {
  tree = node (universal 16) (row (h.tree ∷ flag (Some scope.UserCertsOnly)));
  is_tree = rw h.is_tree refl;
  tags = rw h.tags refl;
}
scoped_tree uris (Some scope.CaCertsOnly) h =
    record { tree = node (universal 16) (row (h.tree ∷ flag (Some scope.CaCertsOnly))); is_tree = rw h.is_tree refl; tags = rw h.tags refl }

issuing_tree : (point : Option (List (List ℕ) × Option CrlScope)) → list_all is_ascii (issuing_uris point) ≡ true
    → IfSome (option_map issuing_point_value point) (TreeOf issuing_distribution_point)
issuing_tree None a = tt
issuing_tree (Some p) a = scoped_tree p.0 p.1 (name_there p.0 a)

-- ---- the field

pub issuing_formed : (point : Option (List (List ℕ) × Option CrlScope)) → list_all is_ascii (issuing_uris point) ≡ true
    → IfSome (option_map issuing_point_value point) (HasTree issuing_distribution_point)
issuing_formed point a = has_tree_if issuing_distribution_point (option_map issuing_point_value point) (issuing_tree point a)

pub key_formed : (id : List ℕ) → HasTree authority_key_identifier (authority_key id)
key_formed id = has_tree_of authority_key_identifier (authority_key id) (authority_key_tree id)

pub ruleset formed = (issuing_formed, key_formed, named)

pub list_extensions_there : (p : CrlView) (issuer : IssuerView) → list_all is_ascii (issuing_uris p.issuing_distribution_point) ≡ true
    → CrlFitsIn64Bits p issuer → HasField (crl_extension_rows p issuer)
list_extensions_there p issuer uris short =
    let id = crl_key_id p.key_identifier_method issuer in
    let own = authority_key_there true id short.authority_key_id in
    let number = tree_row (id_ce ce_crl_number) false integer (Some (unsigned p.crl_number)) refl (number_tree p.crl_number) short.number in
    let point = tree_row (id_ce ce_issuing_distribution_point) true issuing_distribution_point (option_map issuing_point_value p.issuing_distribution_point) refl
    (issuing_tree p.issuing_distribution_point uris) short.point in
    field_there (crl_extension_rows p issuer) (rows_then (rows_then own number) point)
