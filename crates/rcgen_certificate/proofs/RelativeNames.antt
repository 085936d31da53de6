-- The trees of names, and of their attributes.
use Rattle.std.specs.Prelude.{◌≡◌, ℕ, ◌+◌, ◌*◌, ◌^◌, ◌<◌, true, nat_lt, List, [], ◌∷◌, ◌++◌, length, map, Some}
use Rattle.std.specs.Prelude.{is_some, refl}
use Rattle.std.specs.List.{flat_map}
use Rattle.std.proofs.Common.{ap, arith}
use Rattle.std.proofs.lemmas.Bool.{lt-ltb, le-leb}
use Rattle.asn1_core.specs.Arcs.{is_oid}
use Rattle.asn1_core.specs.Base128.{base128}
use Rattle.asn1_core.specs.Binds.{and_true, true_and}
use Rattle.asn1_core.specs.ObjectIdentifiers.{object_identifier_contents}
use Rattle.der_tree.specs.AnyElement.{is_one}
use Rattle.der_tree.specs.Element.{element_octets, one_element}
use Rattle.der_tree.specs.Tags.{universal}
use Rattle.der_tree.specs.Tree.{leaf, node, raw, row}
use Rattle.der_tree.specs.laws.Element.{one_element_again}
use Rattle.pkix_name.specs.Names.{attribute_type_and_value, attribute_type_and_value_fields, relative_distinguished_name, name}
use Rattle.rcgen_text.specs.DnTypes.{type_arcs}
use Rattle.rcgen_text.specs.DnValues.{Text, bmp_string, ia5_string, printable_string, teletex_string, universal_string, utf8_string, text_bytes}
use Rattle.rcgen_text.specs.Names.{Entry}
use Rattle.rcgen_certificate.specs.NameValues.{has_types, text_number, text_element, attribute, relative_name, name_value}
use Rattle.rcgen_certificate.specs.ShortParts.{HasShortAttributes, IsShortAttribute}
use Rattle.rcgen_certificate.proofs.ListTrees.{TreesOf, more_trees, no_trees}
use Rattle.der_tree.proofs.ShortTrees.{element_there}
use Rattle.rcgen_certificate.proofs.Trees.{ShortTreeOf, TreeOf, short_tree}

-- the contents octets of an identifier
pub contents_there : (arcs : List ℕ) → is_oid arcs ≡ true → (octets : List ℕ) × (object_identifier_contents.to arcs ≡ Some octets)
unfolding object_identifier_contents
contents_there [] h = absurd cc
contents_there (a ∷ []) h = absurd cc
contents_there (a ∷ b ∷ rest) h = (base128 (40 * a + b) ++ flat_map base128 rest, rw h refl)

number_fits : (x : Text) → nat_lt (text_number x) (2 ^ 32) ≡ true
number_fits (bmp_string b) = refl
number_fits (ia5_string b) = refl
number_fits (printable_string b) = refl
number_fits (teletex_string b) = refl
number_fits (universal_string b) = refl
number_fits (utf8_string b) = refl

pub value_is_one : (x : Text) → length (text_bytes x) < 2 ^ 64 → one_element (element_octets (text_element x)) ≡ Some (text_element x)
value_is_one x l =
    one_element_again (text_element x)
    (true_and (nat_lt (text_number x) (2 ^ 32)) (nat_lt (length (text_bytes x)) (2 ^ 64)) (number_fits x) (lt-ltb (length (text_bytes x)) (2 ^ 64) l))

attribute_tree : (e : Entry) → is_oid (type_arcs e.dn_type) ≡ true → IsShortAttribute e → ShortTreeOf attribute_type_and_value (attribute e)
unfolding attribute_type_and_value_fields
attribute_tree e r s =
    let o = contents_there (type_arcs e.dn_type) r in
    let one : is_one (element_octets (text_element e.text)) ≡ true = ap is_some (value_is_one e.text s.text) in
    short_tree attribute_type_and_value (attribute e) (record {
      tree = node (universal 16) (row (leaf (universal 6) o.0 ∷ raw (element_octets (text_element e.text)) ∷ []));
      is_tree = rw (o.1, one) refl;
      tags = refl;
    }) s.whole

relative_tree : (e : Entry) → ShortTreeOf attribute_type_and_value (attribute e) → TreeOf relative_distinguished_name (relative_name e)
relative_tree e a =
    let t = a.of_value in
    let x = element_there t.tree (attribute_type_and_value.sound (attribute e) t.tree t.is_tree) t.tags a.short in
    record { tree = node (universal 17) (row (t.tree ∷ [])); is_tree = rw (t.is_tree, x.1) refl; tags = rw t.tags refl }

row_trees : (es : List Entry) → has_types es ≡ true → HasShortAttributes es → TreesOf relative_distinguished_name (map relative_name es)
row_trees [] r s = no_trees relative_distinguished_name
row_trees (e ∷ es) r s =
    let rs = and_true (is_oid (type_arcs e.dn_type)) (has_types es) r in
    more_trees relative_distinguished_name (relative_name e) (map relative_name es) (relative_tree e (attribute_tree e rs.0 s.0)) (row_trees es rs.1 s.1)

pub name_tree : (es : List Entry) → has_types es ≡ true → HasShortAttributes es → TreeOf name (name_value es)
name_tree es r s =
    let parts = row_trees es r s in
    record {
      tree = node (universal 16) (row parts.trees);
      is_tree = rw (le-leb 0 (length (map relative_name es)) (omega arith), parts.are_trees) refl;
      tags = parts.tags;
    }
