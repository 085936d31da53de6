-- The trees of names as they were read: the attributes of a part are elements, so that their tags fit.
use Rattle.std.specs.Prelude.{◌≡◌, ◌^◌, Bool, true, false, cond, nat_le, nat_lt, List, [], ◌∷◌, length, Option, Some, None, Result, Ok, Err, refl}
use Rattle.std.specs.List.{flat_map, list_all}
use Rattle.std.proofs.Common.{sym, ap, ◌∙◌}
use Rattle.asn1_core.specs.Binds.{and_true, bind_some, chosen, true_and, ◌>>=◌}
use Rattle.der_tree.specs.Codec.{Codec}
use Rattle.der_tree.specs.Element.{Element, element_octets, is_encodable}
use Rattle.der_tree.specs.HasTree.{HasTree}
use Rattle.der_tree.specs.Sequence.{node_of}
use Rattle.der_tree.specs.SequenceOf.{each_put}
use Rattle.der_tree.specs.SetOf.{ascend, is_set, row_if, set_put}
use Rattle.der_tree.specs.Tags.{universal}
use Rattle.der_tree.specs.Tree.{PlainTree, PlainTrees, leaf, more, node, none, raw, row}
use Rattle.der_tree.specs.TreeBytes.{made}
use Rattle.der_tree.specs.TreeElement.{checked, element_of, elements_of, row_elements}
use Rattle.der_tree.specs.declared.error.EncodeError.{EncodeError}
use Rattle.der_tree.specs.declared.error.EncodeError.TheVariants.{SizeOutOfRange}
use Rattle.der_tree.specs.laws.SetOf.{is_set_is}
use Rattle.der_tree.proofs.SetLaws.{set_put_is}
use Rattle.der_tree.proofs.ShortTrees.{row_tags_fit, tags_fit}
use Rattle.pkix_name.specs.Names.{attribute_type_and_value, relative_distinguished_name, name}
use Rattle.pkix_name.specs.declared.name.Name.{Name}
use Rattle.pkix_name.specs.declared.name.Name.TheVariants.{RdnSequence}
use Rattle.pkix_name.specs.declared.name.RelativeDistinguishedName.{RelativeDistinguishedName}
use Rattle.rcgen_certificate.proofs.ListTrees.{TreesOf, list_tree, more_trees, no_trees}
use Rattle.rcgen_certificate.proofs.Trees.{TreeOf}

tag_of : (s t : Element) → checked s ≡ Some t → nat_lt s.tag.number (2 ^ 32) ≡ true
tag_of s t e = (and_true (nat_lt s.tag.number (2 ^ 32)) (nat_lt (length s.content) (2 ^ 64)) (chosen (is_encodable s) s t e).0).0

-- the tags of a tree that is an element fit
mutual
  tags_of : (t : PlainTree) (s : Element) → element_of t ≡ Some s → tags_fit t ≡ true
  tags_of (leaf t b) s e = tag_of (record { tag = t; constructed = false; content = b }) s e
  tags_of (node t k) s e =
      let x = bind_some (row_elements k) (λ ss. checked (made t true (flat_map element_octets ss))) s e in
      true_and (nat_lt t.number (2 ^ 32)) (row_tags_fit k) (tag_of (made t true (flat_map element_octets x.0)) s x.2) (row_tags_of k x.0 x.1)
  tags_of (raw b) s e = refl

  row_tags_of : (k : PlainTrees) (ss : List Element) → row_elements k ≡ Some ss → row_tags_fit k ≡ true
  row_tags_of none ss e = refl
  row_tags_of (more t k) ss e =
      let x = bind_some (element_of t) (λ s. row_elements k >>= λ rest. Some (s ∷ rest)) ss e in
      let y = bind_some (row_elements k) (λ rest. Some (x.0 ∷ rest)) ss x.2 in
      true_and (tags_fit t) (row_tags_fit k) (tags_of t x.0 x.1) (row_tags_of k y.0 y.1)

-- the trees of a set's values, which are elements in order
ascending_tags : (ts : List PlainTree) (o : Option (List Element)) → elements_of ts ≡ o → ascend o ≡ true → row_tags_fit (row ts) ≡ true
ascending_tags ts None e h = absurd cc
ascending_tags ts (Some ss) e h = row_tags_of (row ts) ss e

ascending_trees : {A : Type 0} (c : Codec A) (vs : List A) (r : Result (List PlainTree) EncodeError) → each_put c vs ≡ r → ascend (row_if r) ≡ true
    → TreesOf c vs
ascending_trees c vs (Ok ts) e h = record { trees = ts; are_trees = e; tags = ascending_tags ts (elements_of ts) refl h }
ascending_trees c vs (Err x) e h = absurd cc

put_within : (b : Bool) (r : Result (List PlainTree) EncodeError) (ts : List PlainTree) → b ≡ true → r ≡ Ok ts → cond b r (Err SizeOutOfRange) ≡ Ok ts
put_within b r ts h e = rw (h, e) refl

part_tree : (part : RelativeDistinguishedName) → HasTree relative_distinguished_name part → TreeOf relative_distinguished_name part
part_tree part h =
    let c = attribute_type_and_value in
    let hs = and_true (nat_le 1 (length part.0)) (is_set c part.0) h in
    let parts = ascending_trees c part.0 (each_put c part.0) refl (sym (is_set_is c part.0) ∙ hs.1) in
    let put : set_put c 1 None part.0 ≡ Ok parts.trees = set_put_is c 1 None part.0 hs.1
    ∙ put_within (nat_le 1 (length part.0)) (each_put c part.0) parts.trees hs.0 parts.are_trees in
    record {
      tree = node (universal 17) (row parts.trees);
      is_tree = ap (λ (r : Result (List PlainTree) EncodeError). node_of (universal 17) r) put;
      tags = parts.tags;
    }

part_trees : (parts : List RelativeDistinguishedName) → list_all relative_distinguished_name.has_tree parts ≡ true
    → TreesOf relative_distinguished_name parts
part_trees [] h = no_trees relative_distinguished_name
part_trees (part ∷ parts) h =
    let hs = and_true (relative_distinguished_name.has_tree part) (list_all relative_distinguished_name.has_tree parts) h in
    more_trees relative_distinguished_name part parts (part_tree part hs.0) (part_trees parts hs.1)

pub name_as_read_tree : (n : Name) → HasTree name n → TreeOf name n
name_as_read_tree (RdnSequence parts) h =
    let hs = and_true (nat_le 0 (length parts)) (list_all relative_distinguished_name.has_tree parts) h in
    let t = list_tree relative_distinguished_name parts (part_trees parts hs.1) in
    record { tree = t.tree; is_tree = t.is_tree; tags = t.tags }
