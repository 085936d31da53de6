-- The trees of a request's attributes.
use Rattle.std.specs.Prelude.{◌≡◌, ℕ, true, false, cond, List, [], ◌∷◌, ◌++◌, length, map, None}
use Rattle.std.specs.Prelude.{Result, Ok, Err, is_ok, is_some, refl}
use Rattle.std.specs.List.{AllByRecursion, list_all}
use Rattle.std.proofs.Common.{ap, ◌∙◌}
use Rattle.asn1_core.specs.Arcs.{is_oid}
use Rattle.asn1_core.specs.Binds.{and_true}
use Rattle.der_tree.specs.AnyElement.{is_one}
use Rattle.der_tree.specs.Form.{IsDerOf}
use Rattle.der_tree.specs.Grammar.{any, set_of}
use Rattle.der_tree.specs.SequenceOf.{each_put, is_within}
use Rattle.der_tree.specs.SetOf.{element_if, has_form, is_set}
use Rattle.der_tree.specs.Tags.{universal}
use Rattle.der_tree.specs.Tree.{PlainTree, leaf, node, raw, row}
use Rattle.der_tree.specs.declared.error.EncodeError.{EncodeError}
use Rattle.der_tree.specs.declared.error.EncodeError.TheVariants.{NotOneElement}
use Rattle.der_tree.specs.laws.Results.{some_there}
use Rattle.der_tree.proofs.SetLaws.{set_has_forms}
use Rattle.pkix_name.specs.Names.{attribute, attribute_fields}
use Rattle.pkix_name.specs.declared.name.Attribute.{Attribute as AttributeValue}
use Rattle.pkix_cert.specs.Extensions.{extensions}
use Rattle.pkix_cert.specs.declared.extension.Extensions.{Extensions}
use Rattle.rcgen_certificate.specs.Requests.{IsExtensionRequest, attribute_value, given_of, has_attribute_type}
use Rattle.rcgen_certificate.specs.Requests.{has_values, id_extension_request, values_of}
use Rattle.der_tree.specs.HasTree.{HasShortTree}
use Rattle.rcgen_certificate.specs.declared.csr.Attribute.{Attribute}
use Rattle.rcgen_certificate.proofs.ListTrees.{TreesOf}
use Rattle.rcgen_certificate.proofs.RelativeNames.{contents_there}
use Rattle.rcgen_certificate.proofs.Requests.{form_is_one, values_are}
use Rattle.rcgen_certificate.proofs.SetTrees.{HasSet, more_set, set_tree}
use Rattle.der_tree.proofs.ShortTrees.{row_tags_fit}
use Rattle.rcgen_certificate.proofs.Trees.{TreeOf, form_there, short_tree}

-- ---- sets of elements as they are

formed_is_one : (v : List ℕ) → has_form any v ≡ true → is_one v ≡ true
formed_is_one v h =
    elim (is_one v) as (λ b. is_some (element_if (cond b (Ok (raw v)) (Err NotOneElement))) ≡ true → b ≡ true) [
      | true ↦ λ e. refl
      | false ↦ λ e. e
    ] h

formed_are_one : (vs : List (List ℕ)) → list_all (has_form any) vs ≡ true → list_all is_one vs ≡ true
formed_are_one [] h = refl
formed_are_one (v ∷ vs) h =
    let hs = and_true (has_form any v) (list_all (has_form any) vs) h in
    rw (formed_is_one v hs.0, formed_are_one vs hs.1) refl

puts_each : (vs : List (List ℕ)) → list_all is_one vs ≡ true → each_put any vs ≡ Ok (map raw vs)
puts_each [] h = refl
puts_each (v ∷ vs) h =
    let hs = and_true (is_one v) (list_all is_one vs) h in
    rw (hs.0, puts_each vs hs.1) refl

raws_tags : (vs : List (List ℕ)) → row_tags_fit (row (map raw vs)) ≡ true
raws_tags [] = refl
raws_tags (v ∷ vs) = raws_tags vs

raws_there : (vs : List (List ℕ)) → is_set any vs ≡ true → TreesOf any vs
raws_there vs h = record { trees = map raw vs; are_trees = puts_each vs (formed_are_one vs (set_has_forms any vs h)); tags = raws_tags vs }

-- ---- attributes

abbrev attribute_of : List ℕ → List (List ℕ) → AttributeValue
attribute_of arcs vs = record { attr_type = arcs; values = vs }

attribute_tree : (arcs : List ℕ) (vs : List (List ℕ)) → is_oid arcs ≡ true → is_set any vs ≡ true → TreeOf attribute (attribute_of arcs vs)
unfolding attribute_fields
attribute_tree arcs vs h ordered =
    let o = contents_there arcs h in
    let set = set_tree any vs ordered (raws_there vs ordered) in
    record {
      tree = node (universal 16) (row (leaf (universal 6) o.0 ∷ set.tree ∷ []));
      is_tree = rw (o.1, set.is_tree) refl;
      tags = rw set.tags refl;
    }

-- what has a tree as a set is one
has_set : (vs : List (List ℕ)) (b : List ℕ) → IsDerOf (set_of any 0 None [] refl) vs b → is_set any vs ≡ true
has_set vs b f =
    (and_true (is_within 0 None (length vs)) (is_set any vs)
    ((set_of any 0 None [] refl).has_tree_is vs ∙ ap (λ (r : Result PlainTree EncodeError). is_ok r) f.2)).1

pub given_tree : (a : Attribute) → has_attribute_type a ≡ true → has_values a ≡ true → TreeOf attribute (attribute_value a)
given_tree a t h =
    let x = some_there (values_of (given_of a).values) h in
    let f = ((values_are (given_of a).values x.0).0 x.1).form in
    rw x.1 (attribute_tree (given_of a).oid x.0 t (has_set x.0 (given_of a).values f))

-- the attributes that are given, beside others
pub given_set : (gs : List Attribute) (others : List AttributeValue) → AllByRecursion (λ a. HasShortTree attribute (attribute_value a)) gs
    → list_all has_attribute_type gs ≡ true → list_all has_values gs ≡ true → HasSet attribute others
    → HasSet attribute (map attribute_value gs ++ others)
given_set [] others short types values s = s
given_set (g ∷ gs) others short types values s =
    let ts = and_true (has_attribute_type g) (list_all has_attribute_type gs) types in
    let vs = and_true (has_values g) (list_all has_values gs) values in
    let first = short_tree attribute (attribute_value g) (given_tree g ts.0 vs.0) short.0 in
    more_set attribute (attribute_value g) (map attribute_value gs ++ others) first (given_set gs others short.1 ts.1 vs.1 s)

-- ---- the attribute that asks for extensions

one_is_set : (b : List ℕ) → is_one b ≡ true → is_set any (b ∷ []) ≡ true
unfolding is_set
one_is_set b h = rw (h, h) refl

-- what asks for the extensions
pub record HasRequest (asked : Extensions) : Type 0 where
  pub value : AttributeValue
  pub is_request : IsExtensionRequest asked value
  pub tree : TreeOf attribute value

pub request_there : (asked : Extensions) → TreeOf extensions asked → HasShortTree extensions asked → HasRequest asked
request_there asked h s =
    let f = form_there extensions asked (short_tree extensions asked h s) in
    record {
      value = attribute_of id_extension_request (f.0 ∷ []);
      is_request = record { value = f.0; form = f.1; attr_type = refl; values = refl };
      tree = attribute_tree id_extension_request (f.0 ∷ []) refl (one_is_set f.0 (form_is_one extensions asked f.0 f.1));
    }
