-- The table of requests can be met.
use Rattle.std.specs.Prelude.{◌==◌, ◌≡◌, ℕ, true, List, [], ◌∷◌, length, Option, Some, None, Result, refl}
use Rattle.std.specs.List.{list_all}
use Rattle.std.specs.Option.{IfSome}
use Rattle.std.proofs.Common.{ap, subst}
use Rattle.rcgen_certificate.specs.SubjectAltNames.{is_ascii_name}
use Rattle.asn1_core.specs.Bits.{bit_string_contents}
use Rattle.asn1_core.specs.Unsigned.{unsigned_64_contents}
use Rattle.asn1_core.specs.Twos.{integer_contents}
use Rattle.der_tree.specs.Codec.{Codec}
use Rattle.der_tree.specs.Grammar.{implicitly, set_of}
use Rattle.der_tree.specs.Results.{done, ok_then}
use Rattle.der_tree.specs.SetOf.{is_set}
use Rattle.der_tree.specs.Tags.{context, universal}
use Rattle.der_tree.specs.Tree.{PlainTree, leaf, node, retagged, row}
use Rattle.der_tree.specs.declared.error.EncodeError.{EncodeError}
use Rattle.pkix_name.specs.Names.{attribute, name}
use Rattle.pkix_name.specs.declared.name.Attribute.{Attribute as AttributeValue}
use Rattle.pkix_cert.specs.Extensions.{extensions}
use Rattle.pkix_cert.specs.Requests.{certification_request, certification_request_fields, certification_request_info}
use Rattle.pkix_cert.specs.Requests.{certification_request_info_fields}
use Rattle.pkix_cert.specs.Versions.{v1}
use Rattle.pkix_cert.specs.declared.extension.Extensions.{Extensions}
use Rattle.pkix_cert.specs.declared.request.CertificationRequestInfo.{CertificationRequestInfo}
use Rattle.rcgen_sign.specs.Keys.{Key}
use Rattle.rcgen_sign.specs.declared.sign_algo.SignatureAlgorithm.{SignatureAlgorithm}
use Rattle.rcgen_sign.proofs.AlgorithmLemmas.{no_unused}
use Rattle.rcgen_certificate.specs.ExtensionRows.{ExtensionRow, IsField}
use Rattle.rcgen_certificate.specs.KeyValues.{key_value}
use Rattle.rcgen_certificate.specs.NameValues.{name_value}
use Rattle.rcgen_certificate.specs.ParamsView.{ParamsView}
use Rattle.rcgen_certificate.specs.Requests.{AreAsked, AreAttributes, RequestFitsIn64Bits, IsShortExtensionRequest, RequestExists}
use Rattle.rcgen_certificate.specs.Requests.{request_rows}
use Rattle.rcgen_certificate.specs.declared.csr.Attribute.{Attribute}
use Rattle.rcgen_certificate.proofs.AttributeTrees.{given_set, request_there}
use Rattle.rcgen_certificate.proofs.KindTrees.{basic_constraints_there, ext_key_usage_there, key_usage_there, subject_alt_name_there}
use Rattle.rcgen_certificate.proofs.ListTrees.{TreesOf}
use Rattle.rcgen_certificate.proofs.NoCause.{HasNoRequestCause}
use Rattle.rcgen_certificate.proofs.RelativeNames.{name_tree}
use Rattle.rcgen_certificate.proofs.Requests.{request_of}
use Rattle.rcgen_certificate.proofs.RowTrees.{HasField, HasRows, customs_there, field_there, rows_then}
use Rattle.rcgen_certificate.proofs.SetTrees.{HasSet, more_set, no_set, set_tree_is}
use Rattle.rcgen_certificate.proofs.TableTrees.{key_value_tree, signature_identifier_tree}
use Rattle.rcgen_certificate.proofs.Trees.{HasWhole, TreeOf, short_tree, whole_there}

-- ---- the attributes

-- what asks for the extensions
record HasAsked (field : Option Extensions) : Type 0 where
  pub asked : List AttributeValue
  pub are_asked : AreAsked field asked
  pub set : HasSet attribute asked

asked_there : (field : Option Extensions) → IfSome field (TreeOf extensions) → ((x : Extensions) → field ≡ Some x → IsShortExtensionRequest x)
    → HasAsked field
asked_there None h s = record { asked = []; are_asked = refl; set = no_set attribute }
asked_there (Some x) h s =
    let short = s x refl in
    let a = request_there x h short.value in
    record {
      asked = a.value ∷ [];
      are_asked = (a.value, a.is_request, refl);
      set = more_set attribute a.value [] (short_tree attribute a.value a.tree (short.request a.value a.is_request)) (no_set attribute);
    }

-- the attributes, and their trees
record HasAttributes (rows : List ExtensionRow) (given : List Attribute) : Type 0 where
  pub attributes : List AttributeValue
  pub are_attributes : AreAttributes rows given attributes
  pub trees : TreesOf attribute attributes

attributes_there : (p : ParamsView) (gs : List Attribute) → HasField (request_rows p) → HasNoRequestCause p gs → RequestFitsIn64Bits p gs
    → HasAttributes (request_rows p) gs
attributes_there p gs x none short =
    let a = asked_there x.field x.tree (λ y e. short.asked y (subst (IsField (request_rows p)) e x.is_field)) in
    let s = given_set gs a.asked short.attributes none.attribute_types none.values a.set in
    record {
      attributes = s.set;
      are_attributes = record {
        field = x.field;
        is_field = x.is_field;
        asked = a.asked;
        are_asked = a.are_asked;
        each = s.each;
        ordered = s.ordered;
      };
      trees = s.trees;
    }

rows_there : (p : ParamsView) (gs : List Attribute) → HasNoRequestCause p gs → list_all is_ascii_name p.subject_alt_names ≡ true
    → RequestFitsIn64Bits p gs → HasRows (request_rows p)
rows_there p gs none ascii short =
    let alternative_names = subject_alt_name_there (length p.distinguished_name == 0) p.subject_alt_names none.name_types ascii short.other_names
    short.alternative_names in
    let purposes = ext_key_usage_there p.extended_key_usages none.purposes short.purposes in
    let given = customs_there p.custom_extensions none.given in
    let front = rows_then (rows_then (rows_then (key_usage_there p.key_usages) alternative_names) purposes) (basic_constraints_there p.is_ca) in
    rows_then front given

-- ---- the request

-- the attributes, as their field
abbrev attributes_field : Codec (List AttributeValue)
attributes_field = implicitly (context 0) (set_of attribute 0 None [] refl) refl

field_tree : (vs : List AttributeValue) → is_set attribute vs ≡ true → TreesOf attribute vs → TreeOf attributes_field vs
field_tree vs ordered h = record {
  tree = node (context 0) (row h.trees);
  is_tree = ap (λ (r : Result PlainTree EncodeError). ok_then r (λ t. done (retagged (context 0) t)))
      (set_tree_is attribute vs h.trees ordered h.are_trees);
  tags = h.tags;
}

abbrev info_value : ParamsView → Key → List AttributeValue → CertificationRequestInfo
info_value p s attributes = record {
  version = v1;
  subject = name_value p.distinguished_name;
  subject_public_key_info = key_value s.algorithm s.octets;
  attributes = attributes;
}

info_tree : (p : ParamsView) (s : Key) (vs : List AttributeValue) → TreeOf name (name_value p.distinguished_name)
    → TreeOf attributes_field vs → TreeOf certification_request_info (info_value p s vs)
unfolding certification_request_info_fields integer_contents unsigned_64_contents
info_tree p s vs subject attributes =
    let key = key_value_tree s.algorithm s.octets in
    record {
      tree = node (universal 16)
          (row (leaf (universal 2) (0 ∷ []) ∷ subject.tree ∷ key.tree ∷ attributes.tree ∷ []));
      is_tree = rw (subject.is_tree, key.is_tree, attributes.is_tree) refl;
      tags = rw (subject.tags, key.tags, attributes.tags) refl;
    }

signed_request_there : (i : CertificationRequestInfo) (a : SignatureAlgorithm) (g : List ℕ) → TreeOf certification_request_info i
    → HasWhole certification_request (request_of i a g) certification_request_info i
unfolding certification_request_fields bit_string_contents
signed_request_there i a g h =
    let algorithm = signature_identifier_tree a in
    whole_there certification_request (request_of i a g) certification_request_info i h (algorithm.tree ∷ leaf (universal 3) (0 ∷ g) ∷ [])
    (rw (h.is_tree, algorithm.is_tree, no_unused g) refl) (rw algorithm.tags refl)

pub request_met : (params : ParamsView) (attrs : List Attribute) → list_all is_ascii_name params.subject_alt_names ≡ true
    → HasNoRequestCause params attrs → RequestExists params attrs
request_met params attrs ascii none short subject signature =
    let x = field_there (request_rows params) (rows_there params attrs none ascii short) in
    let all = attributes_there params attrs x none short in
    let field = field_tree all.attributes all.are_attributes.ordered all.trees in
    let info = info_value params subject all.attributes in
    let front = info_tree params subject all.attributes (name_tree params.distinguished_name none.subject_types short.subject_name) field in
    let whole = signed_request_there info subject.algorithm signature front in (
      request_of info subject.algorithm signature,
      record {
        info = record { version = refl; subject_name = refl; subject_key = refl; attributes = all.are_attributes };
        signature_algorithm = refl;
        signature_value = refl;
        has_tree = whole.has_tree;
      },
      whole.forms,
    )
