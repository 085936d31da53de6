-- What holds of requests.
use Rattle.std.specs.Prelude.{◌≡◌, ◌≢◌, ◌↔◌, ℕ, ◌+◌, ◌<◌, ◌==◌, Bool, true, false, not, List, [], ◌∷◌, length, map, take, Option, Some, None, is_some, refl}
use Rattle.std.specs.List.{list_all}
use Rattle.std.specs.List.Sorted.{IsPermutation}
use Rattle.std.specs.Option.{option_or}
use Rattle.std.proofs.Common.{sym, ap, ◌∙◌, subst, arith, get_or}
use Rattle.std.proofs.lemmas.Bool.{eqb-false, ne_eqb}
use Rattle.std.proofs.lemmas.Cmp.{nat_list_eq_equiv}
use Rattle.std.proofs.lemmas.List.{append-nil}
use Rattle.std.proofs.lemmas.List.Folds.{list_all_more}
use Rattle.std.proofs.lemmas.List.Sorted.{IsPermutation-insert, IsPermutation-push_more}
use Rattle.asn1_core.specs.Binds.{bind_some, bind_is, some_is, kept_unless, true_and}
use Rattle.asn1_core.specs.Bits.{bits}
use Rattle.der_tree.proofs.FormLaws.{value_again, value_there}
use Rattle.der_tree.proofs.SetLaws.{insert_is}
use Rattle.der_tree.specs.AnyElement.{is_one}
use Rattle.der_tree.specs.Codec.{Codec}
use Rattle.der_tree.specs.Form.{IsDerOf, value_of}
use Rattle.der_tree.specs.Grammar.{any, set_of}
use Rattle.der_tree.specs.SetOf.{inserted, is_set, octets_of_form, place_of}
use Rattle.der_tree.specs.laws.Element.{one_element_again}
use Rattle.der_tree.specs.laws.TreeElement.{element_of_encodable}
use Rattle.pkix_name.specs.Names.{attribute}
use Rattle.pkix_name.specs.declared.name.Attribute.{Attribute as AttributeValue}
use Rattle.pkix_cert.specs.Requests.{certification_request, certification_request_fields, certification_request_info}
use Rattle.pkix_cert.specs.declared.extension.Extensions.{Extensions}
use Rattle.pkix_cert.specs.declared.request.CertificationRequest.{CertificationRequest}
use Rattle.pkix_cert.specs.declared.request.CertificationRequestInfo.{CertificationRequestInfo}
use Rattle.rcgen_text.specs.Causes.{Cause, Explains, Origin, attribute_values, when}
use Rattle.rcgen_sign.specs.Keys.{Key}
use Rattle.rcgen_sign.specs.declared.sign_algo.SignatureAlgorithm.{SignatureAlgorithm}
use Rattle.rcgen_certificate.specs.ExtensionRows.{ExtensionRow, IsField, unless_empty}
use Rattle.rcgen_certificate.specs.Issue.{all_oids_valid}
use Rattle.rcgen_certificate.specs.KeyValues.{signature_identifier}
use Rattle.rcgen_certificate.specs.ParamsView.{ParamsView}
use Rattle.rcgen_certificate.specs.IssuedExtensions.{has_no_place}
use Rattle.rcgen_certificate.specs.Requests.{AreAttributes, AreValues, Given, IsExtensionRequest, IsInfo, Requests, attribute_value, first_request_cause, given_of}
use Rattle.rcgen_certificate.specs.Requests.{has_attribute_type, has_values, values_of}
use Rattle.rcgen_certificate.specs.Signed.{IsSigned, signed, signed_fields, signed_value}
use Rattle.rcgen_certificate.specs.contracts.csr.AttributePartialEq.TheImpl.{ghosts as attributes}
use Rattle.rcgen_certificate.specs.declared.csr.Attribute.{Attribute}
use Rattle.rcgen_certificate.proofs.Rows.{map_more}

abbrev pub request_of : CertificationRequestInfo → SignatureAlgorithm → List ℕ → CertificationRequest
request_of i a g = record { info = i; signature_algorithm = signature_identifier a; signature = bits 0 g }

-- what has the same view is equal
pub attributes_equal : (d e : Attribute) → given_of d ≡ given_of e → attributes.eq d e ≡ true
attributes_equal d e h =
    rw (ap (λ (c : Given). c.oid) h, ap (λ (c : Given). c.values) h, nat_list_eq_equiv.refl e.oid.items, nat_list_eq_equiv.refl e.values.items) refl

-- ---- the values of an attribute

abbrev set : Codec (List (List ℕ))
set = set_of any 0 None [] refl

to_values : (octets : List ℕ) (values : List (List ℕ)) → values_of octets ≡ Some values → AreValues octets values
unfolding values_of
to_values octets values e =
    let x = bind_some (value_of set octets) unless_empty values e in
    let k = kept_unless (length x.0 == 0) (Some x.0) values x.2 in
    let same : x.0 ≡ values = some_is x.0 values k.1 in
    let length_is : length x.0 ≢ 0 = eqb-false (length x.0) 0 k.0 in
    record {
      some = subst (λ (z : List (List ℕ)). 0 < length z) same (omega (arith, length_is));
      form = subst (λ (z : List (List ℕ)). IsDerOf set z octets) same (value_there set octets x.0 x.1);
    }

of_values : (octets : List ℕ) (values : List (List ℕ)) → AreValues octets values → values_of octets ≡ Some values
unfolding values_of
of_values octets values a =
    let some = a.some in
    bind_is (value_of set octets) unless_empty values (Some values) (value_again set octets values a.form)
    (rw (ne_eqb (length values) 0 (λ e. omega (arith, e, some))) refl)

pub values_are : (octets : List ℕ) (values : List (List ℕ)) → (values_of octets ≡ Some values) ↔ AreValues octets values
values_are octets values = (to_values octets values, of_values octets values)

-- ---- attributes

pub form_is_one : {A : Type 0} (c : Codec A) (v : A) (b : List ℕ) → IsDerOf c v b → is_one b ≡ true
form_is_one c v b f = ap is_one f.4 ∙ ap is_some (one_element_again f.1 (element_of_encodable f.0 f.1 f.3))

-- one more than before
pub inserted_is : {A : Type 0} (c : Codec A) (vs ws : List A) (v : A) → ((b : List ℕ) × IsDerOf c v b) → ws ≡ inserted c vs v
    → IsPermutation (v ∷ vs) ws
inserted_is {A} c vs ws v f e =
    subst (λ (z : List A). IsPermutation (v ∷ vs) z) (insert_is c vs v f.0 f.1 ∙ sym e)
    (IsPermutation-insert vs (place_of (octets_of_form c) f.0 vs) v)

pub given_more : (gs : List Attribute) (i : ℕ) (g : Attribute) (vs ws : List AttributeValue) (v : AttributeValue) → i < length gs → g ≡ get_or gs i g
    → IsPermutation (map attribute_value (take i gs)) vs → v ≡ attribute_value g → ((b : List ℕ) × IsDerOf attribute v b) → ws ≡ inserted attribute vs v
    → IsPermutation (map attribute_value (take (i + 1) gs)) ws
given_more gs i g vs ws v l k h e f n =
    subst (λ (z : List AttributeValue). IsPermutation z ws)
    (map_more attribute_value gs i g (map attribute_value (take i gs)) _ v l k refl e refl)
    (IsPermutation-push_more (map attribute_value (take i gs)) vs ws v h (inserted_is attribute vs ws v f n))

pub passed_more : {X : Type 0} (p : X → Bool) (xs : List X) (i : ℕ) (x : X) → i < length xs → x ≡ get_or xs i x → list_all p (take i xs) ≡ true
    → p x ≡ true → list_all p (take (i + 1) xs) ≡ true
passed_more p xs i x l k h e = list_all_more p xs i x l ∙ true_and (list_all p (take i xs)) (p (get_or xs i x)) h (ap p (sym k) ∙ e)

pub none_asked : (rows : List ExtensionRow) (gs : List Attribute) (vs : List AttributeValue) → IsField rows None
    → IsPermutation (map attribute_value gs) vs → is_set attribute vs ≡ true → AreAttributes rows gs vs
none_asked rows gs vs none each ordered = record {
  field = None;
  is_field = none;
  asked = [];
  are_asked = refl;
  each = subst (λ (z : List AttributeValue). IsPermutation z vs) (sym (append-nil (map attribute_value gs))) each;
  ordered = ordered;
}

pub one_asked : (rows : List ExtensionRow) (gs : List Attribute) (vs ws : List AttributeValue) (asked : Extensions) (a : AttributeValue)
    → IsField rows (Some asked) → IsExtensionRequest asked a → IsPermutation (map attribute_value gs) vs → ((b : List ℕ) × IsDerOf attribute a b)
    → ws ≡ inserted attribute vs a → is_set attribute ws ≡ true → AreAttributes rows gs ws
one_asked rows gs vs ws asked a some request each f n ordered = record {
  field = Some asked;
  is_field = some;
  asked = a ∷ [];
  are_asked = (a, request, refl);
  each = IsPermutation-push_more (map attribute_value gs) vs ws a each (inserted_is attribute vs ws a f n);
  ordered = ordered;
}

-- ---- causes

pub or_none : (o : Option Cause) → option_or o None ≡ o
or_none None = refl
or_none (Some c) = refl

-- the cause that is left
cause_left : (params : ParamsView) (gs : List Attribute) → has_no_place params ≡ false → all_oids_valid params ≡ true
    → list_all has_attribute_type gs ≡ true → first_request_cause params gs ≡ when (not (list_all has_values gs)) attribute_values
cause_left params gs a b c = rw (a, b, c) (or_none (when (not (list_all has_values gs)) attribute_values))

pub none_left : (params : ParamsView) (gs : List Attribute) → has_no_place params ≡ false → all_oids_valid params ≡ true
    → list_all has_attribute_type gs ≡ true → list_all has_values gs ≡ true → first_request_cause params gs ≡ None
none_left params gs a b c d = cause_left params gs a b c ∙ ap (λ (v : Bool). when (not v) attribute_values) d

pub some_left : (params : ParamsView) (gs : List Attribute) (o : Origin) → has_no_place params ≡ false → all_oids_valid params ≡ true
    → list_all has_attribute_type gs ≡ true → Explains (when (not (list_all has_values gs)) attribute_values) ⊥ o
    → Explains (first_request_cause params gs) ⊥ o
some_left params gs o a b c h = subst (λ (f : Option Cause). Explains f ⊥ o) (sym (cause_left params gs a b c)) h

pub ruleset no_cause = (none_left, some_left)

-- ---- the request

-- a request is what is signed, the algorithm and the signature
request_form : (i : CertificationRequestInfo) (a : SignatureAlgorithm) (g der : List ℕ)
    → IsDerOf (signed certification_request_info) (signed_value i (signature_identifier a) (bits 0 g)) der
    → IsDerOf certification_request (request_of i a g) der
unfolding signed_fields certification_request_fields
request_form i a g der w = w

pub requests : (p : ParamsView) (s : Key) (gs : List Attribute) (fits : List ℕ → List ℕ → Type 0) (i : CertificationRequestInfo) (der : List ℕ)
    → IsInfo p s gs i → IsSigned certification_request_info i s.algorithm fits der → Requests p s gs fits der
requests p s gs fits i der h w = (
  request_of i s.algorithm w.0,
  record {
    message = w.1.message;
    form = request_form i s.algorithm w.0 der w.1.form;
    message_form = w.1.message_form;
    info = h;
    signature_algorithm = refl;
    no_unused_bits = refl;
    signed = w.1.fit;
  },
)
