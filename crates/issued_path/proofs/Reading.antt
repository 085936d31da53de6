-- Extensions of which each can be read are read together.
use Rattle.std.specs.Prelude.{Bool, List, None, Option, Some, cond, false, find, is_some, length, nat_le, nat_lt, not, refl, true, ℕ, ◌&&◌, ◌+◌, ◌||◌, ◌≡◌, ◌≤◌, [], ◌∷◌}
use Rattle.std.specs.List.{list_all}
use Rattle.std.specs.Option.{option_map_or}
use Rattle.std.specs.Str.{bytes_eq}
use Rattle.std.proofs.Common.{ap, arith}
use Rattle.std.proofs.lemmas.Bool.{le-ltb, leb-true}
use Rattle.asn1_core.specs.Binds.{and_true, true_and, ◌>>=◌}
use Rattle.der_tree.specs.Codec.{Codec}
use Rattle.der_tree.specs.Form.{value_of}
use Rattle.der_tree.specs.PrimitiveTypes.{bit_string, integer}
use Rattle.extension_lookup.specs.Lookup.{are_distinct, contents_at, ids_of, is_one_value, read_from, read_optional}
use Rattle.path_validation.specs.Extensions.{alternative_names, are_named_once, are_readable, can_be_processed, is_of_its_type as is_of_its_own_type, mappings, policies, read_alternative_names}
use Rattle.path_validation.specs.Extensions.{read_ca, read_certificate_policies, read_constraints, read_each, read_mappings, read_named, read_names, read_policies}
use Rattle.path_validation.specs.Extensions.{read_statements, read_within, said_by, unless_named_twice}
use Rattle.path_validation.specs.Limits.{are_narrow, ca_fits, count_of, has_many_policies, is_filled, is_natural, most_extensions, most_policies, names_fit, policies_fit}
use Rattle.path_validation.specs.Limits.{statements_fit, subtrees_fit}
use Rattle.path_validation.specs.Statements.{excluded_of, inhibit_policy_mapping, path_len_constraint, permitted_of, require_explicit_policy}
use Rattle.pkix_cert.specs.Constraints.{basic_constraints, name_constraints}
use Rattle.pkix_cert.specs.ExtensionIds as ids
use Rattle.pkix_cert.specs.Views.{ExtensionParts}
use Rattle.pkix_cert.specs.declared.constraint.BasicConstraints.{BasicConstraints}
use Rattle.pkix_cert.specs.declared.constraint.NameConstraints.{NameConstraints}
use Rattle.pkix_name.specs.declared.general_name.GeneralName.{GeneralName}
use Rattle.pkix_trust.specs.Policies.{policy_constraints}
use Rattle.pkix_trust.specs.declared.policy.PolicyConstraints.{PolicyConstraints}
use Rattle.pkix_trust.specs.declared.policy.PolicyInformation.{PolicyInformation}
use Rattle.pkix_trust.specs.declared.policy.PolicyMapping.{PolicyMapping}
use Rattle.issued_path.proofs.Types.{ReadCa, ReadNames, ReadPolicies, ReadStatements}
use Rattle.issued_path.specs.Own.{any_usage, can_be_read, constraints_fit, count_fits, has, is_of_its_type, is_one, mapped_fit, most_of_each}
use Rattle.issued_path.specs.Own.{name_constraints_fit, named_fit, other_names_fit, policy_constraints_fit}

-- ---- lists and truth values

pub implied : (a b : Bool) → (not a || b) ≡ true → a ≡ true → b ≡ true
implied true b h e = h
implied false b h e = absurd cc

pub weaker : {A : Type 0} (f g : A → Bool) → ((x : A) → f x ≡ true → g x ≡ true) → (xs : List A) → list_all f xs ≡ true → list_all g xs ≡ true
weaker f g k [] h = refl
weaker f g k (x ∷ xs) h = let p = and_true (f x) (list_all f xs) h in true_and (g x) (list_all g xs) (k x p.0) (weaker f g k xs p.1)

-- ---- one extension

-- whether it has the identifier with that last arc
abbrev pub is_at : ExtensionParts → ℕ → Bool
is_at q arc = bytes_eq q.id (ids.id_ce_der arc)

abbrev pub is_fine : ExtensionParts → Bool
is_fine q = can_be_read (is_at q) q.contents && (not q.critical || is_of_its_type (is_at q) q.contents)

abbrev Fits : {A : Type 0} → Codec A → (A → Bool) → Option (List ℕ) → Type 0
Fits c test o = (is_one_value c o ≡ true) × (option_map_or test (read_from c o) true ≡ true)

one_some : {A : Type 0} (test : A → Bool) (o : Option A) → option_map_or test o false ≡ true → (is_some o ≡ true) × (option_map_or test o true ≡ true)
one_some test (Some v) h = (refl, h)
one_some test None h = absurd cc

module _ {A : Type 0} (c : Codec A) (test : A → Bool) (arc : ℕ) where
  fits_some : (contents : List ℕ) → is_one c test contents ≡ true → Fits c test (Some contents)
  unfolding is_one is_one_value read_from
  fits_some contents h = one_some test (value_of c contents) h

  fits_none : Fits c test None
  unfolding is_one_value read_from
  fits_none = (refl, refl)

  step : (b : Bool) (q : ExtensionParts) (r : Option ExtensionParts) → (b ≡ true → Fits c test (Some q.contents)) → Fits c test (r >>= λ e. Some e.contents)
      → Fits c test (cond b (Some q) r >>= λ e. Some e.contents)
  step true q r h k = h refl
  step false q r h k = k

  pub found : (es : List ExtensionParts) → list_all (λ q. has (is_at q) arc (is_one c test) q.contents) es ≡ true → Fits c test (said_by arc es)
  unfolding contents_at
  found [] h = fits_none
  found (q ∷ es) h =
      let p = and_true (has (is_at q) arc (is_one c test) q.contents) (list_all (λ q. has (is_at q) arc (is_one c test) q.contents) es) h in
      step (is_at q arc) q (find (λ e. bytes_eq e.id (ids.id_ce_der arc)) es)
      (λ e. fits_some q.contents (implied (is_at q arc) (is_one c test q.contents) p.0 e)) (found es p.1)

-- ---- all of them

module _ (es : List ExtensionParts) where
  abbrev of_ca : ReadCa
  of_ca = record {
    key_usage = read_from bit_string (said_by ids.ce_key_usage es);
    basic_constraints = read_from basic_constraints (said_by ids.ce_basic_constraints es);
  }

  abbrev of_names : ReadNames
  of_names = record {
    subject_alt_names = read_from alternative_names (said_by ids.ce_subject_alt_name es);
    name_constraints = read_from name_constraints (said_by ids.ce_name_constraints es);
  }

  abbrev of_policies : ReadPolicies
  of_policies = record {
    policies = read_from policies (said_by ids.ce_certificate_policies es);
    mappings = read_from mappings (said_by ids.ce_policy_mappings es);
    constraints = read_from policy_constraints (said_by ids.ce_policy_constraints es);
    inhibit_any_policy = read_from integer (said_by ids.ce_inhibit_any_policy es);
  }

  abbrev pub said : ReadStatements
  said = record { ca = of_ca; names = of_names; policies = of_policies }

  record EachFits : Type 0 where
    usage : Fits bit_string any_usage (said_by ids.ce_key_usage es)
    constraints : Fits basic_constraints constraints_fit (said_by ids.ce_basic_constraints es)
    names : Fits alternative_names other_names_fit (said_by ids.ce_subject_alt_name es)
    subtrees : Fits name_constraints name_constraints_fit (said_by ids.ce_name_constraints es)
    named : Fits policies named_fit (said_by ids.ce_certificate_policies es)
    mapped : Fits mappings mapped_fit (said_by ids.ce_policy_mappings es)
    policy : Fits policy_constraints policy_constraints_fit (said_by ids.ce_policy_constraints es)
    inhibit : Fits integer count_fits (said_by ids.ce_inhibit_any_policy es)

  abbrev Each : {A : Type 0} → ℕ → Codec A → (A → Bool) → Type 0
  Each arc c test = (q : ExtensionParts) → is_fine q ≡ true → has (is_at q) arc (is_one c test) q.contents ≡ true

  each : {A : Type 0} (arc : ℕ) (c : Codec A) (test : A → Bool) → Each arc c test → list_all is_fine es ≡ true → Fits c test (said_by arc es)
  each arc c test k h = found c test arc es (weaker is_fine (λ q. has (is_at q) arc (is_one c test) q.contents) k es h)

record Parts (is : ℕ → Bool) (contents : List ℕ) : Type 0 where
  usage : has is ids.ce_key_usage (is_one bit_string any_usage) contents ≡ true
  constraints : has is ids.ce_basic_constraints (is_one basic_constraints constraints_fit) contents ≡ true
  names : has is ids.ce_subject_alt_name (is_one alternative_names other_names_fit) contents ≡ true
  subtrees : has is ids.ce_name_constraints (is_one name_constraints name_constraints_fit) contents ≡ true
  named : has is ids.ce_certificate_policies (is_one policies named_fit) contents ≡ true
  mapped : has is ids.ce_policy_mappings (is_one mappings mapped_fit) contents ≡ true
  policy : has is ids.ce_policy_constraints (is_one policy_constraints policy_constraints_fit) contents ≡ true
  inhibit : has is ids.ce_inhibit_any_policy (is_one integer count_fits) contents ≡ true

taken_apart : (is : ℕ → Bool) (contents : List ℕ) → can_be_read is contents ≡ true → Parts is contents
unfolding can_be_read
taken_apart is contents h =
    let a = and_true _ _ h in
    let b = and_true _ _ a.1 in
    let c = and_true _ _ b.1 in
    let d = and_true _ _ c.1 in
    let e = and_true _ _ d.1 in
    let f = and_true _ _ e.1 in
    let g = and_true _ _ f.1 in
    record { usage = a.0; constraints = b.0; names = c.0; subtrees = d.0; named = e.0; mapped = f.0; policy = g.0; inhibit = g.1 }

parts_of : (q : ExtensionParts) → is_fine q ≡ true → Parts (is_at q) q.contents
parts_of q h = taken_apart (is_at q) q.contents (and_true (can_be_read (is_at q) q.contents) (not q.critical || is_of_its_type (is_at q) q.contents) h).0

all_fit : (es : List ExtensionParts) → list_all is_fine es ≡ true → EachFits es
all_fit es h = record {
  usage = each es ids.ce_key_usage bit_string any_usage (λ q k. (parts_of q k).usage) h;
  constraints = each es ids.ce_basic_constraints basic_constraints constraints_fit (λ q k. (parts_of q k).constraints) h;
  names = each es ids.ce_subject_alt_name alternative_names other_names_fit (λ q k. (parts_of q k).names) h;
  subtrees = each es ids.ce_name_constraints name_constraints name_constraints_fit (λ q k. (parts_of q k).subtrees) h;
  named = each es ids.ce_certificate_policies policies named_fit (λ q k. (parts_of q k).named) h;
  mapped = each es ids.ce_policy_mappings mappings mapped_fit (λ q k. (parts_of q k).mapped) h;
  policy = each es ids.ce_policy_constraints policy_constraints policy_constraints_fit (λ q k. (parts_of q k).policy) h;
  inhibit = each es ids.ce_inhibit_any_policy integer count_fits (λ q k. (parts_of q k).inhibit) h;
}

-- ---- what is read

once : (ps : List PolicyInformation) → named_fit ps ≡ true → unless_named_twice (Some ps) ≡ Some (Some ps)
once ps h =
    let p = and_true (nat_lt 0 (length ps) && nat_le (length ps) most_of_each) (are_named_once ps) h in
    ap (λ (b : Bool). let o : Option (Option (List PolicyInformation)) = cond b (Some (Some ps)) None in o) p.1

named_is : (o : Option (List PolicyInformation)) → option_map_or named_fit o true ≡ true → unless_named_twice o ≡ Some o
named_is None h = refl
named_is (Some ps) h = once ps h

optional_is : {A : Type 0} (c : Codec A) (o : Option (List ℕ)) → is_one_value c o ≡ true → read_optional c o ≡ Some (read_from c o)
optional_is c o h = rw h refl

module _ (es : List ExtensionParts) (f : EachFits es) where
  ca_is : read_ca es ≡ Some (of_ca es)
  unfolding read_ca
  ca_is = rw (f.usage.0, f.constraints.0) refl

  names_are : read_names es ≡ Some (of_names es)
  unfolding read_names read_alternative_names read_constraints
  names_are = rw (f.names.0, f.subtrees.0) refl

  named_are : read_named es ≡ Some (read_from policies (said_by ids.ce_certificate_policies es))
  unfolding read_named read_certificate_policies
  named_are = rw f.named.0 (named_is (read_from policies (said_by ids.ce_certificate_policies es)) f.named.1)

  policies_are : read_policies es ≡ Some (of_policies es)
  unfolding read_policies read_mappings
  policies_are = rw (named_are, f.mapped.0, f.policy.0, f.inhibit.0) refl

  each_is : read_each es ≡ Some (said es)
  unfolding read_each
  each_is = rw (ca_is, names_are, policies_are) refl

-- ---- their sizes

natural_length : (o : Option BasicConstraints) → option_map_or constraints_fit o true ≡ true → is_natural (path_len_constraint o) ≡ true
natural_length None h = refl
natural_length (Some b) h = h

names_are_filled : (o : Option (List GeneralName)) → option_map_or other_names_fit o true ≡ true → (is_filled o ≡ true) × (are_narrow o ≡ true)
names_are_filled None h = (refl, refl)
names_are_filled (Some ns) h = and_true _ _ h

subtrees_are_fit : (o : Option NameConstraints) → option_map_or name_constraints_fit o true ≡ true
    → (subtrees_fit (permitted_of o) ≡ true) × (subtrees_fit (excluded_of o) ≡ true)
unfolding subtrees_fit
subtrees_are_fit None h = (refl, refl)
subtrees_are_fit (Some c) h = and_true _ _ h

named_are_filled : (o : Option (List PolicyInformation)) → option_map_or named_fit o true ≡ true → (is_filled o ≡ true) × (count_of o ≤ most_of_each)
named_are_filled None h = (refl, omega arith)
named_are_filled (Some ps) h = let p = and_true _ _ (and_true _ _ h).0 in (p.0, leb-true (length ps) most_of_each p.1)

mapped_are_filled : (o : Option (List PolicyMapping)) → option_map_or mapped_fit o true ≡ true → (is_filled o ≡ true) × (count_of o ≤ most_of_each)
mapped_are_filled None h = (refl, omega arith)
mapped_are_filled (Some ms) h = let p = and_true _ _ h in (p.0, leb-true (length ms) most_of_each p.1)

natural_policies : (o : Option PolicyConstraints) → option_map_or policy_constraints_fit o true ≡ true
    → (is_natural (require_explicit_policy o) ≡ true) × (is_natural (inhibit_policy_mapping o) ≡ true)
natural_policies None h = (refl, refl)
natural_policies (Some c) h = and_true _ _ h

natural_count : (o : Option (List ℕ)) → option_map_or count_fits o true ≡ true → is_natural o ≡ true
natural_count None h = refl
natural_count (Some octets) h = h

few : (a b : ℕ) → a ≤ most_of_each → b ≤ most_of_each → not (nat_lt most_policies (a + b)) ≡ true
few a b h k = ap not (le-ltb most_policies (a + b) (omega arith))

all_sizes : (es : List ExtensionParts) → EachFits es → statements_fit (said es) ≡ true
unfolding statements_fit ca_fits names_fit policies_fit has_many_policies
all_sizes es f =
    let names = names_are_filled (of_names es).subject_alt_names f.names.1 in
    let subtrees = subtrees_are_fit (of_names es).name_constraints f.subtrees.1 in
    let named = named_are_filled (of_policies es).policies f.named.1 in
    let mapped = mapped_are_filled (of_policies es).mappings f.mapped.1 in
    let policy = natural_policies (of_policies es).constraints f.policy.1 in
    rw (
      natural_length (of_ca es).basic_constraints f.constraints.1,
      names.0,
      names.1,
      subtrees.0,
      subtrees.1,
      named.0,
      mapped.0,
      few (count_of (of_policies es).policies) (count_of (of_policies es).mappings) named.1 mapped.1,
      policy.0,
      policy.1,
      natural_count (of_policies es).inhibit_any_policy f.inhibit.1,
    ) refl

-- ---- all together

processed_is : (q : ExtensionParts) → is_fine q ≡ true → can_be_processed q ≡ true
unfolding is_of_its_own_type is_of_its_type
processed_is q h = (and_true (can_be_read (is_at q) q.contents) (not q.critical || is_of_its_type (is_at q) q.contents) h).1

readable : (es : List ExtensionParts) → length es ≤ most_extensions → are_distinct (ids_of es) ≡ true → list_all is_fine es ≡ true → are_readable es ≡ true
unfolding are_readable
readable es l d h = rw (le-ltb most_extensions (length es) l, d, weaker is_fine can_be_processed processed_is es h) refl

pub statements_are : (es : List ExtensionParts) → length es ≤ most_extensions → are_distinct (ids_of es) ≡ true → list_all is_fine es ≡ true
    → read_statements es ≡ Some (said es)
unfolding read_statements read_within
statements_are es l d h =
    let f = all_fit es h in
    rw (readable es l d h, each_is es f, all_sizes es f) refl
