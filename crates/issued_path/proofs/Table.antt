-- The rows of the issue table, and those of an issuer's own: what path validation can read of them.
use Rattle.std.specs.Prelude.{Bool, Err, List, None, Ok, Option, Result, Some, cond, false, length, map, nat_le, nat_lt, not, refl, true, ℕ}
use Rattle.std.specs.Prelude.{[], ◌&&◌, ◌+◌, ◌++◌, ◌==◌, ◌||◌, ◌∷◌, ◌≡◌, ◌≤◌}
use Rattle.std.specs.List.{list_all, list_any}
use Rattle.std.specs.Option.{option_map, option_map_or}
use Rattle.std.specs.Str.{bytes_eq}
use Rattle.std.proofs.Common.{ap, append_assoc, arith, sym, ◌∙◌}
use Rattle.std.proofs.lemmas.Bool.{lt-ltb, ne_eqb, or_parts}
use Rattle.std.proofs.lemmas.List.Folds.{list_all-append, list_all-map, list_any-append}
use Rattle.asn1_core.specs.Binds.{and_true, bind_some, some_is, true_and}
use Rattle.asn1_core.specs.Unsigned.{unsigned_not_negative}
use Rattle.der_tree.specs.Codec.{Codec}
use Rattle.der_tree.specs.Element.{element_octets}
use Rattle.der_tree.specs.Form.{IsDerOf}
use Rattle.der_tree.specs.Grammar.{sequence_of}
use Rattle.der_tree.specs.PrimitiveTypes.{bit_string, object_identifier, octet_string}
use Rattle.der_tree.specs.Tree.{PlainTree}
use Rattle.der_tree.specs.TreeElement.{element_of}
use Rattle.der_tree.specs.declared.error.EncodeError.{EncodeError}
use Rattle.der_tree.proofs.FormLaws.{value_again}
use Rattle.extension_lookup.specs.Lookup.{are_distinct}
use Rattle.path_validation.specs.Extensions.{alternative_names}
use Rattle.path_validation.specs.Limits.{has_few_attributes, is_narrow, subtrees_fit}
use Rattle.pkix_cert.specs.Constraints.{basic_constraints, name_constraints as name_constraints_codec}
use Rattle.pkix_cert.specs.Distributions.{distribution_point}
use Rattle.pkix_cert.specs.ExtensionIds as ids
use Rattle.pkix_cert.specs.KeyIdentifiers.{authority_key_identifier}
use Rattle.pkix_cert.specs.declared.constraint.BasicConstraints.{BasicConstraints}
use Rattle.pkix_cert.specs.declared.constraint.GeneralSubtree.{GeneralSubtree}
use Rattle.pkix_cert.specs.declared.constraint.NameConstraints.{NameConstraints}
use Rattle.pkix_name.specs.declared.general_name.GeneralName.{GeneralName}
use Rattle.rcgen_sign.specs.Keys.{Key}
use Rattle.rcgen_text.specs.AlternativeNames.{AlternativeName, dns_name, ip_address, other_name, rfc822_name, uri}
use Rattle.rcgen_text.specs.Names.{Entry}
use Rattle.rcgen_text.specs.declared.basic_constraints.BasicConstraints.TheVariants.{Constrained, Unconstrained}
use Rattle.rcgen_text.specs.declared.basic_constraints.IsCa.{IsCa}
use Rattle.rcgen_text.specs.declared.basic_constraints.IsCa.TheVariants.{Ca, ExplicitNoCa, NoCa}
use Rattle.rcgen_text.specs.declared.key_usage.KeyUsagePurpose.{KeyUsagePurpose}
use Rattle.rcgen_certificate.specs.BasicConstraints.{basic_constraints_row, constraints}
use Rattle.rcgen_certificate.specs.CustomExtensions.{Custom, custom_row}
use Rattle.rcgen_certificate.specs.DistributionPoints.{crl_distribution_points, crl_distribution_points_row}
use Rattle.rcgen_certificate.specs.ExtendedKeyUsages.{Purpose, ext_key_usage, ext_key_usage_row}
use Rattle.rcgen_certificate.specs.ExtensionRows.{ExtensionRow, extension_row, form_of, form_of_tree, unless_empty}
use Rattle.rcgen_certificate.specs.IssuedExtensions.{extension_rows, subject_id}
use Rattle.rcgen_certificate.specs.Issuers.{IssuerView}
use Rattle.rcgen_certificate.specs.KeyIdentifiers.{authority_key_if, authority_key_row, subject_key_if, subject_key_row}
use Rattle.rcgen_certificate.specs.KeyUsages.{key_usage, key_usage_row}
use Rattle.rcgen_certificate.specs.NameConstraints.{Base, Bases, base_value, constraints_value, directory_base, dns_base, ip_base, name_constraints, name_constraints_row}
use Rattle.rcgen_certificate.specs.NameConstraints.{rfc822_base, subtree_value, subtrees}
use Rattle.rcgen_certificate.specs.NameValues.{name_value, relative_name}
use Rattle.rcgen_certificate.specs.ParamsView.{ParamsView}
use Rattle.rcgen_certificate.specs.SubjectAltNames.{general_name_value, subject_alt_name, subject_alt_name_row}
use Rattle.issued_path.specs.Own.{any_usage, arcs_are, can_be_read, constraints_fit, is_of_its_type, is_one, is_policy_constraints, is_readable, is_unknown}
use Rattle.issued_path.specs.Own.{is_unknown_critical, name_constraints_fit, other_names_fit, table_ids}

-- ---- tests of a row

abbrev pub reads : List ℕ → Bool → List ℕ → Bool
reads oid critical contents = can_be_read (arcs_are oid) contents && (not critical || is_of_its_type (arcs_are oid) contents)

abbrev pub row_reads : ExtensionRow → Bool
row_reads r = option_map_or (reads r.oid r.critical) r.contents true

abbrev pub row_is_unknown : ExtensionRow → Bool
row_is_unknown r = r.critical && is_unknown (arcs_are r.oid)

abbrev pub row_is_policy : ExtensionRow → Bool
row_is_policy r = arcs_are r.oid ids.ce_policy_constraints

-- ---- forms

form_is : {A : Type 0} (c : Codec A) (v : A) (b : List ℕ) (r : Result PlainTree EncodeError) → c.tree_of v ≡ r → form_of_tree r ≡ Some b → IsDerOf c v b
form_is c v b (Ok t) w e =
    let x = bind_some (element_of t) (λ s. Some (element_octets s)) b e in
    (t, x.0, w, x.1, sym (some_is (element_octets x.0) b x.2))
form_is c v b (Err e) w h = absurd cc

one_form : {A : Type 0} (c : Codec A) (test : A → Bool) (v : A) (b : List ℕ) → form_of c v ≡ Some b → test v ≡ true → is_one c test b ≡ true
unfolding is_one
one_form {A} c test v b e h = ap (λ (o : Option A). option_map_or test o false) (value_again c b v (form_is c v b (c.tree_of v) refl e)) ∙ h

contents_case : (f : List ℕ → Bool) (o : Option (List ℕ)) → ((b : List ℕ) → o ≡ Some b → f b ≡ true) → option_map_or f o true ≡ true
contents_case f None k = refl
contents_case f (Some b) k = k b refl

row_is : {A : Type 0} (oid : List ℕ) (critical : Bool) (c : Codec A) (o : Option A)
    → ((v : A) (b : List ℕ) → o ≡ Some v → form_of c v ≡ Some b → reads oid critical b ≡ true) → list_all row_reads (extension_row oid critical c o) ≡ true
row_is oid critical c None k = refl
row_is oid critical c (Some v) k = rw (contents_case (reads oid critical) (form_of c v) (λ b e. k v b refl e)) refl

no_row : {A : Type 0} (f : ExtensionRow → Bool) (oid : List ℕ) (critical : Bool) (c : Codec A) (o : Option A)
    → ((contents : Option (List ℕ)) → f (record { oid = oid; critical = critical; contents = contents }) ≡ false)
    → list_any f (extension_row oid critical c o) ≡ false
no_row f oid critical c None k = refl
no_row f oid critical c (Some v) k = rw (k (form_of c v)) refl

or_true : (b : Bool) → (not b || true) ≡ true
or_true true = refl
or_true false = refl

and_false : (b : Bool) → (b && false) ≡ false
and_false true = refl
and_false false = refl

-- ---- each kind

authority_key_reads : (asked : Bool) (id : List ℕ) → list_all row_reads (authority_key_row asked id) ≡ true
unfolding can_be_read
authority_key_reads asked id =
    row_is (ids.id_ce ids.ce_authority_key_identifier) false authority_key_identifier (authority_key_if asked id) (λ v b e f. refl)

ext_key_usage_reads : (ps : List Purpose) → list_all row_reads (ext_key_usage_row ps) ≡ true
unfolding can_be_read
ext_key_usage_reads ps =
    row_is (ids.id_ce ids.ce_ext_key_usage) false (sequence_of object_identifier 0 None refl) (ext_key_usage ps) (λ v b e f. refl)

points_read : (points : List (List (List ℕ))) → list_all row_reads (crl_distribution_points_row points) ≡ true
unfolding can_be_read
points_read points =
    row_is (ids.id_ce ids.ce_crl_distribution_points) false (sequence_of distribution_point 0 None refl) (crl_distribution_points points) (λ v b e f. refl)

subject_key_reads : (is_ca : IsCa) (id : List ℕ) → list_all row_reads (subject_key_row is_ca id) ≡ true
unfolding can_be_read
subject_key_reads is_ca id =
    row_is (ids.id_ce ids.ce_subject_key_identifier) false octet_string (subject_key_if is_ca id) (λ v b e f. refl)

-- 4.2.1.3
usage_reads : (us : List KeyUsagePurpose) → list_all row_reads (key_usage_row us) ≡ true
unfolding can_be_read is_of_its_type
usage_reads us =
    row_is (ids.id_ce ids.ce_key_usage) true bit_string (key_usage us) (λ v b e f. rw (one_form bit_string any_usage v b f refl) refl)

-- 4.2.1.6
is_no_directory : (n : AlternativeName) → is_narrow (general_name_value n) ≡ true
is_no_directory (rfc822_name text) = refl
is_no_directory (dns_name text) = refl
is_no_directory (uri text) = refl
is_no_directory (ip_address address) = refl
is_no_directory (other_name arcs text) = refl

no_directories : (ns : List AlternativeName) → list_all is_narrow (map general_name_value ns) ≡ true
no_directories [] = refl
no_directories (n ∷ ns) = true_and (is_narrow (general_name_value n)) _ (is_no_directory n) (no_directories ns)

filled : {A : Type 0} (x : A) (xs : List A) → nat_lt 0 (length (x ∷ xs)) ≡ true
filled x xs = lt-ltb 0 (length (x ∷ xs)) (omega arith)

pub not_empty : {A : Type 0} (x : A) (xs : List A) → unless_empty (x ∷ xs) ≡ Some (x ∷ xs)
not_empty {A} x xs = ap (λ (b : Bool). let o : Option (List A) = cond b None (Some (x ∷ xs)) in o) (ne_eqb (length (x ∷ xs)) 0 (λ e. omega arith))

other_names : (ns : List AlternativeName) (v : List GeneralName) → subject_alt_name ns ≡ Some v → other_names_fit v ≡ true
other_names [] v e = absurd cc
other_names (n ∷ ns) v e =
    let same : map general_name_value (n ∷ ns) ≡ v = some_is (map general_name_value (n ∷ ns)) v (sym (ap (option_map (map general_name_value)) (not_empty n ns)) ∙ e) in
    let fit : other_names_fit (map general_name_value (n ∷ ns)) ≡ true =
    true_and (nat_lt 0 (length (map general_name_value (n ∷ ns)))) (list_all is_narrow (map general_name_value (n ∷ ns)))
    (filled (general_name_value n) (map general_name_value ns)) (no_directories (n ∷ ns)) in
    ap other_names_fit (sym same) ∙ fit

other_names_read : (critical : Bool) (ns : List AlternativeName) → list_all row_reads (subject_alt_name_row critical ns) ≡ true
unfolding can_be_read is_of_its_type
other_names_read critical ns =
    row_is (ids.id_ce ids.ce_subject_alt_name) critical alternative_names (subject_alt_name ns)
    (λ v b e f. rw (one_form alternative_names other_names_fit v b f (other_names ns v e)) (or_true critical))

-- 4.2.1.10
each_alone : (es : List Entry) → list_all (λ rdn. nat_le (length rdn.0) 16) (map relative_name es) ≡ true
each_alone [] = refl
each_alone (e ∷ es) = each_alone es

pub few_attributes : (es : List Entry) → has_few_attributes (name_value es) ≡ true
unfolding has_few_attributes
few_attributes es = each_alone es

narrow_base : (b : Base) → is_narrow (base_value b) ≡ true
narrow_base (rfc822_base text) = refl
narrow_base (dns_base text) = refl
narrow_base (directory_base name) = few_attributes name
narrow_base (ip_base subnet) = refl

narrow_bases : (bs : List Base) → list_all (λ (t : GeneralSubtree). is_narrow t.base) (map subtree_value bs) ≡ true
narrow_bases [] = refl
narrow_bases (b ∷ bs) = true_and (is_narrow (base_value b)) _ (narrow_base b) (narrow_bases bs)

bases_fit : (bs : List Base) → subtrees_fit (subtrees bs) ≡ true
unfolding subtrees_fit
bases_fit [] = refl
bases_fit (b ∷ bs) =
    let ts : List GeneralSubtree = map subtree_value (b ∷ bs) in
    ap (λ (o : Option (List Base)). subtrees_fit (option_map (map subtree_value) o)) (not_empty b bs)
    ∙ true_and (nat_lt 0 (length ts)) (list_all (λ (t : GeneralSubtree). is_narrow t.base) ts) (filled (subtree_value b) (map subtree_value bs)) (narrow_bases (b ∷ bs))

value_fits : (b : Bases) → name_constraints_fit (constraints_value b) ≡ true
value_fits b = true_and (subtrees_fit (subtrees b.permitted)) (subtrees_fit (subtrees b.excluded)) (bases_fit b.permitted) (bases_fit b.excluded)

unless_none : (b : Bool) (w v : NameConstraints) → cond b None (Some w) ≡ Some v → w ≡ v
unless_none true w v e = absurd cc
unless_none false w v e = some_is w v e

constraints_are_fit : (o : Option Bases) (v : NameConstraints) → name_constraints o ≡ Some v → name_constraints_fit v ≡ true
constraints_are_fit None v e = absurd cc
constraints_are_fit (Some b) v e =
    ap name_constraints_fit (sym (unless_none (length b.permitted == 0 && length b.excluded == 0) (constraints_value b) v e)) ∙ value_fits b

name_constraints_read : (o : Option Bases) → list_all row_reads (name_constraints_row o) ≡ true
unfolding can_be_read is_of_its_type
name_constraints_read o =
    row_is (ids.id_ce ids.ce_name_constraints) true name_constraints_codec (name_constraints o)
    (λ v b e f. rw (one_form name_constraints_codec name_constraints_fit v b f (constraints_are_fit o v e)) refl)

-- 4.2.1.9
lengths_fit : (is_ca : IsCa) (v : BasicConstraints) → constraints is_ca ≡ Some v → constraints_fit v ≡ true
lengths_fit NoCa v e = absurd cc
lengths_fit ExplicitNoCa v e = ap constraints_fit (sym (some_is _ v e))
lengths_fit (Ca Unconstrained) v e = ap constraints_fit (sym (some_is _ v e))
lengths_fit (Ca (Constrained n)) v e = ap constraints_fit (sym (some_is _ v e)) ∙ ap not (unsigned_not_negative (n ∷ []))

constraints_read : (is_ca : IsCa) → list_all row_reads (basic_constraints_row is_ca) ≡ true
unfolding can_be_read is_of_its_type
constraints_read is_ca =
    row_is (ids.id_ce ids.ce_basic_constraints) true basic_constraints (constraints is_ca)
    (λ v b e f. rw (one_form basic_constraints constraints_fit v b f (lengths_fit is_ca v e)) refl)

-- ---- the whole table

abbrev own_rows : ParamsView → List ExtensionRow
own_rows params = map custom_row params.custom_extensions

own_read : (es : List Custom) → list_all is_readable es ≡ true → list_all row_reads (map custom_row es) ≡ true
unfolding is_readable
own_read es h = list_all-map row_reads custom_row es ∙ h

own_unknown : (es : List Custom) → list_any row_is_unknown (map custom_row es) ≡ list_any is_unknown_critical es
unfolding is_unknown_critical
own_unknown [] = refl
own_unknown (e ∷ es) = ap (λ (b : Bool). row_is_unknown (custom_row e) || b) (own_unknown es)

own_policy : (es : List Custom) → list_any row_is_policy (map custom_row es) ≡ list_any is_policy_constraints es
own_policy [] = refl
own_policy (e ∷ es) = ap (λ (b : Bool). row_is_policy (custom_row e) || b) (own_policy es)

module _ (params : ParamsView) (key : Key) (issuer : IssuerView) where
  abbrev rows : List ExtensionRow
  rows = extension_rows params key issuer

  pub all_read : list_all is_readable params.custom_extensions ≡ true → list_all row_reads rows ≡ true
  all_read h = simp (
    list_all-append,
    authority_key_reads params.use_authority_key_identifier_extension issuer.key_identifier,
    other_names_read (length params.distinguished_name == 0) params.subject_alt_names,
    usage_reads params.key_usages,
    ext_key_usage_reads params.extended_key_usages,
    name_constraints_read params.name_constraints,
    points_read params.crl_distribution_points,
    subject_key_reads params.is_ca (subject_id params key),
    constraints_read params.is_ca,
    own_read params.custom_extensions h,
  ) refl

  module _ (f : ExtensionRow → Bool) where
    abbrev Never : ℕ → Bool → Type 0
    Never arc critical = (contents : Option (List ℕ)) → f (record { oid = ids.id_ce arc; critical = critical; contents = contents }) ≡ false

    any_own : Never ids.ce_authority_key_identifier false → ((critical : Bool) → Never ids.ce_subject_alt_name critical) → Never ids.ce_key_usage true
        → Never ids.ce_ext_key_usage false → Never ids.ce_name_constraints true → Never ids.ce_crl_distribution_points false
        → Never ids.ce_subject_key_identifier false → Never ids.ce_basic_constraints true → list_any f rows ≡ list_any f (own_rows params)
    any_own a n u e c p s b = simp (
      list_any-append,
      no_row f (ids.id_ce ids.ce_authority_key_identifier) false authority_key_identifier (authority_key_if params.use_authority_key_identifier_extension issuer.key_identifier) a,
      no_row f (ids.id_ce ids.ce_subject_alt_name) (length params.distinguished_name == 0) alternative_names (subject_alt_name params.subject_alt_names)
          (n (length params.distinguished_name == 0)),
      no_row f (ids.id_ce ids.ce_key_usage) true bit_string (key_usage params.key_usages) u,
      no_row f (ids.id_ce ids.ce_ext_key_usage) false (sequence_of object_identifier 0 None refl) (ext_key_usage params.extended_key_usages) e,
      no_row f (ids.id_ce ids.ce_name_constraints) true name_constraints_codec (name_constraints params.name_constraints) c,
      no_row f (ids.id_ce ids.ce_crl_distribution_points) false (sequence_of distribution_point 0 None refl) (crl_distribution_points params.crl_distribution_points) p,
      no_row f (ids.id_ce ids.ce_subject_key_identifier) false octet_string (subject_key_if params.is_ca (subject_id params key)) s,
      no_row f (ids.id_ce ids.ce_basic_constraints) true basic_constraints (constraints params.is_ca) b,
    ) refl

  pub any_unknown : list_any row_is_unknown rows ≡ list_any is_unknown_critical params.custom_extensions
  unfolding is_unknown
  any_unknown =
      any_own row_is_unknown (λ o. refl) (λ critical o. and_false critical) (λ o. refl) (λ o. refl) (λ o. refl) (λ o. refl) (λ o. refl) (λ o. refl)
      ∙ own_unknown params.custom_extensions

  pub any_policy : list_any row_is_policy rows ≡ list_any is_policy_constraints params.custom_extensions
  any_policy =
      any_own row_is_policy (λ o. refl) (λ critical o. refl) (λ o. refl) (λ o. refl) (λ o. refl) (λ o. refl) (λ o. refl) (λ o. refl)
      ∙ own_policy params.custom_extensions

-- ---- identifiers

abbrev pub oids : List ExtensionRow → List (List ℕ)
oids rows = map (λ r. r.oid) rows

-- the first are among the second, in their order
record AreAmong (ms ls : List (List ℕ)) : Type 0 where
  none : (id : List ℕ) → list_any (bytes_eq id) ls ≡ false → list_any (bytes_eq id) ms ≡ false
  distinct : are_distinct ls ≡ true → are_distinct ms ≡ true

among_themselves : (ls : List (List ℕ)) → AreAmong ls ls
among_themselves ls = record { none = λ id h. h; distinct = λ h. h }

not_true : (b : Bool) → not b ≡ true → b ≡ false
not_true true e = absurd cc
not_true false e = refl

one_more : {A : Type 0} (oid : List ℕ) (critical : Bool) (c : Codec A) (o : Option A) (rows : List ExtensionRow) (ls : List (List ℕ)) → AreAmong (oids rows) ls
    → AreAmong (oids (extension_row oid critical c o ++ rows)) (oid ∷ ls)
one_more oid critical c None rows ls w = record {
  none = λ id h. w.none id (or_parts (bytes_eq id oid) (list_any (bytes_eq id) ls) h).1;
  distinct = λ h. w.distinct (and_true (not (list_any (bytes_eq oid) ls)) (are_distinct ls) h).1;
}
one_more oid critical c (Some v) rows ls w = record {
  none = λ id h.
      let p = or_parts (bytes_eq id oid) (list_any (bytes_eq id) ls) h in
      rw (p.0, w.none id p.1) refl;
  distinct = λ h.
      let p = and_true (not (list_any (bytes_eq oid) ls)) (are_distinct ls) h in
      rw (w.none oid (not_true (list_any (bytes_eq oid) ls) p.0), w.distinct p.1) refl;
}

one_longer : {A : Type 0} (oid : List ℕ) (critical : Bool) (c : Codec A) (o : Option A) (rows : List ExtensionRow) (n : ℕ) → length rows ≤ n
    → length (extension_row oid critical c o ++ rows) ≤ n + 1
one_longer oid critical c None rows n h = omega (arith, h)
one_longer oid critical c (Some v) rows n h = omega (arith, h)

to_the_right : (a b c d e f g h i : List ExtensionRow) → a ++ b ++ c ++ d ++ e ++ f ++ g ++ h ++ i ≡ a ++ (b ++ (c ++ (d ++ (e ++ (f ++ (g ++ (h ++ i)))))))
to_the_right a b c d e f g h i = simp append_assoc refl

own_oids : (es : List Custom) → oids (map custom_row es) ≡ map (λ e. e.oid) es
own_oids [] = refl
own_oids (e ∷ es) = ap (λ (l : List (List ℕ)). e.oid ∷ l) (own_oids es)

own_length : (es : List Custom) → length (map custom_row es) ≤ length es
own_length [] = omega arith
own_length (e ∷ es) = omega (arith, own_length es)

module _ (params : ParamsView) (key : Key) (issuer : IssuerView) where
  abbrev r1 : List ExtensionRow
  r1 = basic_constraints_row params.is_ca ++ own_rows params

  abbrev r2 : List ExtensionRow
  r2 = subject_key_row params.is_ca (subject_id params key) ++ r1

  abbrev r3 : List ExtensionRow
  r3 = crl_distribution_points_row params.crl_distribution_points ++ r2

  abbrev r4 : List ExtensionRow
  r4 = name_constraints_row params.name_constraints ++ r3

  abbrev r5 : List ExtensionRow
  r5 = ext_key_usage_row params.extended_key_usages ++ r4

  abbrev r6 : List ExtensionRow
  r6 = key_usage_row params.key_usages ++ r5

  abbrev r7 : List ExtensionRow
  r7 = subject_alt_name_row (length params.distinguished_name == 0) params.subject_alt_names ++ r6

  abbrev r8 : List ExtensionRow
  r8 = authority_key_row params.use_authority_key_identifier_extension issuer.key_identifier ++ r7

  rows_are : extension_rows params key issuer ≡ r8
  rows_are =
      to_the_right (authority_key_row params.use_authority_key_identifier_extension issuer.key_identifier)
      (subject_alt_name_row (length params.distinguished_name == 0) params.subject_alt_names) (key_usage_row params.key_usages)
      (ext_key_usage_row params.extended_key_usages) (name_constraints_row params.name_constraints)
      (crl_distribution_points_row params.crl_distribution_points) (subject_key_row params.is_ca (subject_id params key))
      (basic_constraints_row params.is_ca) (own_rows params)

  own_among : AreAmong (oids (own_rows params)) (map (λ e. e.oid) params.custom_extensions)
  own_among = rw (own_oids params.custom_extensions) (among_themselves (map (λ e. e.oid) params.custom_extensions))

  among : AreAmong (oids r8) (table_ids ++ map (λ e. e.oid) params.custom_extensions)
  among =
      one_more (ids.id_ce ids.ce_authority_key_identifier) false authority_key_identifier (authority_key_if params.use_authority_key_identifier_extension issuer.key_identifier) r7 _
      (one_more (ids.id_ce ids.ce_subject_alt_name) (length params.distinguished_name == 0) alternative_names (subject_alt_name params.subject_alt_names) r6 _
      (one_more (ids.id_ce ids.ce_key_usage) true bit_string (key_usage params.key_usages) r5 _
      (one_more (ids.id_ce ids.ce_ext_key_usage) false (sequence_of object_identifier 0 None refl) (ext_key_usage params.extended_key_usages) r4 _
      (one_more (ids.id_ce ids.ce_name_constraints) true name_constraints_codec (name_constraints params.name_constraints) r3 _
      (one_more (ids.id_ce ids.ce_crl_distribution_points) false (sequence_of distribution_point 0 None refl) (crl_distribution_points params.crl_distribution_points) r2 _
      (one_more (ids.id_ce ids.ce_subject_key_identifier) false octet_string (subject_key_if params.is_ca (subject_id params key)) r1 _
      (one_more (ids.id_ce ids.ce_basic_constraints) true basic_constraints (constraints params.is_ca) (own_rows params) _ own_among)))))))

  pub are_apart : are_distinct (table_ids ++ map (λ e. e.oid) params.custom_extensions) ≡ true → are_distinct (oids (extension_rows params key issuer)) ≡ true
  are_apart h = rw rows_are (among.distinct h)

  longer : length r8 ≤ length params.custom_extensions + 8
  longer =
      let n : ℕ = length params.custom_extensions in
      let own : length (own_rows params) ≤ n = own_length params.custom_extensions in
      let l1 : length r1 ≤ n + 1 = one_longer (ids.id_ce ids.ce_basic_constraints) true basic_constraints (constraints params.is_ca) (own_rows params) n own in
      let l2 : length r2 ≤ n + 1 + 1 = one_longer (ids.id_ce ids.ce_subject_key_identifier) false octet_string (subject_key_if params.is_ca (subject_id params key)) r1 (n + 1) l1 in
      let l3 : length r3 ≤ n + 1 + 1 + 1 =
      one_longer (ids.id_ce ids.ce_crl_distribution_points) false (sequence_of distribution_point 0 None refl) (crl_distribution_points params.crl_distribution_points) r2 (n + 1 + 1) l2 in
      let l4 : length r4 ≤ n + 1 + 1 + 1 + 1 =
      one_longer (ids.id_ce ids.ce_name_constraints) true name_constraints_codec (name_constraints params.name_constraints) r3 (n + 1 + 1 + 1) l3 in
      let l5 : length r5 ≤ n + 1 + 1 + 1 + 1 + 1 =
      one_longer (ids.id_ce ids.ce_ext_key_usage) false (sequence_of object_identifier 0 None refl) (ext_key_usage params.extended_key_usages) r4 (n + 1 + 1 + 1 + 1) l4 in
      let l6 : length r6 ≤ n + 1 + 1 + 1 + 1 + 1 + 1 = one_longer (ids.id_ce ids.ce_key_usage) true bit_string (key_usage params.key_usages) r5 (n + 1 + 1 + 1 + 1 + 1) l5 in
      let l7 : length r7 ≤ n + 1 + 1 + 1 + 1 + 1 + 1 + 1 =
      one_longer (ids.id_ce ids.ce_subject_alt_name) (length params.distinguished_name == 0) alternative_names (subject_alt_name params.subject_alt_names) r6 (n + 1 + 1 + 1 + 1 + 1 + 1) l6 in
      let l8 : length r8 ≤ n + 1 + 1 + 1 + 1 + 1 + 1 + 1 + 1 =
      one_longer (ids.id_ce ids.ce_authority_key_identifier) false authority_key_identifier (authority_key_if params.use_authority_key_identifier_extension issuer.key_identifier) r7
      (n + 1 + 1 + 1 + 1 + 1 + 1 + 1) l7 in
      omega (arith, l8)

  pub are_few : length (extension_rows params key issuer) ≤ length params.custom_extensions + 8
  are_few = rw rows_are longer
