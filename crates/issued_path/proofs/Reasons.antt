-- Why a step may fail at a certificate that was issued.
use Rattle.std.specs.Prelude.{Bool, List, None, Option, Some, cond, false, length, map, nat_le, nat_lt, not, refl, true, ℕ, [], ◌++◌, ◌&&◌, ◌*◌, ◌+◌, ◌-◌, ◌==◌, ◌||◌, ◌∷◌, ◌≡◌}
use Rattle.std.specs.Prelude.{◌≤◌, ◌⊎◌}
use Rattle.std.specs.List.{list_all, list_any}
use Rattle.std.specs.Str.{bytes_eq}
use Rattle.std.proofs.Common.{ap, arith, inl, inr, subst, sym, ◌∙◌}
use Rattle.std.proofs.lemmas.Bool.{eq-eqb, eqb-true, le-leb, lt-ltb, ltb-false, ltb-true, or_left, or_parts}
use Rattle.std.proofs.lemmas.List.{nil_from_length}
use Rattle.std.proofs.lemmas.List.Folds.{sum_by-zero}
use Rattle.std.proofs.lemmas.Nat.{mul-le}
use Rattle.std.proofs.lemmas.Slice.Eq.{bytes_eq-Decides}
use Rattle.asn1_core.specs.Binds.{and_true, bind_some, kept, some_is, true_and}
use Rattle.asn1_core.specs.Written.{IsWritten}
use Rattle.jiff.specs.Types.{DateTime}
use Rattle.der_tree.specs.Codec.{Codec}
use Rattle.der_tree.specs.Form.{IsDerOf}
use Rattle.der_tree.specs.PrimitiveTypes.{bit_string, integer}
use Rattle.der_tree.proofs.FormLaws.{same_form, value_again}
use Rattle.extension_lookup.specs.Lookup.{are_distinct, ids_of, is_one_value, read_from, read_optional}
use Rattle.pkix_cert.specs.Algorithms.{algorithm_identifier, subject_public_key_info}
use Rattle.pkix_cert.specs.Certificates.{tbs_certificate}
use Rattle.pkix_cert.specs.ExtensionIds as ids
use Rattle.pkix_cert.specs.Held.{IsOfCertificate, extensions_in}
use Rattle.pkix_cert.specs.Times.{moment_of, time_parts, validity}
use Rattle.pkix_cert.specs.Versions.{v3}
use Rattle.pkix_cert.specs.Views.{CertificateParts, ExtensionParts}
use Rattle.pkix_cert.specs.declared.algorithm.AlgorithmIdentifier.{AlgorithmIdentifier}
use Rattle.pkix_cert.specs.declared.certificate.Certificate.{Certificate}
use Rattle.pkix_cert.specs.declared.certificate.TbsCertificate.{TbsCertificate}
use Rattle.pkix_cert.specs.declared.constraint.GeneralSubtree.{GeneralSubtree}
use Rattle.pkix_cert.specs.declared.time.Time.{Time}
use Rattle.pkix_cert.specs.declared.time.Time.TheVariants.{General, Utc}
use Rattle.pkix_name.specs.Names.{name}
use Rattle.pkix_name.specs.declared.general_name.GeneralName.{GeneralName}
use Rattle.pkix_name.specs.declared.name.Name.{Name}
use Rattle.pkix_trust.specs.Policies.{policy_constraints}
use Rattle.pkix_trust.specs.declared.policy.PolicyConstraints.{PolicyConstraints}
use Rattle.path_names.specs.NameForms.{is_excluded_by, is_permitted_by, is_unprocessed_by}
use Rattle.path_names.specs.NameMatching.{names_match}
use Rattle.path_policies.specs.Levels.{is_null}
use Rattle.path_revocation.specs.Lists.{Accepts, encoding_of}
use Rattle.path_revocation.specs.Times.{is_earlier}
use Rattle.path_validation.specs.Certificates.{fits_version, has_extensions, has_whole_seconds, is_version_3, is_whole, read_certificate, read_identity, read_parts}
use Rattle.path_validation.specs.Certificates.{begins_with, version_1, version_2}
use Rattle.path_validation.specs.Extensions.{is_unprocessed_critical, read_ca, read_each, read_mappings, read_named, read_names, read_policies, read_statements, read_within}
use Rattle.path_validation.specs.Extensions.{are_readable, said_by}
use Rattle.path_policies.specs.Growth.{levels_size}
use Rattle.path_validation.specs.Limits.{count_of, has_few_attributes, has_many_pairs, has_many_policies, most_extensions, most_octets, most_pairs, most_policies}
use Rattle.path_validation.specs.Limits.{policies_fit, statements_fit}
use Rattle.path_validation.specs.Names.{Sets, count_in, has_unprocessed, is_all_permitted, is_excluded, is_permitted, is_some_excluded, is_unprocessed, names_of}
use Rattle.path_validation.specs.Names.{size_in, subtrees_size, too_much}
use Rattle.path_names.specs.Sizes.{names_size}
use Rattle.path_validation.specs.Outcomes.{holds_here, reason_number}
use Rattle.path_validation.specs.States.{last_explicit_policy, lowered}
use Rattle.path_validation.specs.Statements.{require_explicit_policy}
use Rattle.path_validation.specs.Steps.{Place, algorithms_differ, breaks, has_wide_name, is_between, is_too_wide, is_issued_by_another, is_signed}
use Rattle.path_validation.specs.Steps.{users_of, with_policies_at}
use Rattle.path_validation.specs.declared.error.PathReason.{PathReason}
use Rattle.path_validation.specs.declared.error.PathReason.TheVariants as reason
use Rattle.path_validation.specs.declared.inputs.PathInputs.{PathInputs}
use Rattle.rcgen_sign.specs.Keys.{Key}
use Rattle.rcgen_certificate.specs.ExtensionRows.{ExtensionRow, IsField, row_of_extension}
use Rattle.rcgen_certificate.specs.IssuedExtensions.{extension_rows}
use Rattle.rcgen_certificate.specs.Issuers.{IssuerView}
use Rattle.rcgen_certificate.specs.KeyValues.{signature_identifier}
use Rattle.rcgen_certificate.specs.NameValues.{name_value}
use Rattle.rcgen_certificate.specs.ParamsView.{ParamsView}
use Rattle.rcgen_certificate.specs.WrittenTimes.{IsWrittenInstant}
use Rattle.issued_path.specs.Types.{PathState, ReadCertificate, ReadIdentity}
use Rattle.issued_path.proofs.Types.{ReadPolicies, ReadStatements}
use Rattle.issued_path.specs.Causes.{Cause, IsAccepted, IsWorking, asks_policy, has_many_policies as has_many_own, is_constrained, is_wide, is_wide_subject}
use Rattle.issued_path.specs.Own.{are_unreadable, is_policy_constraints, is_readable, is_unknown_critical, most_own, repeats, table_ids}
use Rattle.issued_path.proofs.Parts.{Encoded, all_are, any_are, fine_is, nothing_said, policy_is, same_distinct, same_length, stated_are, unknown_is}
use Rattle.issued_path.proofs.Reading.{is_at, is_fine, said, statements_are}
use Rattle.issued_path.proofs.Table.{all_read, any_policy, any_unknown, are_apart, are_few, few_attributes, oids, row_is_policy, row_is_unknown, row_reads}
use Rattle.issued_path.proofs.Version.{is_third}

-- ---- truth values

both : (b : Bool) → b ≡ true → not b ≡ true → ⊥
both true e f = absurd cc
both false e f = absurd cc

not_both : (b : Bool) → b ≡ false → b ≡ true → ⊥
not_both true e f = absurd cc
not_both false e f = absurd cc

or_cases : (a b : Bool) → (a || b) ≡ true → (a ≡ true) ⊎ (b ≡ true)
or_cases true b e = inl refl
or_cases false b e = inr e

not_true : (b : Bool) → not b ≡ true → b ≡ false
not_true true e = absurd cc
not_true false e = refl

not_false : (b : Bool) → not b ≡ false → b ≡ true
not_false true e = refl
not_false false e = absurd cc

same_bytes : (a b : List ℕ) → a ≡ b → bytes_eq a b ≡ true
same_bytes a b e = (bytes_eq-Decides a b).1 e

encoded_as : {A : Type 0} (c : Codec A) (v : A) (b : List ℕ) → IsDerOf c v b → encoding_of c v ≡ Some b
unfolding encoding_of
encoded_as c v b h = rw (h.2, h.3, h.4) refl

-- ---- no subtrees

abbrev are_empty : Sets → Bool
are_empty sets = list_all (λ (ts : List GeneralSubtree). length ts == 0) sets

empty_sets : (sets : Sets) → count_in sets ≡ 0 → are_empty sets ≡ true
empty_sets sets h = sym (sum_by-zero (λ (ts : List GeneralSubtree). length ts) sets) ∙ eq-eqb (count_in sets) 0 h

none_in : (ts : List GeneralSubtree) → (length ts == 0) ≡ true → ts ≡ []
none_in ts e = nil_from_length ts (eqb-true (length ts) 0 e)

no_sets_of : (f : List GeneralSubtree → Bool) (sets : Sets) → f [] ≡ false → are_empty sets ≡ true → list_any f sets ≡ false
no_sets_of f [] e h = refl
no_sets_of f (ts ∷ sets) e h =
    let p = and_true (length ts == 0) (are_empty sets) h in
    rw (ap f (none_in ts p.0) ∙ e, no_sets_of f sets e p.1) refl

no_sets : (f : List GeneralSubtree → Bool) (sets : Sets) → f [] ≡ false → count_in sets ≡ 0 → list_any f sets ≡ false
no_sets f sets e h = no_sets_of f sets e (empty_sets sets h)

all_sets_of : (f : List GeneralSubtree → Bool) (sets : Sets) → f [] ≡ true → are_empty sets ≡ true → list_all f sets ≡ true
all_sets_of f [] e h = refl
all_sets_of f (ts ∷ sets) e h =
    let p = and_true (length ts == 0) (are_empty sets) h in
    true_and (f ts) (list_all f sets) (ap f (none_in ts p.0) ∙ e) (all_sets_of f sets e p.1)

all_sets : (f : List GeneralSubtree → Bool) (sets : Sets) → f [] ≡ true → count_in sets ≡ 0 → list_all f sets ≡ true
all_sets f sets e h = all_sets_of f sets e (empty_sets sets h)

no_size : (sets : Sets) → count_in sets ≡ 0 → size_in sets ≡ 0
unfolding subtrees_size
no_size sets h =
    eqb-true (size_in sets) 0 (sum_by-zero subtrees_size sets ∙ all_sets (λ (ts : List GeneralSubtree). subtrees_size ts == 0) sets refl h)

no_name : {A : Type 0} (f : A → Bool) → ((x : A) → f x ≡ false) → (xs : List A) → list_any f xs ≡ false
no_name f k [] = refl
no_name f k (x ∷ xs) = rw (k x, no_name f k xs) refl

each_name : {A : Type 0} (f : A → Bool) → ((x : A) → f x ≡ true) → (xs : List A) → list_all f xs ≡ true
each_name f k [] = refl
each_name f k (x ∷ xs) = rw (k x, each_name f k xs) refl

no_product : (n m a b c d : ℕ) → a ≡ 0 → b ≡ 0 → c ≡ 0 → d ≡ 0 → n * (a + b) + (c + d) * m ≡ 0
no_product n m a b c d ea eb ec ed = rw (ea, eb, ec, ed) (omega arith)

module _ (permitted excluded : Sets) (p : count_in permitted ≡ 0) (e : count_in excluded ≡ 0) (names : List GeneralName) where
  nothing_compared : too_much names permitted excluded ≡ false
  unfolding too_much
  nothing_compared =
      ap (λ (n : ℕ). nat_lt most_octets n)
      (no_product (length names) (names_size names) (size_in permitted) (size_in excluded) (count_in permitted) (count_in excluded) (no_size permitted p) (no_size excluded e)
      p e)

  nothing_unprocessed : has_unprocessed names permitted excluded ≡ false
  unfolding has_unprocessed
  nothing_unprocessed =
      no_name (λ n. is_unprocessed permitted n || is_unprocessed excluded n)
      (λ n. rw (no_sets (is_unprocessed_by n) permitted refl p, no_sets (is_unprocessed_by n) excluded refl e) refl) names

  all_permitted : is_all_permitted names permitted ≡ true
  unfolding is_all_permitted
  all_permitted = each_name (is_permitted permitted) (λ n. all_sets (is_permitted_by n) permitted refl p) names

  none_excluded : is_some_excluded names excluded ≡ false
  unfolding is_some_excluded
  none_excluded = no_name (is_excluded excluded) (λ n. no_sets (is_excluded_by n) excluded refl e) names

-- what holds of names only where subtrees constrain them
constrained_by : (s : PathState) (b : Bool) → (count_in s.permitted_subtrees ≡ 0 → count_in s.excluded_subtrees ≡ 0 → b ≡ false) → b ≡ true → is_constrained s ≡ true
constrained_by s b k h =
    elim (is_constrained s) as (λ c. is_constrained s ≡ c → c ≡ true) [
      | true ↦ λ e. refl
      | false ↦ λ e.
          let p = or_parts (not (count_in s.permitted_subtrees == 0)) (not (count_in s.excluded_subtrees == 0)) e in
          absurd (not_both b (k (eqb-true _ _ (not_false (count_in s.permitted_subtrees == 0) p.0)) (eqb-true _ _ (not_false (count_in s.excluded_subtrees == 0) p.1))) h)
    ] refl

-- ---- what is signed, whatever the subject's key is

-- the subject's name
abbrev pub subject_under : ParamsView → Option Name → Name
subject_under params None = name_value params.distinguished_name
subject_under params (Some given) = given

pub record IsTable (params : ParamsView) (given : Option Name) (key : Key) (issuer : IssuerView) (t : TbsCertificate) : Type 0 where
  pub version : t.version ≡ v3
  pub signature : t.signature ≡ signature_identifier issuer.algorithm
  pub issuer_name : issuer.name ≡ Some t.issuer
  pub not_before : IsWrittenInstant params.not_before t.validity.not_before
  pub not_after : IsWrittenInstant params.not_after t.validity.not_after
  pub subject_name : t.subject ≡ subject_under params given
  pub extensions : IsField (extension_rows params key issuer) t.extensions

whole_seconds : (at : DateTime) (t : Time) → IsWritten at (time_parts t) → has_whole_seconds t ≡ true
whole_seconds at (Utc t) w = rw w.1.4 refl
whole_seconds at (General t) w = rw w.1.4 refl

subject_is_wide : (params : ParamsView) (given : Option Name) → not (has_few_attributes (subject_under params given)) ≡ is_wide_subject given
subject_is_wide params None = ap not (few_attributes params.distinguished_name)
subject_is_wide params (Some n) = refl

one_is_wide : (a b : Bool) → not (a && b) ≡ true → (not a ≡ true) ⊎ (not b ≡ true)
one_is_wide true true e = absurd cc
one_is_wide true false e = inr refl
one_is_wide false b e = inl refl

-- ---- statements on policies

optional_none : {A : Type 0} (c : Codec A) (o : Option (List ℕ)) (x : Option A) → o ≡ None → read_optional c o ≡ Some x → x ≡ None
unfolding is_one_value read_from
optional_none {A} c o x e h = sym (some_is None x (sym (ap (λ (o : Option (List ℕ)). read_optional c o) e) ∙ h))

policies_of : (qs : List ExtensionParts) (said : ReadPolicies) → said_by ids.ce_policy_constraints qs ≡ None → read_policies qs ≡ Some said → said.constraints ≡ None
unfolding read_policies
policies_of qs said none h =
    let a = bind_some (read_named qs) _ said h in
    let b = bind_some (read_mappings qs) _ said a.2 in
    let c = bind_some (read_optional policy_constraints (said_by ids.ce_policy_constraints qs)) _ said b.2 in
    let d = bind_some (read_optional integer (said_by ids.ce_inhibit_any_policy qs)) _ said c.2 in
    let same = some_is _ said d.2 in
    ap (λ (p : ReadPolicies). p.constraints) (sym same) ∙ optional_none policy_constraints (said_by ids.ce_policy_constraints qs) c.0 none c.1

statements_of : (qs : List ExtensionParts) (said : ReadStatements) → said_by ids.ce_policy_constraints qs ≡ None → read_statements qs ≡ Some said → said.policies.constraints ≡ None
unfolding read_statements read_within read_each
statements_of qs said none h =
    let within = kept (are_readable qs) (read_within qs) said h in
    let each = bind_some (read_each qs) (λ said. cond (statements_fit said) (Some said) None) said within.1 in
    let fit = kept (statements_fit each.0) (Some each.0) said each.2 in
    let a = bind_some (read_ca qs) _ each.0 each.1 in
    let b = bind_some (read_names qs) _ each.0 a.2 in
    let c = bind_some (read_policies qs) _ each.0 b.2 in
    let same = some_is _ each.0 c.2 in
    ap (λ (x : ReadStatements). x.policies.constraints) (sym (same ∙ some_is each.0 said fit.1)) ∙ policies_of qs c.0 none c.1

fit_of : (qs : List ExtensionParts) (said : ReadStatements) → read_statements qs ≡ Some said → statements_fit said ≡ true
unfolding read_statements read_within
fit_of qs said h =
    let within = kept (are_readable qs) (read_within qs) said h in
    let each = bind_some (read_each qs) (λ said. cond (statements_fit said) (Some said) None) said within.1 in
    let fit = kept (statements_fit each.0) (Some each.0) said each.2 in
    ap statements_fit (sym (some_is each.0 said fit.1)) ∙ fit.0

at_most : (said : ReadStatements) → statements_fit said ≡ true → count_of said.policies.policies + count_of said.policies.mappings ≤ most_policies
unfolding statements_fit policies_fit has_many_policies
at_most said h =
    let a = (and_true _ _ h).1 in
    let b = (and_true _ _ a).0 in
    let c = (and_true _ _ b).0 in
    let d = (and_true _ _ c).1 in
    ltb-false most_policies (count_of said.policies.policies + count_of said.policies.mappings) (not_true (nat_lt most_policies (count_of said.policies.policies + count_of said.policies.mappings)) d)

more_pairs : (u p n : ℕ) → n ≤ most_policies → nat_lt most_pairs ((u + p) * (p + n)) ≡ true → nat_lt most_pairs ((u + p) * (p + most_policies)) ≡ true
more_pairs u p n l h =
    let some = ltb-true most_pairs ((u + p) * (p + n)) h in
    let more : (u + p) * (p + n) ≤ (u + p) * (p + most_policies) = mul-le (u + p) (p + n) (u + p) (p + most_policies) (omega arith) (omega (arith, l)) in
    lt-ltb most_pairs ((u + p) * (p + most_policies)) (omega (arith, some, more))

many_pairs : (x : PathInputs) (s : PathState) (said : ReadStatements) → statements_fit said ≡ true
    → has_many_pairs x.user_initial_policy_set s.valid_policy_levels said.policies ≡ true → has_many_own x s ≡ true
unfolding has_many_pairs
many_pairs x s said fit h =
    more_pairs (count_of x.user_initial_policy_set) (levels_size s.valid_policy_levels) (count_of said.policies.policies + count_of said.policies.mappings)
    (at_most said fit) h

-- ---- a certificate that can be read

record IsRead (p : CertificateParts) (c : ReadCertificate) : Type 0 where
  identity : read_identity p ≡ Some c.identity
  statements : read_statements p.extensions ≡ Some c.statements

was_read : (p : CertificateParts) (c : ReadCertificate) → read_certificate p ≡ Some c → IsRead p c
unfolding read_certificate read_parts
was_read p c h =
    let k = kept (fits_version p) (read_parts p) c h in
    let a = bind_some (read_identity p) _ c k.1 in
    let b = bind_some (read_statements p.extensions) _ c a.2 in
    let m = kept (is_whole a.0.validity) _ c b.2 in
    let same = some_is _ c m.1 in
    record {
      identity = a.1 ∙ ap (λ (x : ReadCertificate). let o : Option ReadIdentity = Some x.identity in o) same;
      statements = b.1 ∙ ap (λ (x : ReadCertificate). let o : Option ReadStatements = Some x.statements in o) same;
    }

-- what is read of each view
abbrev pub identity_of : Certificate → ReadIdentity
identity_of c = record {
  issuer = c.tbs_certificate.issuer;
  subject = c.tbs_certificate.subject;
  key_info = c.tbs_certificate.subject_public_key_info;
  validity = c.tbs_certificate.validity;
  signature = c.signature_value;
}

identity_is : (c : Certificate) (p : CertificateParts) → IsOfCertificate c p → read_identity p ≡ Some (identity_of c)
unfolding read_identity
identity_is c p h =
    rw (
      value_again name p.issuer c.tbs_certificate.issuer h.issuer,
      value_again name p.subject c.tbs_certificate.subject h.subject,
      value_again subject_public_key_info p.key_info c.tbs_certificate.subject_public_key_info h.key_info,
      value_again validity p.validity c.tbs_certificate.validity h.validity,
      value_again bit_string p.signature c.signature_value h.signature,
    ) refl

pub read_as : (c : Certificate) (p : CertificateParts) → IsOfCertificate c p → (d : ReadCertificate) → read_certificate p ≡ Some d → d.identity ≡ identity_of c
read_as c p h d e = some_is d.identity (identity_of c) (sym (was_read p d e).identity ∙ identity_is c p h)

-- ---- the certificate

module _ (encoded : Encoded) (params : ParamsView) (given : Option Name) (key : Key) (issuer : IssuerView) (c : Certificate) (p : CertificateParts)
    (h : IsOfCertificate c p) (t : IsTable params given key issuer c.tbs_certificate) where
  abbrev rows : List ExtensionRow
  rows = extension_rows params key issuer

  stated : map row_of_extension (extensions_in c.tbs_certificate.extensions) ≡ rows
  stated = stated_are rows c.tbs_certificate.extensions t.extensions

  unknown : list_any is_unprocessed_critical p.extensions ≡ list_any is_unknown_critical params.custom_extensions
  unknown =
      any_are is_unprocessed_critical row_is_unknown (unknown_is encoded) (extensions_in c.tbs_certificate.extensions) p.extensions h.extensions
      ∙ ap (list_any row_is_unknown) stated ∙ any_unknown params key issuer

  policy : list_any (λ q. is_at q ids.ce_policy_constraints) p.extensions ≡ list_any is_policy_constraints params.custom_extensions
  policy =
      any_are (λ q. is_at q ids.ce_policy_constraints) row_is_policy (policy_is encoded) (extensions_in c.tbs_certificate.extensions) p.extensions h.extensions
      ∙ ap (list_any row_is_policy) stated ∙ any_policy params key issuer

  fine : list_all is_readable params.custom_extensions ≡ true → list_all is_fine p.extensions ≡ true
  fine e =
      all_are is_fine row_reads (fine_is encoded) (extensions_in c.tbs_certificate.extensions) p.extensions h.extensions
      ∙ ap (list_all row_reads) stated ∙ all_read params key issuer e

  apart : repeats params.custom_extensions ≡ false → are_distinct (ids_of p.extensions) ≡ true
  apart e =
      same_distinct (extensions_in c.tbs_certificate.extensions) p.extensions h.extensions
      ∙ ap (λ (rows : List ExtensionRow). are_distinct (oids rows)) stated
      ∙ are_apart params key issuer (not_false (are_distinct (table_ids ++ map (λ e. e.oid) params.custom_extensions)) e)

  few : nat_lt most_own (length params.custom_extensions) ≡ false → length p.extensions ≤ most_extensions
  few e =
      let some = ltb-false most_own (length params.custom_extensions) e in
      let most = are_few params key issuer in
      let same : length p.extensions ≡ length rows =
      same_length (extensions_in c.tbs_certificate.extensions) p.extensions h.extensions ∙ ap (λ (rows : List ExtensionRow). length rows) stated in
      omega (arith, some, most, same)

  statements : are_unreadable params.custom_extensions ≡ false → read_statements p.extensions ≡ Some (said p.extensions)
  statements e =
      let a = or_parts (not (list_all is_readable params.custom_extensions) || repeats params.custom_extensions) (nat_lt most_own (length params.custom_extensions)) e in
      let b = or_parts (not (list_all is_readable params.custom_extensions)) (repeats params.custom_extensions) a.0 in
      statements_are p.extensions (few a.1) (apart b.1) (fine (not_false (list_all is_readable params.custom_extensions) b.0))

  -- ---- what is read of it

  abbrev identity : ReadIdentity
  identity = identity_of c

  version_fits : fits_version p ≡ true
  unfolding fits_version
  version_fits =
      or_left (is_version_3 p) (not (has_extensions p.extensions) && (begins_with version_1 p || begins_with version_2 p)) (is_third c.tbs_certificate p h.tbs t.version)

  times_are_whole : is_whole c.tbs_certificate.validity ≡ true
  unfolding is_whole
  times_are_whole =
      true_and (has_whole_seconds c.tbs_certificate.validity.not_before) (has_whole_seconds c.tbs_certificate.validity.not_after)
      (whole_seconds t.not_before.0 c.tbs_certificate.validity.not_before t.not_before.2)
      (whole_seconds t.not_after.0 c.tbs_certificate.validity.not_after t.not_after.2)

  readable : are_unreadable params.custom_extensions ≡ false → read_certificate p ≡ Some (record { identity = identity; statements = said p.extensions })
  unfolding read_certificate read_parts
  readable e = rw (version_fits, identity_is c p h, statements e, times_are_whole) refl

  unread : read_certificate p ≡ None → are_unreadable params.custom_extensions ≡ true
  unread none =
      elim (are_unreadable params.custom_extensions) as (λ b. are_unreadable params.custom_extensions ≡ b → b ≡ true) [
        | true ↦ λ e. refl
        | false ↦ λ e. absurd (no_some (record { identity = identity; statements = said p.extensions }) (sym (readable e) ∙ none))
      ] refl
    where
      no_some : (x : ReadCertificate) → Some x ≡ None → ⊥
      no_some x e = cc

  -- ---- its steps, as the last of a path

  module _ (accepts : Accepts) (x : PathInputs) (passed : ℕ) (s : PathState) (message : List ℕ) (message_form : IsDerOf tbs_certificate c.tbs_certificate message)
      (algorithm : c.signature_algorithm ≡ signature_identifier issuer.algorithm) (unused : c.signature_value.unused ≡ 0)
      (accepted : IsAccepted accepts issuer message c.signature_value.bytes) (working : IsWorking issuer s) (matches : (n : Name) → names_match n n ≡ true) where
    abbrev causes : PathReason → Type 0
    causes r = Cause x passed s params given r

    issuer_is : c.tbs_certificate.issuer ≡ s.working_issuer_name
    issuer_is = some_is c.tbs_certificate.issuer s.working_issuer_name (sym t.issuer_name ∙ working.name)

    one_algorithm : algorithms_differ p ≡ false
    one_algorithm =
        let named : IsDerOf algorithm_identifier c.tbs_certificate.signature p.signature_algorithm =
        subst (λ (a : AlgorithmIdentifier). IsDerOf algorithm_identifier a p.signature_algorithm) (algorithm ∙ sym t.signature) h.signature_algorithm in
        ap not (same_bytes p.tbs_signature p.signature_algorithm
        (same_form algorithm_identifier c.tbs_certificate.signature p.tbs_signature p.signature_algorithm h.tbs_signature named))

    working_key : encoding_of subject_public_key_info s.working_public_key ≡ Some issuer.info
    working_key = encoded_as subject_public_key_info s.working_public_key issuer.info working.key

    signed : is_signed accepts p c.signature_value s ≡ true
    unfolding is_signed
    signed =
        let octets : p.tbs ≡ message = same_form tbs_certificate c.tbs_certificate p.tbs message h.tbs message_form in
        let named = accepted p.signature_algorithm (subst (λ (a : AlgorithmIdentifier). IsDerOf algorithm_identifier a p.signature_algorithm) algorithm h.signature_algorithm) in
        rw (unused, working_key, octets, named) refl

    one_issuer : is_issued_by_another identity s ≡ false
    one_issuer =
        ap (λ (b : Bool). not (has_wide_name identity) && not b) (ap (names_match c.tbs_certificate.issuer) (sym issuer_is) ∙ matches c.tbs_certificate.issuer)
        ∙ none_of (not (has_wide_name identity))
      where
        none_of : (b : Bool) → (b && false) ≡ false
        none_of true = refl
        none_of false = refl

    wide : has_wide_name identity ≡ true → (is_wide s ≡ true) ⊎ (is_wide_subject given ≡ true)
    wide e =
        elim (one_is_wide (has_few_attributes c.tbs_certificate.issuer) (has_few_attributes c.tbs_certificate.subject) e) [
          | inl k ↦ inl (ap (λ (n : Name). not (has_few_attributes n)) (sym issuer_is) ∙ k)
          | inr k ↦ inr (sym (ap (λ (n : Name). not (has_few_attributes n)) t.subject_name ∙ subject_is_wide params given) ∙ k)
        ]

    explicit : (o : Option PolicyConstraints) → o ≡ None → (n : ℕ) → (cond (lowered (require_explicit_policy o) 1 == 0) 0 (n - 1) == 0) ≡ true → nat_le n 1 ≡ true
    explicit None e n h = at_most_one n (eqb-true (n - 1) 0 h)
      where
        at_most_one : (n : ℕ) → n - 1 ≡ 0 → nat_le n 1 ≡ true
        at_most_one n e = le-leb n 1 (omega (arith, e))
    explicit (Some o) e n h = absurd cc

    module _ (d : ReadCertificate) (was : IsRead p d) where
      abbrev place : Place
      place = record { passed = passed; is_last = true; state = s; parts = p; certificate = d }

      same : d.identity ≡ identity
      same = some_is d.identity identity (sym was.identity ∙ identity_is c p h)

      wide_there : (is_wide s ≡ true) ⊎ (is_wide_subject given ≡ true) → causes reason.TooMuchWork
      wide_there (inl e) = inl e
      wide_there (inr e) = inr (inl e)

      too_wide : is_too_wide x s d ≡ true → causes reason.TooMuchWork
      too_wide k =
          elim (or_cases (has_wide_name d.identity) (has_many_pairs x.user_initial_policy_set s.valid_policy_levels d.statements.policies) k) [
            | inl e ↦ wide_there (wide (ap (λ (i : ReadIdentity). has_wide_name i) (sym same) ∙ e))
            | inr e ↦ inr (inr (inl (many_pairs x s d.statements (fit_of p.extensions d.statements was.statements) e)))
          ]

      too_much_work : breaks accepts x place reason.TooMuchWork ≡ true → causes reason.TooMuchWork
      too_much_work k =
          elim (or_cases (is_too_wide x s d) (not (is_between place) && too_much (names_of d) s.permitted_subtrees s.excluded_subtrees) k) [
            | inl e ↦ too_wide e
            | inr e ↦ inr (inr (inr (constrained_by s (too_much (names_of d) s.permitted_subtrees s.excluded_subtrees)
                (λ a b. nothing_compared s.permitted_subtrees s.excluded_subtrees a b (names_of d)) (and_true _ _ e).1)))
          ]

      no_user_policy : breaks accepts x place reason.NoUserPolicy ≡ true → causes reason.NoUserPolicy
      unfolding last_explicit_policy
      no_user_policy k =
          let e = (and_true (last_explicit_policy d s.explicit_policy == 0) (length (users_of x (with_policies_at place)) == 0) k).0 in
          elim (list_any is_policy_constraints params.custom_extensions) as (λ b. list_any is_policy_constraints params.custom_extensions ≡ b
          → (asks_policy s ≡ true) ⊎ (b ≡ true)) [
            | true ↦ λ f. inr refl
            | false ↦ λ f. inl (explicit d.statements.policies.constraints
                (statements_of p.extensions d.statements (nothing_said ids.ce_policy_constraints p.extensions (policy ∙ f)) was.statements) s.explicit_policy e)
          ] refl

      each_cause : (r : PathReason) → breaks accepts x place r ≡ true → causes r
      each_cause reason.Empty k = absurd cc
      each_cause reason.BadExtension k = absurd cc
      each_cause reason.AlgorithmsDiffer k = not_both (algorithms_differ p) one_algorithm k
      each_cause reason.BadSignature k =
          both (is_signed accepts p d.identity.signature s) (ap (λ (i : ReadIdentity). is_signed accepts p i.signature s) same ∙ signed) k
      each_cause reason.NotYetValid k =
          (c.tbs_certificate.validity.not_before, t.not_before, ap (λ (i : ReadIdentity). is_earlier x.at (moment_of i.validity.not_before)) (sym same) ∙ k)
      each_cause reason.Expired k =
          (c.tbs_certificate.validity.not_after, t.not_after, ap (λ (i : ReadIdentity). is_earlier (moment_of i.validity.not_after) x.at) (sym same) ∙ k)
      each_cause reason.Revoked k = k
      each_cause reason.Undetermined k = k
      each_cause reason.NameMismatch k =
          not_both (is_issued_by_another d.identity s) (ap (λ (i : ReadIdentity). is_issued_by_another i s) same ∙ one_issuer) k
      each_cause reason.TooMuchWork k = too_much_work k
      each_cause reason.UnprocessedNameForm k =
          constrained_by s (has_unprocessed (names_of d) s.permitted_subtrees s.excluded_subtrees)
          (λ a b. nothing_unprocessed s.permitted_subtrees s.excluded_subtrees a b (names_of d)) (and_true _ _ k).1
      each_cause reason.NotPermitted k =
          constrained_by s (not (is_all_permitted (names_of d) s.permitted_subtrees))
          (λ a b. ap not (all_permitted s.permitted_subtrees s.excluded_subtrees a b (names_of d))) (and_true _ _ k).1
      each_cause reason.Excluded k =
          constrained_by s (is_some_excluded (names_of d) s.excluded_subtrees)
          (λ a b. none_excluded s.permitted_subtrees s.excluded_subtrees a b (names_of d)) (and_true _ _ k).1
      each_cause reason.NoPolicy k =
          let none = eqb-true s.explicit_policy 0 (and_true (s.explicit_policy == 0) (is_null (with_policies_at place).valid_policy_levels) k).0 in
          rw none refl
      each_cause reason.MappedAnyPolicy k = absurd cc
      each_cause reason.NotCa k = absurd cc
      each_cause reason.PathTooLong k = absurd cc
      each_cause reason.NoCertSign k = absurd cc
      each_cause reason.UnprocessedCritical k = sym unknown ∙ k
      each_cause reason.NoUserPolicy k = no_user_policy k

    if_unread : (r : PathReason) → read_certificate p ≡ None → (reason_number r == 2) ≡ true → causes r
    if_unread reason.Empty none k = absurd cc
    if_unread reason.BadExtension none k = unread none
    if_unread reason.AlgorithmsDiffer none k = absurd cc
    if_unread reason.BadSignature none k = absurd cc
    if_unread reason.NotYetValid none k = absurd cc
    if_unread reason.Expired none k = absurd cc
    if_unread reason.Revoked none k = absurd cc
    if_unread reason.Undetermined none k = absurd cc
    if_unread reason.NameMismatch none k = absurd cc
    if_unread reason.TooMuchWork none k = absurd cc
    if_unread reason.UnprocessedNameForm none k = absurd cc
    if_unread reason.NotPermitted none k = absurd cc
    if_unread reason.Excluded none k = absurd cc
    if_unread reason.NoPolicy none k = absurd cc
    if_unread reason.MappedAnyPolicy none k = absurd cc
    if_unread reason.NotCa none k = absurd cc
    if_unread reason.PathTooLong none k = absurd cc
    if_unread reason.NoCertSign none k = absurd cc
    if_unread reason.UnprocessedCritical none k = absurd cc
    if_unread reason.NoUserPolicy none k = absurd cc

    either_way : (o : Option ReadCertificate) → read_certificate p ≡ o → (r : PathReason) → holds_here accepts x passed true s p o r ≡ true → causes r
    either_way None none r k = if_unread r none k
    either_way (Some d) some r k = each_cause d (was_read p d some) r k

    pub causes_are : (r : PathReason) → holds_here accepts x passed true s p (read_certificate p) r ≡ true → causes r
    causes_are = either_way (read_certificate p) refl
