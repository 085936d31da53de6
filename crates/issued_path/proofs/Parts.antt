-- The extensions of a certificate's view are those of its issue table.
use Rattle.std.specs.Prelude.{Bool, List, None, Option, Some, cond, false, find, length, map, not, refl, true, ℕ, [], ◌&&◌, ◌<◌, ◌||◌, ◌∷◌, ◌≡◌}
use Rattle.std.specs.Bool.{Decides}
use Rattle.std.specs.List.{list_all, list_any}
use Rattle.std.specs.Str.{bytes_eq}
use Rattle.std.proofs.Common.{ap, arith, subst, ◌∙◌}
use Rattle.std.proofs.lemmas.Bool.{or_parts}
use Rattle.std.proofs.lemmas.Bool.Decides.{Decides-like, same_from_decides}
use Rattle.std.proofs.lemmas.Slice.Eq.{bytes_eq-Decides}
use Rattle.asn1_core.specs.Binds.{some_is, ◌>>=◌}
use Rattle.der_tree.specs.Codec.{Codec}
use Rattle.der_tree.specs.Form.{IsDerOf}
use Rattle.der_tree.specs.PrimitiveTypes.{object_identifier}
use Rattle.der_tree.proofs.FormLaws.{same_form, same_value}
use Rattle.extension_lookup.specs.Lookup.{are_distinct, contents_at, ids_of}
use Rattle.path_validation.specs.Extensions.{is_one_of, is_unprocessed_critical, left_to_others, processed, said_by}
use Rattle.pkix_cert.specs.ExtensionIds as ids
use Rattle.pkix_cert.specs.Held.{AreOfExtensions, IsOfExtension, extensions_in}
use Rattle.pkix_cert.specs.Views.{ExtensionParts}
use Rattle.pkix_cert.specs.declared.extension.Extension.{Extension}
use Rattle.pkix_cert.specs.declared.extension.Extensions.{Extensions}
use Rattle.rcgen_certificate.specs.ExtensionRows.{ExtensionRow, IsField, row_of_extension}
use Rattle.issued_path.specs.Own.{arcs_are, can_be_read, is_of_its_type, is_unknown}
use Rattle.issued_path.proofs.Reading.{is_at, is_fine}
use Rattle.issued_path.proofs.Table.{not_empty, oids, row_is_policy, row_is_unknown, row_reads}

-- the forms under id-ce
abbrev pub Encoded : Type 0
Encoded = (n : ℕ) → n < 128 → IsDerOf object_identifier (ids.id_ce n) (ids.id_ce_der n)

-- forms are equal where their values are
forms_decide : {A : Type 0} (c : Codec A) (v w : A) (a b : List ℕ) → IsDerOf c v a → IsDerOf c w b → Decides (bytes_eq a b) (v ≡ w)
forms_decide {A} c v w a b h k =
    Decides-like (bytes_eq a b)
    (λ e. same_value c v w b (subst (λ (x : List ℕ). IsDerOf c v x) e h) k)
    (λ e. same_form c w a b (subst (λ (x : A). IsDerOf c x a) e h) k)
    (bytes_eq-Decides a b)

same_ids : (v w a b : List ℕ) → IsDerOf object_identifier v a → IsDerOf object_identifier w b → bytes_eq a b ≡ bytes_eq v w
same_ids v w a b h k = same_from_decides (bytes_eq a b) (bytes_eq v w) (forms_decide object_identifier v w a b h k) (bytes_eq-Decides v w)

-- ---- two ways to name an extension

module _ (is js : ℕ → Bool) (same : (arc : ℕ) → arc < 128 → is arc ≡ js arc) where
  same_reading : (contents : List ℕ) → can_be_read is contents ≡ can_be_read js contents
  unfolding can_be_read
  same_reading contents =
      rw (
        same ids.ce_key_usage (omega arith),
        same ids.ce_basic_constraints (omega arith),
        same ids.ce_subject_alt_name (omega arith),
        same ids.ce_name_constraints (omega arith),
        same ids.ce_certificate_policies (omega arith),
        same ids.ce_policy_mappings (omega arith),
        same ids.ce_policy_constraints (omega arith),
        same ids.ce_inhibit_any_policy (omega arith),
      ) refl

  same_type : (contents : List ℕ) → is_of_its_type is contents ≡ is_of_its_type js contents
  unfolding is_of_its_type
  same_type contents =
      rw (
        same ids.ce_ext_key_usage (omega arith),
        same ids.ce_crl_distribution_points (omega arith),
        same ids.ce_freshest_crl (omega arith),
        same ids.ce_issuer_alt_name (omega arith),
        same ids.ce_authority_key_identifier (omega arith),
        same ids.ce_subject_key_identifier (omega arith),
      ) refl

  same_unknown : is_unknown is ≡ is_unknown js
  unfolding is_unknown
  same_unknown =
      rw (
        same ids.ce_key_usage (omega arith),
        same ids.ce_subject_alt_name (omega arith),
        same ids.ce_basic_constraints (omega arith),
        same ids.ce_name_constraints (omega arith),
        same ids.ce_certificate_policies (omega arith),
        same ids.ce_policy_mappings (omega arith),
        same ids.ce_policy_constraints (omega arith),
        same ids.ce_inhibit_any_policy (omega arith),
        same ids.ce_ext_key_usage (omega arith),
        same ids.ce_crl_distribution_points (omega arith),
        same ids.ce_freshest_crl (omega arith),
        same ids.ce_authority_key_identifier (omega arith),
        same ids.ce_subject_key_identifier (omega arith),
        same ids.ce_issuer_alt_name (omega arith),
      ) refl

-- ---- an extension and its parts

grouped : (a b c : Bool) → (a && not b && not c) ≡ (a && (not b && not c))
grouped true b c = refl
grouped false b c = refl

unknown_at : (q : ExtensionParts) → (not (is_one_of processed q.id) && not (is_one_of left_to_others q.id)) ≡ is_unknown (is_at q)
unfolding is_one_of is_unknown
unknown_at q = refl

module _ (encoded : Encoded) (e : Extension) (q : ExtensionParts) (h : IsOfExtension e q) where
  same_arcs : (arc : ℕ) → arc < 128 → is_at q arc ≡ arcs_are e.extn_id arc
  same_arcs arc l = same_ids e.extn_id (ids.id_ce arc) q.id (ids.id_ce_der arc) h.id (encoded arc l)

  pub fine_is : is_fine q ≡ row_reads (row_of_extension e)
  fine_is =
      rw (same_reading (is_at q) (arcs_are e.extn_id) same_arcs q.contents, same_type (is_at q) (arcs_are e.extn_id) same_arcs q.contents, h.critical, h.contents)
      refl

  pub unknown_is : is_unprocessed_critical q ≡ row_is_unknown (row_of_extension e)
  unknown_is =
      grouped q.critical (is_one_of processed q.id) (is_one_of left_to_others q.id)
      ∙ ap (λ (b : Bool). b && (not (is_one_of processed q.id) && not (is_one_of left_to_others q.id))) h.critical
      ∙ ap (λ (b : Bool). e.critical && b) (unknown_at q ∙ same_unknown (is_at q) (arcs_are e.extn_id) same_arcs)

  pub policy_is : is_at q ids.ce_policy_constraints ≡ row_is_policy (row_of_extension e)
  policy_is = same_arcs ids.ce_policy_constraints (omega arith)

-- ---- all of them

module _ (g : ExtensionParts → Bool) (f : ExtensionRow → Bool) (same : (e : Extension) (q : ExtensionParts) → IsOfExtension e q → g q ≡ f (row_of_extension e)) where
  pub all_are : (es : List Extension) (qs : List ExtensionParts) → AreOfExtensions es qs → list_all g qs ≡ list_all f (map row_of_extension es)
  all_are [] [] h = refl
  all_are [] (q ∷ qs) h = absurd h
  all_are (e ∷ es) [] h = absurd h
  all_are (e ∷ es) (q ∷ qs) h =
      ap (λ (b : Bool). b && list_all g qs) (same e q h.0) ∙ ap (λ (b : Bool). f (row_of_extension e) && b) (all_are es qs h.1)

  pub any_are : (es : List Extension) (qs : List ExtensionParts) → AreOfExtensions es qs → list_any g qs ≡ list_any f (map row_of_extension es)
  any_are [] [] h = refl
  any_are [] (q ∷ qs) h = absurd h
  any_are (e ∷ es) [] h = absurd h
  any_are (e ∷ es) (q ∷ qs) h =
      ap (λ (b : Bool). b || list_any g qs) (same e q h.0) ∙ ap (λ (b : Bool). f (row_of_extension e) || b) (any_are es qs h.1)

pub same_length : (es : List Extension) (qs : List ExtensionParts) → AreOfExtensions es qs → length qs ≡ length (map row_of_extension es)
same_length [] [] h = refl
same_length [] (q ∷ qs) h = absurd h
same_length (e ∷ es) [] h = absurd h
same_length (e ∷ es) (q ∷ qs) h = omega (arith, same_length es qs h.1)

any_ids : (id octets : List ℕ) → IsDerOf object_identifier id octets → (es : List Extension) (qs : List ExtensionParts) → AreOfExtensions es qs
    → list_any (bytes_eq octets) (ids_of qs) ≡ list_any (bytes_eq id) (oids (map row_of_extension es))
any_ids id octets is [] [] h = refl
any_ids id octets is [] (q ∷ qs) h = absurd h
any_ids id octets is (e ∷ es) [] h = absurd h
any_ids id octets is (e ∷ es) (q ∷ qs) h =
    ap (λ (b : Bool). b || list_any (bytes_eq octets) (ids_of qs)) (same_ids id e.extn_id octets q.id is h.0.id)
    ∙ ap (λ (b : Bool). bytes_eq id e.extn_id || b) (any_ids id octets is es qs h.1)

pub same_distinct : (es : List Extension) (qs : List ExtensionParts) → AreOfExtensions es qs
    → are_distinct (ids_of qs) ≡ are_distinct (oids (map row_of_extension es))
same_distinct [] [] h = refl
same_distinct [] (q ∷ qs) h = absurd h
same_distinct (e ∷ es) [] h = absurd h
same_distinct (e ∷ es) (q ∷ qs) h =
    ap (λ (b : Bool). not b && are_distinct (ids_of qs)) (any_ids e.extn_id q.id h.0.id es qs h.1)
    ∙ ap (λ (b : Bool). not (list_any (bytes_eq e.extn_id) (oids (map row_of_extension es))) && b) (same_distinct es qs h.1)

-- ---- the extensions of the field are its rows

none_some : {A : Type 0} (x : A) → None ≡ Some x → ⊥
none_some x e = cc

pub stated_are : (rows : List ExtensionRow) (field : Option Extensions) → IsField rows field → map row_of_extension (extensions_in field) ≡ rows
stated_are [] None is = refl
stated_are (r ∷ rows) None is = absurd (none_some (r ∷ rows) (is ∙ not_empty r rows))
stated_are [] (Some es) is = absurd cc
stated_are (r ∷ rows) (Some es) is = some_is (map row_of_extension es.0) (r ∷ rows) (is ∙ not_empty r rows)

-- ---- one that isn't there

unsaid : (b : Bool) (q : ExtensionParts) (r : Option ExtensionParts) → b ≡ false → (r >>= λ e. Some e.contents) ≡ None → (cond b (Some q) r >>= λ e. Some e.contents) ≡ None
unsaid true q r e h = absurd cc
unsaid false q r e h = h

pub nothing_said : (arc : ℕ) (qs : List ExtensionParts) → list_any (λ q. is_at q arc) qs ≡ false → said_by arc qs ≡ None
unfolding contents_at
nothing_said arc [] h = refl
nothing_said arc (q ∷ qs) h =
    let p = or_parts (is_at q arc) (list_any (λ q. is_at q arc) qs) h in
    unsaid (is_at q arc) q (find (λ e. bytes_eq e.id (ids.id_ce_der arc)) qs) p.0 (nothing_said arc qs p.1)
