-- Purposes of keys, and their identifiers (RFC 5280, 4.2.1.12).
use Rattle.std.specs.Prelude.{ℕ, Bool, cond, List, [], ◌∷◌, ◌++◌, map, nat_eq, Option, false, None, refl}
use Rattle.std.specs.Cmp.{IsEquivalence}
use Rattle.std.specs.Cmp.Lexicographic.{pointwise}
use Rattle.std.specs.List.{list_any}
use Rattle.std.specs.Option.{option_map}
use Rattle.std.specs.Ordering.{on, eq_of_both}
use Rattle.std.proofs.lemmas.Cmp.{on_equiv, and_equiv, nat_eq_equiv, nat_list_eq_equiv}
use Rattle.asn1_core.specs.Arcs.{is_oid}
use Rattle.der_tree.specs.PrimitiveTypes.{object_identifier}
use Rattle.der_tree.specs.Grammar.{sequence_of}
use Rattle.pkix_cert.specs.ExtensionIds.{ce_ext_key_usage, id_ce}
use Rattle.rcgen_certificate.specs.ExtensionRows.{unless_empty, ExtensionRow, extension_row}
use Rattle.rcgen_certificate.specs.declared.extended_key_usage.ExtendedKeyUsagePurpose.{ExtendedKeyUsagePurpose}
use Rattle.rcgen_certificate.specs.declared.extended_key_usage.ExtendedKeyUsagePurpose.TheVariants as purposes

-- a purpose: one that has a name, or one that is given by its arcs
pub data Purpose : Type 0 where
  any_purpose : Purpose
  server_auth : Purpose
  client_auth : Purpose
  code_signing : Purpose
  email_protection : Purpose
  time_stamping : Purpose
  ocsp_signing : Purpose
  other : List ℕ → Purpose

abbrev pub purpose_of : ExtendedKeyUsagePurpose → Purpose
purpose_of purposes.Any = any_purpose
purpose_of purposes.ServerAuth = server_auth
purpose_of purposes.ClientAuth = client_auth
purpose_of purposes.CodeSigning = code_signing
purpose_of purposes.EmailProtection = email_protection
purpose_of purposes.TimeStamping = time_stamping
purpose_of purposes.OcspSigning = ocsp_signing
purpose_of (purposes.Other arcs) = other arcs.items

-- the arcs of a purpose below id-kp
abbrev pub id_kp : ℕ → List ℕ
id_kp arc = 1 ∷ 3 ∷ 6 ∷ 1 ∷ 5 ∷ 5 ∷ 7 ∷ 3 ∷ arc ∷ []

abbrev pub purpose_oid : Purpose → List ℕ
purpose_oid any_purpose = 2 ∷ 5 ∷ 29 ∷ 37 ∷ 0 ∷ []
purpose_oid server_auth = id_kp 1
purpose_oid client_auth = id_kp 2
purpose_oid code_signing = id_kp 3
purpose_oid email_protection = id_kp 4
purpose_oid time_stamping = id_kp 8
purpose_oid ocsp_signing = id_kp 9
purpose_oid (other arcs) = arcs

abbrev pub arcs_of : ExtendedKeyUsagePurpose → List ℕ
arcs_of p = purpose_oid (purpose_of p)

-- its arcs are an object identifier
abbrev pub has_purpose_oid : Purpose → Bool
has_purpose_oid p = is_oid (purpose_oid p)

-- the value of the extension, which is present where there is a purpose
abbrev pub ext_key_usage : List Purpose → Option (List (List ℕ))
ext_key_usage ps = option_map (map purpose_oid) (unless_empty ps)

-- ---- equality, as Rust's `==`

-- the place of a purpose among all
abbrev pub purpose_place : Purpose → ℕ
purpose_place any_purpose = 0
purpose_place server_auth = 1
purpose_place client_auth = 2
purpose_place code_signing = 3
purpose_place email_protection = 4
purpose_place time_stamping = 5
purpose_place ocsp_signing = 6
purpose_place (other arcs) = 7

-- the arcs that are given
abbrev pub given_arcs : Purpose → List ℕ
given_arcs (other arcs) = arcs
given_arcs _ = []

abbrev pub same_purpose : Purpose → Purpose → Bool
same_purpose = eq_of_both (on purpose_place nat_eq) (on given_arcs (pointwise nat_eq))

pub same_purpose_equiv : IsEquivalence same_purpose
same_purpose_equiv = and_equiv (on_equiv purpose_place nat_eq_equiv) (on_equiv given_arcs nat_list_eq_equiv)

-- the purpose has a name
abbrev pub IsNamed : Purpose → Type 0
IsNamed (other arcs) = ⊥
IsNamed _ = Unit {0}

-- ---- lists without repeats

-- one of the purposes equals it
abbrev pub holds_purpose : List ExtendedKeyUsagePurpose → ExtendedKeyUsagePurpose → Bool
holds_purpose ps p = list_any (λ q. same_purpose (purpose_of q) (purpose_of p)) ps

-- the list, with the purpose at its end where it wasn't there
abbrev pub with_purpose : List ExtendedKeyUsagePurpose → ExtendedKeyUsagePurpose → List ExtendedKeyUsagePurpose
with_purpose ps p = cond (holds_purpose ps p) ps (ps ++ p ∷ [])

-- the extension on them
abbrev pub ext_key_usage_row : List Purpose → List ExtensionRow
ext_key_usage_row purposes = extension_row (id_ce ce_ext_key_usage) false (sequence_of object_identifier 0 None refl) (ext_key_usage purposes)
