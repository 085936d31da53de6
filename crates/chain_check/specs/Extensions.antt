-- The extensions of a certificate that decide about a path (RFC 5280, 4.2).
use Rattle.std.specs.Prelude.{Bool, List, Option, Some, MatchOption, IsSome, find, map, nat_eq, not, ℕ, [], ◌&&◌, ◌∷◌}
use Rattle.std.specs.Cmp.Lexicographic.{pointwise}
use Rattle.std.specs.List.{IsDistinct, list_any}
use Rattle.asn1_core.specs.Binds.{◌>>=◌}
use Rattle.asn1_core.specs.Bits.{Bits}
use Rattle.der_tree.specs.Codec.{Codec}
use Rattle.der_tree.specs.Form.{value_of}
use Rattle.der_tree.specs.PrimitiveTypes.{bit_string}
use Rattle.pkix_cert.specs.Constraints.{basic_constraints}
use Rattle.pkix_cert.specs.ExtensionIds.{ce_basic_constraints, ce_ext_key_usage, ce_key_usage, ce_subject_alt_name, id_ce}
use Rattle.pkix_cert.specs.Held.{extensions_in}
use Rattle.pkix_cert.specs.declared.certificate.Certificate.{Certificate}
use Rattle.pkix_cert.specs.declared.constraint.BasicConstraints.{BasicConstraints}
use Rattle.pkix_cert.specs.declared.extension.Extension.{Extension}

-- arc by arc
abbrev pub same_id : List ℕ → List ℕ → Bool
same_id = pointwise nat_eq

abbrev pub extensions_of : Certificate → List Extension
extensions_of c = extensions_in c.tbs_certificate.extensions

-- the contents of the first extension with the identifier
abbrev pub contents_with : List ℕ → List Extension → Option (List ℕ)
contents_with id es = find (λ e. same_id e.extn_id id) es >>= λ e. Some e.extn_value

-- the value whose form those contents are
abbrev pub stated : {A : Type 0} → Codec A → List ℕ → List Extension → Option A
stated c id es = contents_with id es >>= value_of c

-- the contents are exactly one value, where there is such an extension
abbrev pub IsOneValue : {A : Type 0} → Codec A → Option (List ℕ) → Type 0
IsOneValue c contents = MatchOption contents (Unit {0}) (λ octets. IsSome (value_of c octets))

-- no two have one identifier (RFC 5280, 4.2), and what key usage and basic constraints say can be read
pub record AreReadable (es : List Extension) : Type 0 where
  pub distinct : IsDistinct same_id (map (λ e. e.extn_id) es)
  pub key_usage : IsOneValue bit_string (contents_with (id_ce ce_key_usage) es)
  pub basic_constraints : IsOneValue basic_constraints (contents_with (id_ce ce_basic_constraints) es)

-- those that are processed, or that bind only who uses the leaf's key
abbrev pub is_handled : List ℕ → Bool
is_handled id = list_any (λ handled. same_id id handled) (id_ce ce_key_usage ∷ id_ce ce_subject_alt_name ∷ id_ce ce_basic_constraints ∷ id_ce ce_ext_key_usage ∷ [])

abbrev pub is_unhandled : Extension → Bool
is_unhandled e = e.critical && not (is_handled e.extn_id)

-- what the key is for, where it is said (RFC 5280, 4.2.1.3)
abbrev pub key_usage_of : Certificate → Option Bits
key_usage_of c = stated bit_string (id_ce ce_key_usage) (extensions_of c)

-- whether the subject issues certificates, and how long a path below it may be, where it is said (RFC 5280, 4.2.1.9)
abbrev pub basic_constraints_of : Certificate → Option BasicConstraints
basic_constraints_of c = stated basic_constraints (id_ce ce_basic_constraints) (extensions_of c)
