-- Extensions by their identifiers (RFC 5280, 4.2).
use Rattle.std.specs.Prelude.{Bool, List, Option, false, find, is_some, map, nat_eq, not, ℕ, ◌&&◌, ◌||◌, [], ◌∷◌}
use Rattle.std.specs.Borrow.{Bor}
use Rattle.std.specs.Cmp.Lexicographic.{pointwise}
use Rattle.std.specs.List.{list_any}
use Rattle.asn1_core.specs.Binds.{◌>>=◌}
use Rattle.der_tree.specs.Codec.{Codec}
use Rattle.der_tree.specs.Form.{value_of}
use Rattle.pkix_cert.specs.declared.extension.Extension.{Extension}

-- arc by arc
abbrev pub same_id : List ℕ → List ℕ → Bool
same_id = pointwise nat_eq

-- it is one of these
abbrev pub is_among : List ℕ → List (List ℕ) → Bool
is_among id ids = list_any (λ other. same_id other id) ids

-- those of a table that is lent
abbrev pub ids_in : List (Bor (List ℕ)) → List (List ℕ)
ids_in ids = map (λ (id : Bor (List ℕ)). id.now) ids

-- the first one with the identifier
abbrev pub extension_at : List ℕ → List Extension → Option Extension
extension_at id es = find (λ e. same_id e.extn_id id) es

-- what it says, where it is there and can be read
unfoldable pub said : {A : Type 0} → Codec A → Option Extension → Option A
said c e = e >>= λ e. value_of c e.extn_value

-- it is there, and its contents can't be read as this type
abbrev pub is_unreadable : {A : Type 0} → Codec A → List ℕ → List Extension → Bool
is_unreadable c id es = not (is_some (said c (extension_at id es))) && is_some (extension_at id es)

-- two have one identifier
abbrev pub repeats_any : List Extension → Bool
repeats_any [] = false
repeats_any (e ∷ es) = list_any (λ other. same_id other.extn_id e.extn_id) es || repeats_any es

-- one with the identifier is critical, or isn't
abbrev pub has_critical : List ℕ → List Extension → Bool
has_critical id es = list_any (λ e. same_id e.extn_id id && e.critical) es

abbrev pub has_uncritical : List ℕ → List Extension → Bool
has_uncritical id es = list_any (λ e. same_id e.extn_id id && not e.critical) es

-- it is critical, and not among the known ones
abbrev pub is_critical_stranger : List (List ℕ) → Extension → Bool
is_critical_stranger known e = e.critical && not (is_among e.extn_id known)
