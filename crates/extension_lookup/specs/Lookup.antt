-- Extensions by their identifiers (RFC 5280, 4.2), as they are in the octets of a certificate.
use Rattle.std.specs.Prelude.{Bool, List, None, Option, Some, cond, false, find, is_some, map, not, true, ℕ, [], ◌&&◌, ◌||◌, ◌∷◌}
use Rattle.std.specs.List.{list_any}
use Rattle.std.specs.Str.{bytes_eq}
use Rattle.asn1_core.specs.Binds.{◌>>=◌}
use Rattle.der_tree.specs.Codec.{Codec}
use Rattle.der_tree.specs.Form.{value_of}
use Rattle.pkix_cert.specs.Views.{ExtensionParts}
use Rattle.pkix_cert.specs.declared.extension.Extension.{Extension}

abbrev pub ids_of : List ExtensionParts → List (List ℕ)
ids_of es = map (λ e. e.id) es

abbrev pub extension_ids : List Extension → List (List ℕ)
extension_ids es = map (λ e. e.extn_id) es

-- no two are the same
abbrev pub are_distinct : List (List ℕ) → Bool
are_distinct [] = true
are_distinct (id ∷ ids) = not (list_any (bytes_eq id) ids) && are_distinct ids

abbrev pub have_equal_neighbours : List (List ℕ) → Bool
have_equal_neighbours [] = false
have_equal_neighbours (a ∷ []) = false
have_equal_neighbours (a ∷ b ∷ ids) = bytes_eq b a || have_equal_neighbours (b ∷ ids)

abbrev pub has_equal_neighbours : {A : Type 0} → (A → A → Bool) → List A → Bool
has_equal_neighbours eq [] = false
has_equal_neighbours eq (a ∷ []) = false
has_equal_neighbours eq (a ∷ b ∷ rest) = eq b a || has_equal_neighbours eq (b ∷ rest)

-- the contents of the first extension with the identifier
unfoldable pub contents_at : List ℕ → List ExtensionParts → Option (List ℕ)
contents_at id es = find (λ e. bytes_eq e.id id) es >>= λ e. Some e.contents

-- what it says, where it is there and can be read
unfoldable pub read_from : {A : Type 0} → Codec A → Option (List ℕ) → Option A
read_from c contents = contents >>= value_of c

-- it can be read, where it is there
unfoldable pub is_one_value : {A : Type 0} → Codec A → Option (List ℕ) → Bool
is_one_value c None = true
is_one_value c (Some octets) = is_some (value_of c octets)

-- what is there, if anything; none where it isn't exactly one value
abbrev pub read_optional : {A : Type 0} → Codec A → Option (List ℕ) → Option (Option A)
read_optional c contents = cond (is_one_value c contents) (Some (read_from c contents)) None
