-- What extensions say (RFC 5280, 4.2, 5.2 and 5.3).
use Rattle.std.specs.Prelude.{Bool, List, None, Option, Some, find, is_some, map, nat_eq, not, true, ℕ, ◌&&◌}
use Rattle.std.specs.Cmp.Lexicographic.{pointwise}
use Rattle.std.specs.List.{list_any}
use Rattle.asn1_core.specs.Binds.{◌>>=◌}
use Rattle.der_tree.specs.Codec.{Codec}
use Rattle.der_tree.specs.Form.{value_of}
use Rattle.extension_lookup.specs.Lookup.{are_distinct}
use Rattle.pkix_cert.specs.Held.{extensions_in}
use Rattle.pkix_cert.specs.declared.extension.Extension.{Extension}
use Rattle.pkix_cert.specs.declared.extension.Extensions.{Extensions}

-- arc by arc
abbrev pub same_id : List ℕ → List ℕ → Bool
same_id = pointwise nat_eq

-- the contents of the first extension with the identifier
unfoldable pub contents_in : List ℕ → List Extension → Option (List ℕ)
contents_in id es = find (λ e. same_id e.extn_id id) es >>= λ e. Some e.extn_value

abbrev pub contents_at : List ℕ → Option Extensions → Option (List ℕ)
contents_at id extensions = contents_in id (extensions_in extensions)

-- what the contents say, where they are there and can be read
unfoldable pub said : {A : Type 0} → Codec A → Option (List ℕ) → Option A
said c contents = contents >>= value_of c

-- they can be read, where they are there
unfoldable pub can_be_read : {A : Type 0} → Codec A → Option (List ℕ) → Bool
can_be_read c None = true
can_be_read c (Some octets) = is_some (value_of c octets)

-- a critical extension has none of these identifiers
abbrev pub is_unprocessed : List (List ℕ) → Extension → Bool
is_unprocessed processed e = e.critical && not (list_any (same_id e.extn_id) processed)

-- 4.2: none of them occurs there more than once
unfoldable pub are_once : List Extension → Bool
are_once es = are_distinct (map (λ e. e.extn_id) es)
