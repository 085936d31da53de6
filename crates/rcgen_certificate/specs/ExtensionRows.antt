-- Rows of a table of extensions (RFC 5280, 4.2).
use Rattle.std.specs.Prelude.{◌≡◌, ◌==◌, cond, length, ℕ, Bool, List, [], ◌∷◌, map, Option, Some, None, Ok, Err, Result}
use Rattle.std.specs.List.{list_all}
use Rattle.std.specs.Option.{option_map}
use Rattle.asn1_core.specs.Arcs.{is_oid}
use Rattle.asn1_core.specs.Binds.{◌>>=◌}
use Rattle.der_tree.specs.Codec.{Codec}
use Rattle.der_tree.specs.Element.{element_octets}
use Rattle.der_tree.specs.TreeElement.{element_of}
use Rattle.der_tree.specs.Tree.{PlainTree}
use Rattle.der_tree.specs.declared.error.EncodeError.{EncodeError}
use Rattle.pkix_cert.specs.declared.extension.Extension.{Extension}
use Rattle.pkix_cert.specs.declared.extension.Extensions.{Extensions}

abbrev pub form_of_tree : Result PlainTree EncodeError → Option (List ℕ)
form_of_tree (Ok t) = element_of t >>= λ s. Some (element_octets s)
form_of_tree (Err e) = None

-- the value's form, if it has one
abbrev pub form_of : {A : Type 0} → Codec A → A → Option (List ℕ)
form_of c v = form_of_tree (c.tree_of v)

-- an extension; no extension has a row without contents
pub record ExtensionRow : Type 0 where
  pub oid : List ℕ
  pub critical : Bool
  pub contents : Option (List ℕ)

-- the row, present where there is a value; its contents are the form of that value
abbrev pub extension_row : {A : Type 0} → List ℕ → Bool → Codec A → Option A → List ExtensionRow
extension_row oid critical c None = []
extension_row oid critical c (Some v) = record { oid = oid; critical = critical; contents = form_of c v } ∷ []

-- the row that an extension is
abbrev pub row_of_extension : Extension → ExtensionRow
row_of_extension e = record { oid = e.extn_id; critical = e.critical; contents = Some e.extn_value }

-- each row is of an object identifier
abbrev pub are_named : List ExtensionRow → Bool
are_named rows = list_all (λ r. is_oid r.oid) rows

-- the list, where it isn't empty
abbrev pub unless_empty : {A : Type 0} → List A → Option (List A)
unless_empty xs = cond (length xs == 0) None (Some xs)

-- the rows of the field, which is absent where there is none
abbrev pub IsField : List ExtensionRow → Option Extensions → Type 0
IsField rows field = option_map (λ es. map row_of_extension es.0) field ≡ unless_empty rows
