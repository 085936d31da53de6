-- Extensions that are given as they are (RFC 5280, 4.2).
use Rattle.std.specs.Prelude.{ℕ, Bool, false, List, [], ◌∷◌, Some}
use Rattle.asn1_core.specs.Arcs.{is_oid}
use Rattle.rcgen_certificate.specs.ExtensionRows.{ExtensionRow}
use Rattle.rcgen_certificate.specs.declared.custom_extension.CustomExtension.{CustomExtension}

-- an extension that is given
pub record Custom : Type 0 where
  pub oid : List ℕ
  pub critical : Bool
  pub content : List ℕ

abbrev pub custom_of : CustomExtension → Custom
custom_of e = record { oid = e.oid.items; critical = e.critical; content = e.content.items }

abbrev pub not_critical : List ℕ → List ℕ → Custom
not_critical oid content = record { oid = oid; critical = false; content = content }

-- the arcs of the identifier of a validation by ACME (RFC 8737, 3)
abbrev pub id_pe_acme_identifier : List ℕ
id_pe_acme_identifier = 1 ∷ 3 ∷ 6 ∷ 1 ∷ 5 ∷ 5 ∷ 7 ∷ 1 ∷ 31 ∷ []

-- its arcs are an object identifier
abbrev pub has_custom_oid : Custom → Bool
has_custom_oid e = is_oid e.oid

-- its row: each part as it is given
abbrev pub custom_row : Custom → ExtensionRow
custom_row e = record { oid = e.oid; critical = e.critical; contents = Some e.content }
