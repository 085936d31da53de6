-- The identifier of an extension (RFC 5280, 4.2).
use Rattle.std.specs.Prelude.{ℕ, if◌then◌else◌, List, Option, Some, None}
use Rattle.asn1_core.specs.Arcs.{is_oid}
use Rattle.toml_format.specs.Arcs.{arcs}

-- arcs that an object identifier has (X.660, 7.6)
abbrev pub oid_if : Option (List ℕ) → Option (List ℕ)
oid_if None = None
oid_if (Some arcs) = if is_oid arcs then Some arcs else None

unfoldable pub extension_id : List ℕ → Option (List ℕ)
extension_id text = oid_if (arcs text)
