-- Borrowed identifiers.
use Rattle.std.specs.Prelude.{ℕ, List}
use Rattle.asn1_core.specs.declared.oid.Oid.{Oid}

-- its arcs, from the root down
abbrev pub arcs_in : Oid → List ℕ
arcs_in id = id.arcs.now
