-- Why arcs aren't an object identifier (X.660, 7.6), and what its makers answer.
use Rattle.std.specs.Prelude.{◌≡◌, ℕ, ◌^◌, nat_lt, cond, List, length, Option, Some, None, Result, Ok, Err}
use Rattle.asn1_core.specs.Arcs.{has_root, are_below}
use Rattle.asn1_core.specs.declared.object_identifier.OidFault.{OidFault}
use Rattle.asn1_core.specs.declared.object_identifier.OidFault.TheVariants.{TooShort, BadRoot, ArcTooLarge, OutOfMemory}

-- the first fault: fewer than two arcs, or else a wrong root
abbrev pub arcs_fault : List ℕ → Option OidFault
arcs_fault arcs = cond (nat_lt (length arcs) 2) (Some TooShort) (cond (has_root arcs) None (Some BadRoot))

-- the same of arcs that may be wider than those of an identifier, which comes first
abbrev pub wide_arcs_fault : List ℕ → Option OidFault
wide_arcs_fault arcs = cond (are_below (2 ^ 32) arcs) (arcs_fault arcs) (Some ArcTooLarge)

-- the identifier of the arcs where there is no fault, and else the first one; lack of memory aside
abbrev pub MakesIdentifier : {A : Type 0} → (A → List ℕ) → List ℕ → Option OidFault → Result A OidFault → Type 0
MakesIdentifier arcs_of arcs fault (Ok made) = (arcs_of made ≡ arcs) × (fault ≡ None)
MakesIdentifier arcs_of arcs fault (Err OutOfMemory) = Unit {0}
MakesIdentifier arcs_of arcs fault (Err why) = fault ≡ Some why
