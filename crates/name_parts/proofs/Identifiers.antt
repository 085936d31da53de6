-- What the arcs of an identifier are read as.
use Rattle.std.proofs.Common.{◌≡◌, ℕ, List, Option, Some, None, Err, cond, is_none, ap, refl}
use Rattle.asn1_core.specs.OidFaults.{MakesIdentifier, arcs_fault}
use Rattle.asn1_core.specs.declared.object_identifier.OidFault.{OidFault}
use Rattle.asn1_core.specs.declared.object_identifier.OidFault.TheVariants.{TooShort, BadRoot, BadText, ArcTooLarge, OutOfMemory}
use Rattle.name_parts.specs.Attributes.{identifier}

refused : (arcs : List ℕ) (e : OidFault) → arcs_fault arcs ≡ Some e → identifier arcs ≡ None
refused arcs e h = ap (λ (o : Option OidFault). cond (is_none o) (Some arcs) None) h

-- arcs of which none is made
pub not_identifier : {A : Type 0} (view : A → List ℕ) (arcs : List ℕ) (e : OidFault)
    → MakesIdentifier view arcs (arcs_fault arcs) (Err e) → (e ≡ OutOfMemory → ⊥) → identifier arcs ≡ None
not_identifier view arcs OutOfMemory h never = absurd (never refl)
not_identifier view arcs TooShort h never = refused arcs TooShort h
not_identifier view arcs BadRoot h never = refused arcs BadRoot h
not_identifier view arcs BadText h never = refused arcs BadText h
not_identifier view arcs ArcTooLarge h never = refused arcs ArcTooLarge h
