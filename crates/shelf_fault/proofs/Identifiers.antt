-- What the arcs of an identifier are read as.
use Rattle.std.proofs.Common.{◌≡◌, ℕ, List, Option, Some, Err, not, is_none, ap, refl}
use Rattle.asn1_core.specs.OidFaults.{MakesIdentifier, wide_arcs_fault}
use Rattle.asn1_core.specs.declared.object_identifier.OidFault.{OidFault}
use Rattle.asn1_core.specs.declared.object_identifier.OidFault.TheVariants.{TooShort, BadRoot, BadText, ArcTooLarge, OutOfMemory}
use Rattle.shelf_fault.specs.Faults.{MayFail, fault_of_arcs, identifier, unless}
use Rattle.shelf_fault.specs.declared.fault.Fault.TheVariants.{Obstacle}
use Rattle.shelf_fault.specs.declared.fault.Obstacle.TheVariants.{Identifier}

refused : (arcs : List ℕ) (e : OidFault) → wide_arcs_fault arcs ≡ Some e → identifier arcs ≡ Err (Obstacle Identifier)
refused arcs e h = ap (λ (o : Option OidFault). unless (not (is_none o)) (Obstacle Identifier) arcs) h

-- arcs of which none is made have this fault
pub not_identifier : {A : Type 0} (view : A → List ℕ) (arcs : List ℕ) (e : OidFault)
    → MakesIdentifier view arcs (wide_arcs_fault arcs) (Err e) → MayFail (identifier arcs) (fault_of_arcs e)
not_identifier view arcs OutOfMemory h = λ never. absurd (never refl)
not_identifier view arcs TooShort h = λ _. refused arcs TooShort h
not_identifier view arcs BadRoot h = λ _. refused arcs BadRoot h
not_identifier view arcs BadText h = λ _. refused arcs BadText h
not_identifier view arcs ArcTooLarge h = λ _. refused arcs ArcTooLarge h
