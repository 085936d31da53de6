-- A step that only refuses.
use Rattle.std.specs.Prelude.{Bool, Result}
use Rattle.shelf_fault.specs.Faults.{unless}
use Rattle.shelf_fault.specs.declared.fault.Fault.{Fault}

-- the fault, where it is there
abbrev pub refuse : Bool → Fault → Result (Unit {0}) Fault
refuse is_there fault = unless is_there fault tt
