-- Lists of what is made item by item.
use Rattle.std.specs.Prelude.{List, ◌++◌, Result, Ok}
use Rattle.shelf_fault.specs.Faults.{and_then}
use Rattle.shelf_fault.specs.declared.fault.Fault.{Fault}

-- the front, and then the rest
abbrev pub behind : {A : Type 0} → List A → Result (List A) Fault → Result (List A) Fault
behind front rest = and_then rest (λ more. Ok (front ++ more))
