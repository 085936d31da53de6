-- The DER of values.
use Rattle.std.specs.Prelude.{ℕ, List, Result, Ok, Err}
use Rattle.der_tree.specs.Codec.{Codec}
use Rattle.der_tree.specs.Tree.{PlainTree}
use Rattle.der_tree.specs.TreeBytes.{bytes}
use Rattle.der_tree.specs.declared.error.EncodeError.{EncodeError}
use Rattle.der_tree.specs.declared.error.EncodeError.TheVariants.{OutOfMemory as NoMemory}
use Rattle.shelf_fault.specs.declared.fault.Fault.{Fault}
use Rattle.shelf_fault.specs.declared.fault.Fault.TheVariants.{OutOfMemory}

abbrev pub bytes_or : Fault → Result PlainTree EncodeError → Result (List ℕ) Fault
bytes_or fault (Ok t) = Ok (bytes t)
bytes_or fault (Err e) = Err fault

-- the DER encoding of the value, and the fault where it has none (X.690)
abbrev pub encoded : {A : Type 0} → Codec A → Fault → A → Result (List ℕ) Fault
encoded c fault v = bytes_or fault (c.tree_of v)

-- the fault of a value that isn't encoded
abbrev pub encoding_fault : EncodeError → Fault → Fault
encoding_fault NoMemory fault = OutOfMemory
encoding_fault _ fault = fault
