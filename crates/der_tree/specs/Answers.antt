-- What calls answer, where memory doesn't run out.
use Rattle.std.specs.Prelude.{Err, List, Ok, Result, ◌++◌, ◌≡◌}
use Rattle.der_tree.specs.declared.error.EncodeError.{EncodeError}
use Rattle.der_tree.specs.declared.error.EncodeError.TheVariants.{NotOneElement, OutOfMemory, SizeOutOfRange, TimeNotCarried}
use Rattle.der_tree.specs.declared.tree.Tree.{Tree}
use Rattle.der_tree.specs.Results.{ok_then}
use Rattle.der_tree.specs.Tree.{PlainTree}
use Rattle.der_tree.specs.View.{plain}

-- a fault that is not of memory is the one that the definition gives
abbrev pub Faults : {X : Type 0} → EncodeError → Result X EncodeError → Type 0
Faults OutOfMemory r = Unit {0}
Faults NotOneElement r = r ≡ Err NotOneElement
Faults SizeOutOfRange r = r ≡ Err SizeOutOfRange
Faults TimeNotCarried r = r ≡ Err TimeNotCarried

abbrev pub Encodes : Result Tree EncodeError → Result PlainTree EncodeError → Type 0
Encodes (Ok t) r = r ≡ Ok (plain t)
Encodes (Err e) r = Faults e r

-- trees were put after the old ones
abbrev pub Puts : Result (Unit {0}) EncodeError → List PlainTree → List PlainTree → Result (List PlainTree) EncodeError → Type 0
Puts (Ok u) old new r = ok_then r (λ ts. Ok (old ++ ts)) ≡ Ok new
Puts (Err e) old new r = Faults e r
