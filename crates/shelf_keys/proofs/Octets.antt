-- The octets of a value are those of its tree.
use Rattle.std.proofs.Common.{◌≡◌, ◌∙◌, ℕ, List, Ok, Err, sym, ap}
use Rattle.der_tree.proofs.Writing.{bytes_are}
use Rattle.der_tree.specs.Codec.{Codec}
use Rattle.der_tree.specs.Answers.{Faults}
use Rattle.der_tree.specs.Form.{IsDerOf}
use Rattle.der_tree.specs.declared.error.EncodeError.{EncodeError}
use Rattle.der_tree.specs.declared.error.EncodeError.TheVariants.{NotOneElement, OutOfMemory, SizeOutOfRange, TimeNotCarried}
use Rattle.shelf_fault.specs.Faults.{MayFail}
use Rattle.shelf_fault.specs.declared.fault.Fault.{Fault}
use Rattle.shelf_keys.specs.Encoded.{bytes_or, encoded, encoding_fault}

pub octets_are : {A : Type 0} (c : Codec A) (fault : Fault) (v : A) (b : List ℕ) → IsDerOf c v b → encoded c fault v ≡ Ok b
octets_are c fault v b h = ap (bytes_or fault) h.2 ∙ ap (λ (x : List ℕ). Ok x) (bytes_are h.0 h.1 h.3 ∙ sym h.4)

pub none_are : {A : Type 0} (c : Codec A) (fault f : Fault) (v : A) (e : EncodeError) → Faults e (c.tree_of v) → f ≡ encoding_fault e fault
    → MayFail (encoded c fault v) f
none_are c fault f v OutOfMemory h is = λ n. absurd (n is)
none_are c fault f v NotOneElement h is = λ n. ap (bytes_or fault) h ∙ ap (λ (x : Fault). Err x) (sym is)
none_are c fault f v SizeOutOfRange h is = λ n. ap (bytes_or fault) h ∙ ap (λ (x : Fault). Err x) (sym is)
none_are c fault f v TimeNotCarried h is = λ n. ap (bytes_or fault) h ∙ ap (λ (x : Fault). Err x) (sym is)
