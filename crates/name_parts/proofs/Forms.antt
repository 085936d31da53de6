-- Which values have a DER encoding, by what their encoding answers.
use Rattle.std.proofs.Common.{◌≡◌, ◌∙◌, ℕ, List, true, false, is_some, Result, ap, refl}
use Rattle.der_tree.specs.Answers.{Faults}
use Rattle.der_tree.specs.Codec.{Codec}
use Rattle.der_tree.specs.Form.{IsDerOf}
use Rattle.der_tree.specs.SetOf.{element_if, has_form}
use Rattle.der_tree.specs.Tree.{PlainTree}
use Rattle.der_tree.specs.declared.error.EncodeError.{EncodeError}
use Rattle.der_tree.specs.declared.error.EncodeError.TheVariants.{NotOneElement, OutOfMemory, SizeOutOfRange, TimeNotCarried}

pub has : {A : Type 0} (c : Codec A) (v : A) (b : List ℕ) → IsDerOf c v b → has_form c v ≡ true
has c v b h = ap (λ (r : Result PlainTree EncodeError). is_some (element_if r)) h.2 ∙ ap is_some h.3

pub has_none : {A : Type 0} (c : Codec A) (v : A) (e : EncodeError) → Faults e (c.tree_of v) → (e ≡ OutOfMemory → ⊥) → has_form c v ≡ false
has_none c v OutOfMemory h never = absurd (never refl)
has_none c v NotOneElement h never = ap (λ (r : Result PlainTree EncodeError). is_some (element_if r)) h
has_none c v SizeOutOfRange h never = ap (λ (r : Result PlainTree EncodeError). is_some (element_if r)) h
has_none c v TimeNotCarried h never = ap (λ (r : Result PlainTree EncodeError). is_some (element_if r)) h

pub ruleset forms = (has, has_none)
