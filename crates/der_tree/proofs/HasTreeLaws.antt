-- Where values have trees: what errors say, and lists that grow.
use Rattle.std.specs.Prelude.{◌≡◌, true, List, [], ◌∷◌, ◌++◌, refl}
use Rattle.std.specs.List.{list_all}
use Rattle.std.proofs.Common.{sym, ap, ◌∙◌}
use Rattle.std.proofs.lemmas.List.Folds.{list_all-append}
use Rattle.der_tree.specs.Answers.{Faults}
use Rattle.der_tree.specs.Codec.{Codec}
use Rattle.der_tree.specs.HasTree.{HasTree}
use Rattle.der_tree.specs.laws.Codec.{tree_there}
use Rattle.der_tree.specs.declared.error.EncodeError.{EncodeError}
use Rattle.der_tree.specs.declared.error.EncodeError.TheVariants.{NotOneElement, SizeOutOfRange, TimeNotCarried, OutOfMemory}

-- a fault that isn't of memory is of a value without a tree
pub fault_is_memory : {A : Type 0} (c : Codec A) (v : A) (e : EncodeError) → HasTree c v → Faults e (c.tree_of v) → e ≡ OutOfMemory
fault_is_memory c v OutOfMemory h f = refl
fault_is_memory c v NotOneElement h f = absurd (let e = sym (tree_there c v h).1 ∙ f in cc)
fault_is_memory c v SizeOutOfRange h f = absurd (let e = sym (tree_there c v h).1 ∙ f in cc)
fault_is_memory c v TimeNotCarried h f = absurd (let e = sym (tree_there c v h).1 ∙ f in cc)

pub ruleset memory = (fault_is_memory)

-- one value more
pub all_have_more : {A : Type 0} (c : Codec A) (vs ws : List A) (v : A) → list_all c.has_tree vs ≡ true → HasTree c v → ws ≡ vs ++ v ∷ [] → list_all c.has_tree ws ≡ true
all_have_more c vs ws v h k e = ap (list_all c.has_tree) e ∙ list_all-append c.has_tree vs (v ∷ []) ∙ rw (h, k) refl
