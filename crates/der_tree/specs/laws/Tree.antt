-- Trees as codes: what builds one on a stack.
use Rattle.std.specs.Prelude.{List, refl, suc, zero, ℕ, [], ◌∷◌, ◌≡◌}
use Rattle.std.specs.Coded.{Coded, code_by, coded_list, coded_ℕ, coded×}
use Rattle.std.proofs.Common.{ap, ◌∙◌}
use Rattle.asn1_core.specs.declared.tag.Class.{Class}
use Rattle.asn1_core.specs.declared.tag.Class.TheVariants as class
use Rattle.asn1_core.specs.declared.tag.Tag.{Tag}
use Rattle.der_tree.specs.Tree.{PlainTree, PlainTrees, leaf, more, node, none, raw}

abbrev class_number : Class → ℕ
class_number class.Universal = 0
class_number class.Application = 1
class_number class.Context = 2
class_number class.Private = 3

abbrev class_of : ℕ → Class
class_of zero = class.Universal
class_of (suc zero) = class.Application
class_of (suc (suc zero)) = class.Context
class_of (suc (suc (suc n))) = class.Private

class_of-class_number : (c : Class) → class_of (class_number c) ≡ c
class_of-class_number class.Universal = refl
class_of-class_number class.Application = refl
class_of-class_number class.Context = refl
class_of-class_number class.Private = refl

abbrev Step : Type 0
Step = ℕ × (ℕ × (ℕ × List ℕ))

abbrev Stack : Type 0
Stack = List PlainTree × List PlainTrees

abbrev tag_of : ℕ → ℕ → Tag
tag_of c n = record { class = class_of c; number = n }

abbrev kids_first : List PlainTrees → PlainTrees
kids_first [] = none
kids_first (k ∷ ks) = k

abbrev kids_rest : List PlainTrees → List PlainTrees
kids_rest [] = []
kids_rest (k ∷ ks) = ks

abbrev tree_first : List PlainTree → PlainTree
tree_first [] = raw []
tree_first (k ∷ ks) = k

abbrev tree_rest : List PlainTree → List PlainTree
tree_rest [] = []
tree_rest (k ∷ ks) = ks

abbrev build : ℕ → ℕ → ℕ → List ℕ → Stack → Stack
build zero c n b s = (leaf (tag_of c n) b ∷ s.0, s.1)
build (suc zero) c n b s = (node (tag_of c n) (kids_first s.1) ∷ s.0, kids_rest s.1)
build (suc (suc zero)) c n b s = (raw b ∷ s.0, s.1)
build (suc (suc (suc zero))) c n b s = (s.0, none ∷ s.1)
build (suc (suc (suc (suc k)))) c n b s = (tree_rest s.0, more (tree_first s.0) (kids_first s.1) ∷ kids_rest s.1)

abbrev run : List Step → Stack → Stack
run [] s = s
run (t ∷ ts) s = run ts (build t.0 t.1.0 t.1.1.0 t.1.1.1 s)

abbrev mutual
  steps : PlainTree → List Step → List Step
  steps (leaf t b) after = (0, (class_number t.class, (t.number, b))) ∷ after
  steps (node t k) after = row_steps k ((1, (class_number t.class, (t.number, []))) ∷ after)
  steps (raw b) after = (2, (0, (0, b))) ∷ after

  row_steps : PlainTrees → List Step → List Step
  row_steps none after = (3, (0, (0, []))) ∷ after
  row_steps (more t k) after = row_steps k (steps t ((4, (0, (0, []))) ∷ after))

mutual
  run-steps : (t : PlainTree) (after : List Step) (s : Stack) → run (steps t after) s ≡ run after (t ∷ s.0, s.1)
  run-steps (leaf t b) after s = ap (λ (c : Class). run after (leaf (record { class = c; number = t.number }) b ∷ s.0, s.1)) (class_of-class_number t.class)
  run-steps (node t k) after s =
      run-row_steps k ((1, (class_number t.class, (t.number, []))) ∷ after) s
      ∙ ap (λ (c : Class). run after (node (record { class = c; number = t.number }) k ∷ s.0, s.1)) (class_of-class_number t.class)
  run-steps (raw b) after s = refl

  run-row_steps : (k : PlainTrees) (after : List Step) (s : Stack) → run (row_steps k after) s ≡ run after (s.0, k ∷ s.1)
  run-row_steps none after s = refl
  run-row_steps (more t k) after s = run-row_steps k (steps t ((4, (0, (0, []))) ∷ after)) s ∙ run-steps t ((4, (0, (0, []))) ∷ after) (s.0, k ∷ s.1)

abbrev to_steps : PlainTree → List Step
to_steps t = steps t []

abbrev of_steps : List Step → PlainTree
of_steps ts = tree_first (run ts ([], [])).0

pub of_steps-to_steps : (t : PlainTree) → of_steps (to_steps t) ≡ t
of_steps-to_steps t = ap (λ (s : Stack). tree_first s.0) (run-steps t [] ([], []))

abbrev pub coded_plain_tree : Coded PlainTree
coded_plain_tree =
    code_by (List Step) (coded_list (coded× coded_ℕ (coded× coded_ℕ (coded× coded_ℕ (coded_list coded_ℕ))))) to_steps of_steps of_steps-to_steps
