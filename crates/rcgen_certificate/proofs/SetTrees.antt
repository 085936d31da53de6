-- The trees of a set's values, and that values make a set.
use Rattle.std.specs.Prelude.{◌≡◌, ℕ, true, false, cond, List, [], ◌∷◌, length, None, Result, Ok, refl}
use Rattle.std.specs.Cmp.Lexicographic.{slice_cmp}
use Rattle.std.specs.List.Sorted.{IsPermutation}
use Rattle.std.specs.Ordering.{is_gt, nat_cmp}
use Rattle.std.proofs.Common.{ap, ◌∙◌, arith}
use Rattle.std.proofs.lemmas.Bool.{le-leb}
use Rattle.std.proofs.lemmas.List.Sorted.{IsPermutation-cons, IsPermutation-refl, IsPermutation-trans}
use Rattle.asn1_core.specs.Binds.{and_true}
use Rattle.der_tree.specs.Codec.{Codec}
use Rattle.der_tree.specs.Grammar.{set_of}
use Rattle.der_tree.specs.Results.{done, ok_then}
use Rattle.der_tree.specs.Sequence.{node_of}
use Rattle.der_tree.specs.SequenceOf.{each_put}
use Rattle.der_tree.specs.SetOf.{inserted, inserted_by, is_set, octets_of_form, set_put}
use Rattle.der_tree.specs.Tags.{universal}
use Rattle.der_tree.specs.Tree.{PlainTree, node, row}
use Rattle.der_tree.specs.declared.error.EncodeError.{EncodeError}
use Rattle.der_tree.specs.laws.Results.{ok_is, ok_then_ok}
use Rattle.der_tree.proofs.SetLaws.{empty_is_set, form_has, inserted_is_set, set_put_is}
use Rattle.rcgen_certificate.proofs.ListTrees.{TreesOf, more_trees, no_trees}
use Rattle.rcgen_certificate.proofs.Requests.{inserted_is}
use Rattle.der_tree.proofs.ShortTrees.{row_tags_fit, tags_fit}
use Rattle.rcgen_certificate.proofs.Trees.{ShortTreeOf, TreeOf, form_there}

-- the tree of the first of the values, and those of the others
record HaveParts {A : Type 0} (c : Codec A) (v : A) (vs : List A) : Type 0 where
  first : TreeOf c v
  rest : TreesOf c vs

parts_of : {A : Type 0} (c : Codec A) (v : A) (vs : List A) → TreesOf c (v ∷ vs) → HaveParts c v vs
parts_of c v vs h =
    let x = ok_then_ok (c.tree_of v) (λ t. ok_then (each_put c vs) (λ r. done (t ∷ r))) h.trees h.are_trees in
    let y = ok_then_ok (each_put c vs) (λ r. done (x.0 ∷ r)) h.trees x.2 in
    let tags = and_true (tags_fit x.0) (row_tags_fit (row y.0))
    (ap (λ (l : List PlainTree). row_tags_fit (row l)) (ok_is (x.0 ∷ y.0) h.trees y.2) ∙ h.tags) in
    record {
      first = record { tree = x.0; is_tree = x.1; tags = tags.0 };
      rest = record { trees = y.0; are_trees = y.1; tags = tags.1 };
    }

-- one value more, wherever it goes
inserted_trees : {A : Type 0} (c : Codec A) (octets : A → List ℕ) (vs : List A) (v : A) → TreeOf c v → TreesOf c vs
    → TreesOf c (inserted_by octets vs v)
inserted_trees c octets [] v h t = more_trees c v [] h t
inserted_trees c octets (y ∷ ys) v h t =
    let x = parts_of c y ys t in
    elim (is_gt (slice_cmp nat_cmp (octets y) (octets v))) as (λ b. TreesOf c (cond b (v ∷ y ∷ ys) (y ∷ inserted_by octets ys v))) [
      | true ↦ more_trees c v (y ∷ ys) h t
      | false ↦ more_trees c y (inserted_by octets ys v) x.first (inserted_trees c octets ys v h x.rest)
    ]

-- the values in the order of their forms, and their trees
pub record HasSet {A : Type 0} (c : Codec A) (vs : List A) : Type 0 where
  pub set : List A
  pub each : IsPermutation vs set
  pub ordered : is_set c set ≡ true
  pub trees : TreesOf c set

pub no_set : {A : Type 0} (c : Codec A) → HasSet c []
no_set c = record { set = []; each = IsPermutation-refl []; ordered = empty_is_set c; trees = no_trees c }

pub more_set : {A : Type 0} (c : Codec A) (v : A) (vs : List A) → ShortTreeOf c v → HasSet c vs → HasSet c (v ∷ vs)
unfolding inserted
more_set c v vs h s =
    let f = form_there c v h in
    record {
      set = inserted c s.set v;
      each = IsPermutation-trans (v ∷ vs) (v ∷ s.set) (inserted c s.set v) (IsPermutation-cons v vs s.set s.each)
          (inserted_is c s.set (inserted c s.set v) v f refl);
      ordered = inserted_is_set c s.set v s.ordered (form_has c v f.0 f.1);
      trees = inserted_trees c (octets_of_form c) s.set v h.of_value s.trees;
    }

-- what is put for a set
put_there : {A : Type 0} (c : Codec A) (vs : List A) (ts : List PlainTree) → is_set c vs ≡ true → each_put c vs ≡ Ok ts → set_put c 0 None vs ≡ Ok ts
put_there c vs ts ordered e = set_put_is c 0 None vs ordered ∙ rw (le-leb 0 (length vs) (omega arith)) e

pub set_tree_is : {A : Type 0} (c : Codec A) (vs : List A) (ts : List PlainTree) → is_set c vs ≡ true → each_put c vs ≡ Ok ts
    → (set_of c 0 None [] refl).tree_of vs ≡ Ok (node (universal 17) (row ts))
set_tree_is c vs ts ordered e = ap (λ (r : Result (List PlainTree) EncodeError). node_of (universal 17) r) (put_there c vs ts ordered e)

pub set_tree : {A : Type 0} (c : Codec A) (vs : List A) → is_set c vs ≡ true → TreesOf c vs → TreeOf (set_of c 0 None [] refl) vs
set_tree c vs ordered h =
    record { tree = node (universal 17) (row h.trees); is_tree = set_tree_is c vs h.trees ordered h.are_trees; tags = h.tags }
