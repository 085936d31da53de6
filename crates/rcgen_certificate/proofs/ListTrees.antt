-- The trees of a list's values.
use Rattle.std.specs.Prelude.{◌≡◌, Bool, true, List, [], ◌∷◌, ◌++◌, length, map, None, Ok, refl}
use Rattle.std.specs.List.{AllByRecursion, list_all}
use Rattle.std.proofs.Common.{ap, ◌∙◌, arith}
use Rattle.std.proofs.lemmas.Bool.{le-leb}
use Rattle.asn1_core.specs.Binds.{and_true, true_and}
use Rattle.der_tree.specs.Codec.{Codec}
use Rattle.der_tree.specs.Grammar.{sequence_of}
use Rattle.der_tree.specs.Results.{done, ok_then}
use Rattle.der_tree.specs.SequenceOf.{each_put}
use Rattle.der_tree.specs.Tags.{universal}
use Rattle.der_tree.specs.Tree.{PlainTree, node, row}
use Rattle.der_tree.specs.laws.Results.{ok_is, ok_then_is, ok_then_ok}
use Rattle.der_tree.proofs.ShortTrees.{row_tags_fit, tags_fit}
use Rattle.rcgen_certificate.proofs.Trees.{TreeOf}

-- a tree for each value
pub record TreesOf {A : Type 0} (c : Codec A) (vs : List A) : Type 0 where
  pub trees : List PlainTree
  pub are_trees : each_put c vs ≡ Ok trees
  pub tags : row_tags_fit (row trees) ≡ true

pub no_trees : {A : Type 0} (c : Codec A) → TreesOf c []
no_trees c = record { trees = []; are_trees = refl; tags = refl }

-- one more value at the start
pub more_trees : {A : Type 0} (c : Codec A) (v : A) (vs : List A) → TreeOf c v → TreesOf c vs → TreesOf c (v ∷ vs)
more_trees c v vs h t = record { trees = h.tree ∷ t.trees; are_trees = rw (h.is_tree, t.are_trees) refl; tags = rw (h.tags, t.tags) refl }

put_both : {A : Type 0} (c : Codec A) (vs ws : List A) (ts us : List PlainTree) → each_put c vs ≡ Ok ts → each_put c ws ≡ Ok us
    → each_put c (vs ++ ws) ≡ Ok (ts ++ us)
put_both c [] ws ts us h k = k ∙ ap (λ (l : List PlainTree). done (l ++ us)) (ok_is [] ts h)
put_both c (v ∷ vs) ws ts us h k =
    let x = ok_then_ok (c.tree_of v) (λ t. ok_then (each_put c vs) (λ r. done (t ∷ r))) ts h in
    let y = ok_then_ok (each_put c vs) (λ r. done (x.0 ∷ r)) ts x.2 in
    let rest = ok_then_is (each_put c (vs ++ ws)) (λ r. done (x.0 ∷ r)) (y.0 ++ us) (done (ts ++ us)) (put_both c vs ws y.0 us y.1 k)
    (ap (λ (l : List PlainTree). done (l ++ us)) (ok_is (x.0 ∷ y.0) ts y.2)) in
    ok_then_is (c.tree_of v) (λ t. ok_then (each_put c (vs ++ ws)) (λ r. done (t ∷ r))) x.0 (done (ts ++ us)) x.1 rest

tags_both : (ts us : List PlainTree) → row_tags_fit (row ts) ≡ true → row_tags_fit (row us) ≡ true → row_tags_fit (row (ts ++ us)) ≡ true
tags_both [] us h k = k
tags_both (t ∷ ts) us h k =
    let hs = and_true (tags_fit t) (row_tags_fit (row ts)) h in
    true_and (tags_fit t) (row_tags_fit (row (ts ++ us))) hs.0 (tags_both ts us hs.1 k)

-- one list after another
pub both_trees : {A : Type 0} (c : Codec A) (vs ws : List A) → TreesOf c vs → TreesOf c ws → TreesOf c (vs ++ ws)
both_trees c vs ws h k = record {
  trees = h.trees ++ k.trees;
  are_trees = put_both c vs ws h.trees k.trees h.are_trees k.are_trees;
  tags = tags_both h.trees k.trees h.tags k.tags;
}

-- the values of a list of parts, each of which has a tree
pub each_tree : {A B : Type 0} (c : Codec B) (value : A → B) (Fine : A → Type 0) → ((x : A) → Fine x → TreeOf c (value x))
    → (xs : List A) → AllByRecursion Fine xs → TreesOf c (map value xs)
each_tree c value Fine one [] f = no_trees c
each_tree c value Fine one (x ∷ xs) f = more_trees c (value x) (map value xs) (one x f.0) (each_tree c value Fine one xs f.1)

-- each part passes the test
pub each_passes : {A : Type 0} (p : A → Bool) (xs : List A) → list_all p xs ≡ true → AllByRecursion (λ x. p x ≡ true) xs
each_passes p [] h = tt
each_passes p (x ∷ xs) h = let hs = and_true (p x) (list_all p xs) h in (hs.0, each_passes p xs hs.1)

-- both hold of each part
pub both_hold : {A : Type 0} (P Q : A → Type 0) (xs : List A) → AllByRecursion P xs → AllByRecursion Q xs → AllByRecursion (λ x. P x × Q x) xs
both_hold P Q [] h k = tt
both_hold P Q (x ∷ xs) h k = ((h.0, k.0), both_hold P Q xs h.1 k.1)

pub each_of_both : {A : Type 0} (P : A → Type 0) (xs ys : List A) → AllByRecursion P (xs ++ ys) → AllByRecursion P xs × AllByRecursion P ys
each_of_both P [] ys h = (tt, h)
each_of_both P (x ∷ xs) ys h = let hs = each_of_both P xs ys h.1 in ((h.0, hs.0), hs.1)

pub list_tree : {A : Type 0} (c : Codec A) (vs : List A) → TreesOf c vs → TreeOf (sequence_of c 0 None refl) vs
list_tree c vs h = record { tree = node (universal 16) (row h.trees); is_tree = rw (le-leb 0 (length vs) (omega arith), h.are_trees) refl; tags = h.tags }
