-- One more certificate in the map, unless one is there.
use Rattle.std.proofs.Common.{◌≡◌, ◌∙◌, Bool, true, false, List, Option, Some, None, ℕ, ap, cond, is_some, option_map, refl, sym}
use Rattle.std.specs.Borrow.{Bor}
use Rattle.std.specs.BTreeMap as tree
use Rattle.std.specs.BTreeMap.{BTreeMap}
use Rattle.std.specs.Map.{lookup}
use Rattle.std.specs.Ordering.{is_eq}
use Rattle.std.specs.declared.cmp.Ordering.{Ordering}
use Rattle.std.specs.declared.cmp.Ordering.TheVariants.{Less, Equal, Greater}
use Rattle.lint_files.specs.Firsts.{first_at}
use Rattle.lint_files.specs.Issuers.{if_same, or_else}
use Rattle.lint_files.specs.contracts.index_key.IndexKeyOrd.TheImpl.{ghosts as order}
use Rattle.lint_files.specs.contracts.index_key.IndexKeyPartialEq.TheImpl.{ghosts as keys}
use Rattle.lint_files.specs.declared.index_key.IndexKey.{IndexKey}

abbrev Firsts : Type 0
Firsts = BTreeMap IndexKey (Bor (List ℕ))

abbrev AreEqual : Type 0
AreEqual = (x y : IndexKey) → is_eq (order.cmp x y) ≡ keys.eq x y

abbrev AreAlike : Type 0
AreAlike = (x y z : IndexKey) → order.cmp x y ≡ Equal → order.cmp x z ≡ order.cmp y z

equal : (r : Ordering) → is_eq r ≡ true → r ≡ Equal
equal Less h = absurd cc
equal Equal h = refl
equal Greater h = absurd cc

-- what ties is found alike
same_place : AreAlike → (m : Firsts) (k q : IndexKey) → is_eq (order.cmp k q) ≡ true → first_at m k ≡ first_at m q
same_place alike m k q h =
    ap (λ (t : IndexKey → Bool). option_map (λ (octets : Bor (List ℕ)). octets.now) (lookup t m.entries))
    (λ i. λ e. is_eq (alike k q e (equal (order.cmp k q) h) i))

right : (x : Option (List ℕ)) → x ≡ or_else x None
right None = refl
right (Some x) = refl

there : (x y : Option (List ℕ)) → is_some x ≡ true → x ≡ or_else x y
there None y h = absurd cc
there (Some x) y h = refl

missing : (x y : Option (List ℕ)) → is_some x ≡ false → y ≡ or_else x y
missing None y h = refl
missing (Some x) y h = absurd cc

mapped : (o : Option (Bor (List ℕ))) → is_some (option_map (λ (octets : Bor (List ℕ)). octets.now) o) ≡ is_some o
mapped None = refl
mapped (Some o) = refl

pub kept : AreEqual → AreAlike → (m : Firsts) (k q : IndexKey) (o : List ℕ) → is_some (tree.get order.cmp m k) ≡ true
    → first_at m q ≡ or_else (first_at m q) (if_same k q o)
kept ties alike m k q o h =
    elim (keys.eq k q) as (λ b. is_eq (order.cmp k q) ≡ b → first_at m q ≡ or_else (first_at m q) (cond b (Some o) None)) [
      | true ↦ λ e. there (first_at m q) (Some o) (ap is_some (sym (same_place alike m k q e)) ∙ mapped (tree.get order.cmp m k) ∙ h)
      | false ↦ λ e. right (first_at m q)
    ] (ties k q)

pub added : AreEqual → AreAlike → (m n : Firsts) (k q : IndexKey) (v : Bor (List ℕ)) → is_some (tree.get order.cmp m k) ≡ false
    → tree.get order.cmp n q ≡ cond (is_eq (order.cmp k q)) (Some v) (tree.get order.cmp m q)
    → first_at n q ≡ or_else (first_at m q) (if_same k q v.now)
added ties alike m n k q v h u =
    ap (option_map (λ (octets : Bor (List ℕ)). octets.now)) u
    ∙ elim (keys.eq k q) as (λ b. is_eq (order.cmp k q) ≡ b
    → option_map (λ (octets : Bor (List ℕ)). octets.now) (cond (is_eq (order.cmp k q)) (Some v) (tree.get order.cmp m q))
    ≡ or_else (first_at m q) (cond b (Some v.now) None)) [
      | true ↦ λ e. rw e (missing (first_at m q) (Some v.now) (ap is_some (sym (same_place alike m k q e)) ∙ mapped (tree.get order.cmp m k) ∙ h))
      | false ↦ λ e. rw e (right (first_at m q))
    ] (ties k q)
