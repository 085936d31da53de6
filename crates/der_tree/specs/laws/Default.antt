-- The laws of DEFAULT fields.
use Rattle.std.specs.Prelude.{Bool, List, None, Ok, Option, Some, cond, false, is_ok, refl, true, [], ◌++◌, ◌||◌, ◌↔◌, ◌∷◌, ◌≡◌}
use Rattle.std.proofs.Common.{ap, subst, sym, ◌∙◌}
use Rattle.std.proofs.Math.Bool.{or-false, or-true}
use mathlib.Core.Bool.{beq}
use Rattle.asn1_core.specs.Binds.{bind_is, bind_some, some_is, ◌>>=◌}
use Rattle.der_tree.specs.Codec.{Clear, Codec, FieldsOf, with_fields}
use Rattle.der_tree.specs.Default.{default_get, default_put, default_then, default_with, empty_get, empty_put, empty_then, empty_with, if_not_empty}
use Rattle.der_tree.specs.Default.{next_defaulted, or_default, or_empty, unless_default, unless_empty, value_or_default, value_or_empty}
use Rattle.der_tree.specs.Element.{Element, all_encodable}
use Rattle.der_tree.specs.Optional.{if_there, optional_get, optional_put}
use Rattle.der_tree.specs.Tree.{PlainTree}
use Rattle.der_tree.specs.TreeElement.{elements_of}
use Rattle.der_tree.specs.laws.Optional.{optional_has}

not_default : {A : Type 0} (b : Bool) (x : A) (mid : List Element) (y : A × List Element)
    → (cond b None (Some x) >>= λ v. let p : A × List Element = (v, mid) in Some p) ≡ Some y → (b ≡ false) × ◌≡◌ {A = A × List Element} (x, mid) y
not_default true x mid y e = absurd cc
not_default false x mid y e = (refl, some_is (x, mid) y e)

module _ {A : Type 0} (f : FieldsOf (Option A)) (eq : A → A → Bool) (exact : (a b : A) → (eq a b ≡ true) ↔ (a ≡ b)) (d : A) where
  unless_default_at : (v : A) (e : Bool) → eq v d ≡ e → cond (eq v d) None (Some v) ≡ cond e None (Some v)
  unless_default_at v e h = ap (λ (b : Bool). cond b None (Some v)) h

  unless_default_other : (v : A) → eq v d ≡ false → cond (eq v d) None (Some v) ≡ Some v
  unless_default_other v h = unless_default_at v false h

  unless_default_same : (v : A) → eq v d ≡ true → cond (eq v d) None (Some v) ≡ None
  unless_default_same v h = unless_default_at v true h

  default_takes_at : (x : Option A) (mid ss : List Element) (v : A) (rest : List Element) → all_encodable ss ≡ true → f.get ss ≡ Some (x, mid)
      → default_with eq d (x, mid) ≡ Some (v, rest)
      → (ts : List PlainTree) × (front : List Element) × (f.put (unless_default eq d v) ≡ Ok ts) × (elements_of ts ≡ Some front) × (ss ≡ front ++ rest)
  unfolding unless_default
  default_takes_at None mid ss v rest h e1 e2 =
      let r = f.takes ss None mid h e1 in
      subst (λ (p : A × List Element). (ts : List PlainTree) × (front : List Element) × (f.put (unless_default eq d p.0) ≡ Ok ts)
      × (elements_of ts ≡ Some front) × (ss ≡ front ++ p.1)) (some_is (d, mid) (v, rest) e2)
      (r.0, r.1, ap f.put (unless_default_same d ((exact d d).1 refl)) ∙ r.2, r.3, r.4)
  default_takes_at (Some x) mid ss v rest h e1 e2 =
      let r = f.takes ss (Some x) mid h e1 in
      let k = not_default (eq x d) x mid (v, rest) e2 in
      subst (λ (p : A × List Element). (ts : List PlainTree) × (front : List Element) × (f.put (unless_default eq d p.0) ≡ Ok ts)
      × (elements_of ts ≡ Some front) × (ss ≡ front ++ p.1)) k.1
      (r.0, r.1, ap f.put (unless_default_other x k.0) ∙ r.2, r.3, r.4)

  pub default_takes : (ss : List Element) (v : A) (rest : List Element) → all_encodable ss ≡ true → default_get f eq d ss ≡ Some (v, rest)
      → (ts : List PlainTree) × (front : List Element) × (default_put f eq d v ≡ Ok ts) × (elements_of ts ≡ Some front) × (ss ≡ front ++ rest)
  default_takes ss v rest h e =
      let x = bind_some (f.get ss) (default_with eq d) (v, rest) e in
      default_takes_at x.0.0 x.0.1 ss v rest h x.1 x.2

  default_again_at : (v : A) (rest : List Element) (b : Bool) → eq v d ≡ b → default_with eq d (cond b None (Some v), rest) ≡ Some (v, rest)
  default_again_at v rest true e = ap (λ (x : A). let p : A × List Element = (x, rest) in Some p) (sym ((exact v d).0 e))
  default_again_at v rest false e = rw e refl

  pub default_again : f.fine ≡ true → (v : A) (ts : List PlainTree) (front rest : List Element) → default_put f eq d v ≡ Ok ts
      → elements_of ts ≡ Some front → Clear f.blocks rest → default_get f eq d (front ++ rest) ≡ Some (v, rest)
  unfolding unless_default
  default_again ok v ts front rest e h k =
      bind_is (f.get (front ++ rest)) (default_with eq d) (unless_default eq d v, rest) (Some (v, rest))
      (f.again ok (unless_default eq d v) ts front rest e h k) (default_again_at v rest (eq v d) refl)

  pub default_sample : f.put None ≡ Ok [] → (v : A) × (ts : List PlainTree) × (default_put f eq d v ≡ Ok ts)
  unfolding unless_default
  default_sample e = (d, [], ap f.put (unless_default_same d ((exact d d).1 refl)) ∙ e)

default_has_at : {A : Type 0} (c : Codec A) (v : A) (b : Bool) → (c.has_tree v || b) ≡ if_there c (cond b None (Some v))
default_has_at c v true = or-true (c.has_tree v)
default_has_at c v false = or-false (c.has_tree v)

-- the default has no tree of its own
pub default_has : {A : Type 0} (c : Codec A) (eq : A → A → Bool) (d v : A) → (c.has_tree v || eq v d) ≡ is_ok (optional_put c (unless_default eq d v))
unfolding unless_default
default_has c eq d v = default_has_at c v (eq v d) ∙ optional_has c (unless_default eq d v)

pub read_on : {A B : Type 0} (k : A → List Element → Option B) (o : Option A) (rest : List Element)
    → (o >>= λ v. k v rest) ≡ with_fields k (o >>= λ v. Some (v, rest))
read_on k None rest = refl
read_on k (Some v) rest = refl

default_reads_at : {A B : Type 0} (eq : A → A → Bool) (d : A) (k : A → List Element → Option B) (o : Option (Option A × List Element))
    → with_fields (default_then eq d k) o ≡ with_fields k (o >>= default_with eq d)
unfolding value_or_default
default_reads_at eq d k None = refl
default_reads_at eq d k (Some x) = read_on k (or_default eq d x.0) x.1

pub default_reads : {A : Type 0} (f : FieldsOf (Option A)) (eq : A → A → Bool) (d : A) {B : Type 0} (ss : List Element) (k : A → List Element → Option B)
    → f.read ss (default_then eq d k) ≡ with_fields k (default_get f eq d ss)
default_reads f eq d ss k = f.reads ss (default_then eq d k) ∙ default_reads_at eq d k (f.get ss)

pub defaulted_reads : {A : Type 0} (c : Codec A) (eq : A → A → Bool) (d : A) {B : Type 0} (ss : List Element) (k : A → List Element → Option B)
    → with_fields k (next_defaulted c eq d ss) ≡ with_fields k (optional_get c ss >>= default_with eq d)
unfolding next_defaulted
defaulted_reads c eq d ss k = refl

empty_there : {A : Type 0} (vs : List A) → or_empty (unless_empty vs) ≡ Some vs
unfolding unless_empty
empty_there [] = refl
empty_there (v ∷ vs) = refl

empty_back : {A : Type 0} (o : Option (List A)) (vs : List A) → or_empty o ≡ Some vs → unless_empty vs ≡ o
unfolding unless_empty
empty_back None vs e = ap unless_empty (sym (some_is [] vs e))
empty_back (Some []) vs e = absurd cc
empty_back (Some (w ∷ ws)) vs e = ap unless_empty (sym (some_is (w ∷ ws) vs e))

empty_reads_at : {A B : Type 0} (k : List A → List Element → Option B) (o : Option (Option (List A) × List Element))
    → with_fields (empty_then k) o ≡ with_fields k (o >>= empty_with)
unfolding value_or_empty
empty_reads_at k None = refl
empty_reads_at k (Some x) = read_on k (or_empty x.0) x.1

module _ {A : Type 0} (f : FieldsOf (Option (List A))) where
  pub empty_takes : (ss : List Element) (v : List A) (rest : List Element) → all_encodable ss ≡ true → empty_get f ss ≡ Some (v, rest)
      → (ts : List PlainTree) × (front : List Element) × (empty_put f v ≡ Ok ts) × (elements_of ts ≡ Some front) × (ss ≡ front ++ rest)
  empty_takes ss v rest h e =
      let x = bind_some (f.get ss) empty_with (v, rest) e in
      let y = bind_some (or_empty x.0.0) (λ v. Some (v, x.0.1)) (v, rest) x.2 in
      let r = f.takes ss x.0.0 x.0.1 h x.1 in
      subst (λ (z : List A × List Element). (ts : List PlainTree) × (front : List Element) × (empty_put f z.0 ≡ Ok ts) × (elements_of ts ≡ Some front)
      × (ss ≡ front ++ z.1)) (some_is (y.0, x.0.1) (v, rest) y.2)
      (r.0, r.1, ap f.put (empty_back x.0.0 y.0 y.1) ∙ r.2, r.3, r.4)

  pub empty_again : f.fine ≡ true → (v : List A) (ts : List PlainTree) (front rest : List Element) → empty_put f v ≡ Ok ts → elements_of ts ≡ Some front
      → Clear f.blocks rest → empty_get f (front ++ rest) ≡ Some (v, rest)
  empty_again ok v ts front rest e h k =
      bind_is (f.get (front ++ rest)) empty_with (unless_empty v, rest) (Some (v, rest)) (f.again ok (unless_empty v) ts front rest e h k)
      (bind_is (or_empty (unless_empty v)) (λ v. Some (v, rest)) v (Some (v, rest)) (empty_there v) refl)

  pub empty_reads : {B : Type 0} (ss : List Element) (k : List A → List Element → Option B) → f.read ss (empty_then k) ≡ with_fields k (empty_get f ss)
  empty_reads ss k = f.reads ss (empty_then k) ∙ empty_reads_at k (f.get ss)

none_if_empty : {A : Type 0} → unless_empty {A = A} [] ≡ None
unfolding unless_empty
none_if_empty = refl

pub empty_sample : {A : Type 0} (f : FieldsOf (Option (List A))) → f.put None ≡ Ok [] → (v : List A) × (ts : List PlainTree) × (empty_put f v ≡ Ok ts)
empty_sample f e = ([], [], ap f.put none_if_empty ∙ e)

if_empty_at : {A : Type 0} (c : Codec (List A)) (vs : List A) → if_not_empty c vs ≡ if_there c (unless_empty vs)
unfolding unless_empty
if_empty_at c [] = refl
if_empty_at c (v ∷ vs) = refl

pub empty_has : {A : Type 0} (c : Codec (List A)) (vs : List A) → if_not_empty c vs ≡ is_ok (optional_put c (unless_empty vs))
empty_has c vs = if_empty_at c vs ∙ optional_has c (unless_empty vs)

pub beq_exact : (a b : Bool) → (beq a b ≡ true) ↔ (a ≡ b)
beq_exact true true = (λ e. refl, λ e. refl)
beq_exact true false = (λ e. absurd cc, λ e. absurd cc)
beq_exact false true = (λ e. absurd cc, λ e. absurd cc)
beq_exact false false = (λ e. refl, λ e. refl)
