-- Steps of writing, one field at a time.
use Rattle.std.specs.Prelude.{◌≡◌, List, [], ◌++◌, Option, Result, Ok, Err, IsErrAnd}
use Rattle.std.proofs.Common.{sym, ap, ◌∙◌, subst, append_assoc}
use Rattle.std.proofs.lemmas.Result.{err_from_is_err_and}
use Rattle.asn1_core.specs.declared.tag.Tag.{Tag}
use Rattle.der_tree.specs.declared.error.EncodeError.{EncodeError}
use Rattle.der_tree.specs.declared.error.EncodeError.TheVariants.{NotOneElement, SizeOutOfRange, TimeNotCarried, OutOfMemory}
use Rattle.der_tree.specs.declared.tree.Tree.{Tree}
use Rattle.der_tree.specs.Answers.{Encodes, Faults, Puts}
use Rattle.der_tree.specs.Optional.{optional_by}
use Rattle.der_tree.specs.Results.{ok_then}
use Rattle.der_tree.specs.Sequence.{node_of}
use Rattle.der_tree.specs.Tree.{PlainTree, node, row}
use Rattle.der_tree.specs.laws.Results.{ok_is}

-- one field and those after it
abbrev pub one_more : Result (List PlainTree) EncodeError → Result (List PlainTree) EncodeError → Result (List PlainTree) EncodeError
one_more p q = ok_then p (λ x. ok_then q (λ y. Ok (x ++ y)))

-- the trees after those before them
abbrev pub behind : List PlainTree → Result (List PlainTree) EncodeError → Result (List PlainTree) EncodeError
behind old q = ok_then q (λ ts. Ok (old ++ ts))

-- ---- where all is put

more_at : (x : List PlainTree) (q : Result (List PlainTree) EncodeError) (old new : List PlainTree) → behind (old ++ x) q ≡ Ok new → behind old (ok_then q (λ y. Ok (x ++ y))) ≡ Ok new
more_at x (Ok y) old new h = ap (λ (z : List PlainTree). let o : Result (List PlainTree) EncodeError = Ok z in o) (sym (append_assoc old x y)) ∙ h
more_at x (Err e) old new h = absurd cc

pub put_more : (p q : Result (List PlainTree) EncodeError) (old mid new : List PlainTree) → behind old p ≡ Ok mid → behind mid q ≡ Ok new → behind old (one_more p q) ≡ Ok new
put_more (Ok x) q old mid new e h = more_at x q old new (subst (λ (m : List PlainTree). behind m q ≡ Ok new) (sym (ok_is (old ++ x) mid e)) h)
put_more (Err d) q old mid new e h = absurd cc

-- an option under another name
pub put_as : {A : Type 0} (t : A → Result PlainTree EncodeError) (o p : Option A) (old new : List PlainTree) → o ≡ p → behind old (optional_by t o) ≡ Ok new → behind old (optional_by t p) ≡ Ok new
put_as t o p old new e h = subst (λ z. behind old (optional_by t z) ≡ Ok new) e h

written_at : (g : Tag) (q : Result (List PlainTree) EncodeError) (new : List PlainTree) → behind [] q ≡ Ok new → node_of g q ≡ Ok (node g (row new))
written_at g (Ok ts) new e = ap (λ (z : List PlainTree). let o : Result PlainTree EncodeError = Ok (node g (row z)) in o) (ok_is ts new e)
written_at g (Err d) new e = absurd cc

pub written : (g : Tag) (q : Result (List PlainTree) EncodeError) (old new : List PlainTree) → old ≡ [] → behind old q ≡ Ok new → node_of g q ≡ Ok (node g (row new))
written g q old new e h = written_at g q new (subst (λ (o : List PlainTree). behind o q ≡ Ok new) e h)

-- ---- where some field isn't

pub faults_then : {A B : Type 0} (e : EncodeError) (q : Result A EncodeError) (k : A → Result B EncodeError) → Faults e q → Faults e (ok_then q k)
faults_then OutOfMemory q k h = tt
faults_then {A} {B} NotOneElement q k h = ap (λ (z : Result A EncodeError). ok_then z k) h
faults_then {A} {B} SizeOutOfRange q k h = ap (λ (z : Result A EncodeError). ok_then z k) h
faults_then {A} {B} TimeNotCarried q k h = ap (λ (z : Result A EncodeError). ok_then z k) h

pub fault_here : (e : EncodeError) (p q : Result (List PlainTree) EncodeError) → Faults e p → Faults e (one_more p q)
fault_here e p q h = faults_then e p (λ x. ok_then q (λ y. Ok (x ++ y))) h

pub fault_after : (e : EncodeError) (p q : Result (List PlainTree) EncodeError) (old mid : List PlainTree) → behind old p ≡ Ok mid → Faults e q → Faults e (one_more p q)
fault_after e (Ok x) q old mid k h = faults_then e q (λ y. Ok (x ++ y)) h
fault_after e (Err d) q old mid k h = absurd cc

pub fault_as : {A : Type 0} (e : EncodeError) (t : A → Result PlainTree EncodeError) (o p : Option A) → o ≡ p → Faults e (optional_by t o) → Faults e (optional_by t p)
fault_as e t o p k h = subst (λ z. Faults e (optional_by t z)) k h

pub unwritten : (g : Tag) (q : Result (List PlainTree) EncodeError) (e : EncodeError) (r : Result Tree EncodeError) → Faults e q → IsErrAnd r (λ d. d ≡ e) → Encodes r (node_of g q)
unwritten g q e r h p =
    let k = err_from_is_err_and r p in
    subst (λ (r : Result Tree EncodeError). Encodes r (node_of g q)) (sym k.1) (subst (λ (d : EncodeError). Encodes (Err d) (node_of g q)) (sym k.2) (faults_then e q (λ ts. Ok (node g (row ts))) h))

-- the same of fields alone
pub unput : (q : Result (List PlainTree) EncodeError) (old new : List PlainTree) (e : EncodeError) (r : Result (Unit {0}) EncodeError) → Faults e q → IsErrAnd r (λ d. d ≡ e) → Puts r old new q
unput q old new e r h p =
    let k = err_from_is_err_and r p in
    subst (λ (r : Result (Unit {0}) EncodeError). Puts r old new q) (sym k.1) (subst (λ (d : EncodeError). Faults d q) (sym k.2) h)
