-- Signed octets that are unchanged in what is issued: the form of a value is one element, and the whole is the form of
-- that value, its algorithm and its signature.
use Rattle.std.specs.Prelude.{◌≡◌, ℕ, true, List, [], ◌∷◌, ◌++◌, Result, Some, Ok, refl}
use Rattle.std.proofs.Common.{sym, ap, ◌∙◌}
use Rattle.asn1_core.specs.Bits.{Bits}
use Rattle.asn1_core.specs.Tags.{universal}
use Rattle.asn1_core.specs.declared.tag.Tag.{Tag}
use Rattle.der_tree.proofs.HasTreeLaws.{fault_is_memory}
use Rattle.der_tree.proofs.Putting.{one_more}
use Rattle.der_tree.specs.AnyElement.{any_tree_of, is_one}
use Rattle.der_tree.specs.Answers.{Faults}
use Rattle.der_tree.specs.Codec.{Codec}
use Rattle.der_tree.specs.Element.{Element, one_element}
use Rattle.der_tree.specs.Fields.{required_put}
use Rattle.der_tree.specs.Form.{IsDerOf}
use Rattle.der_tree.specs.Grammar.{any}
use Rattle.der_tree.specs.HasTree.{HasTree}
use Rattle.der_tree.specs.PrimitiveTypes.{bit_string}
use Rattle.der_tree.specs.Results.{ok_then}
use Rattle.der_tree.specs.Sequence.{node_of}
use Rattle.der_tree.specs.Tree.{PlainTree, node, raw, row}
use Rattle.der_tree.specs.TreeElement.{element_of}
use Rattle.der_tree.specs.declared.error.EncodeError.{EncodeError}
use Rattle.der_tree.specs.declared.error.EncodeError.TheVariants.{NotOneElement, OutOfMemory}
use Rattle.der_tree.specs.laws.Element.{one_element_again}
use Rattle.der_tree.specs.laws.Results.{ok_chosen, ok_is, ok_then_ok}
use Rattle.der_tree.specs.laws.TreeElement.{element_of_encodable}
use Rattle.pkix_cert.specs.Algorithms.{algorithm_identifier}
use Rattle.pkix_cert.specs.declared.algorithm.AlgorithmIdentifier.{AlgorithmIdentifier}
use Rattle.rcgen_certificate.specs.Signed.{signed, signed_fields, signed_value}

-- the octets of a form are the element that the value's tree is
same_element : {A : Type 0} (c : Codec A) (v : A) (b : List ℕ) → (h : IsDerOf c v b) → one_element b ≡ Some h.1
same_element c v b h = ap one_element h.4 ∙ one_element_again h.1 (element_of_encodable h.0 h.1 h.3)

-- a form is one element
pub form_is_one : {A : Type 0} (c : Codec A) (v : A) (b : List ℕ) → IsDerOf c v b → is_one b ≡ true
form_is_one c v b h = let one = same_element c v b h in rw one refl

-- nodes whose first trees are the same element and whose other trees are the same are the same element
same_node : (g : Tag) (t u : PlainTree) (ts : List PlainTree) → element_of t ≡ element_of u → element_of (node g (row (t ∷ ts))) ≡ element_of (node g (row (u ∷ ts)))
same_node g t u ts e = rw e refl

put_first : {A : Type 0} (c : Codec A) (g : Tag) (q : Result (List PlainTree) EncodeError) (v : A) (t : PlainTree) (ts : List PlainTree) → c.tree_of v ≡ Ok t → q ≡ Ok ts
    → node_of g (one_more (required_put c v) q) ≡ Ok (node g (row (t ∷ ts)))
put_first c g q v t ts e f = rw (e, f) refl

-- the form of a value before other fields, in place of the value's own tree
in_place : {A : Type 0} (c : Codec A) (g : Tag) (q : Result (List PlainTree) EncodeError) (v : A) (b : List ℕ) (t : PlainTree) (s : Element) → IsDerOf c v b
    → node_of g (one_more (required_put any b) q) ≡ Ok t → element_of t ≡ Some s
    → (u : PlainTree) × (node_of g (one_more (required_put c v) q) ≡ Ok u) × (element_of u ≡ Some s)
in_place c g q v b t s h e f =
    let all = ok_then_ok (one_more (required_put any b) q) (λ ts. Ok (node g (row ts))) t e in
    let first = ok_then_ok (required_put any b) (λ x. ok_then q (λ y. Ok (x ++ y))) all.0 all.1 in
    let others = ok_then_ok q (λ y. Ok (first.0 ++ y)) all.0 first.2 in
    let one = same_element c v b h in
    let tree = ok_then_ok (any_tree_of b) (λ x. Ok (x ∷ [])) first.0 first.1 in
    let octets : raw b ∷ [] ≡ first.0 =
    ap (λ (x : PlainTree). x ∷ []) (ok_chosen (is_one b) (raw b) tree.0 NotOneElement tree.1).1 ∙ ok_is (tree.0 ∷ []) first.0 tree.2 in
    let is : node g (row (raw b ∷ others.0)) ≡ t =
    ap (λ (x : List PlainTree). node g (row (x ++ others.0))) octets ∙ ap (λ (x : List PlainTree). node g (row x)) (ok_is (first.0 ++ others.0) all.0 others.2)
    ∙ ok_is (node g (row all.0)) t all.2 in
    (node g (row (h.0 ∷ others.0)), put_first c g q v h.0 others.0 h.2 others.1, same_node g h.0 (raw b) others.0 (h.3 ∙ sym one) ∙ ap element_of is ∙ f)

-- where the octets are one element and the algorithm and the signature have trees, the only fault is lack of memory
pub only_memory : (b : List ℕ) (a : AlgorithmIdentifier) (s : Bits) (e : EncodeError) → is_one b ≡ true → HasTree algorithm_identifier a → HasTree bit_string s
    → Faults e ((signed any).tree_of (signed_value b a s)) → e ≡ OutOfMemory
unfolding signed_fields
only_memory b a s e one h k f = fault_is_memory (signed any) (signed_value b a s) e (rw (one, h, k) refl) f

-- b is the form of v: what is the form of b, taken for an element of any type, with an algorithm and a signature is the form of v with them
pub stands_as_it_is : {A : Type 0} (c : Codec A) (v : A) (a : AlgorithmIdentifier) (s : Bits) (b der : List ℕ) → IsDerOf c v b
    → IsDerOf (signed any) (signed_value b a s) der → IsDerOf (signed c) (signed_value v a s) der
unfolding signed_fields
stands_as_it_is c v a s b der h k =
    let u = in_place c (universal 16) (one_more (required_put algorithm_identifier a) (required_put bit_string s)) v b k.0 k.1 h k.2 k.3 in
    (u.0, k.1, u.1, u.2, k.4)
