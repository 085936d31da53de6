-- The octets that are read, and the tree of the value.
use Rattle.std.specs.Prelude.{List, Ok, Result, Some, false, is_ok, length, pos, refl, true, ℕ, [], ◌++◌, ◌+◌, ◌<◌, ◌^◌, ◌∷◌, ◌≡◌, ◌↔◌}
use Rattle.std.specs.Int.Digits.{AllBelowBase}
use Rattle.std.proofs.Common.{ap, arith, subst, sym, ◌∙◌}
use Rattle.std.proofs.lemmas.List.{append-nil}
use Rattle.asn1_core.specs.Binds.{and_true}
use Rattle.asn1_core.specs.Twos.{integer_contents, is_shortest}
use Rattle.der_tree.specs.declared.error.EncodeError.{EncodeError}
use Rattle.der_tree.specs.Element.{element_octets, identifier_octets}
use Rattle.der_tree.specs.Tags.{universal}
use Rattle.der_tree.specs.Tree.{PlainTree, leaf, node, row}
use Rattle.der_tree.specs.TreeBytes.{bytes, made}
use Rattle.der_tree.specs.laws.Results.{ok_is}
use Rattle.der_tree.proofs.ShortTrees.{element_there}
use Rattle.der_tree.proofs.Writing.{bytes_are}
use Rattle.pkix_alg.specs.Algorithms.{ecdsa_sig_value as sig_value, ecdsa_sig_value_fields}
use Rattle.pkix_alg.specs.declared.algorithms.EcdsaSigValue.{EcdsaSigValue}
use Rattle.ecdsa.specs.Der.{IsInteger, IsSignature, element}
use Rattle.ecdsa.specs.Signature.{ecdsa_sig_value}
use Rattle.ecdsa.proofs.OneForm.{element_octets as octets_from, signature_form}
use Rattle.ecdsa_form.specs.Values.{IsSigValue}
use Rattle.ecdsa_form.proofs.Elements.{back_below, content_below, contents_short, element_before, element_is, element_length, front_below}
use Rattle.ecdsa_form.proofs.Integers.{integer_is, integer_short, natural_is, signed_is}

-- ---- the value's tree

abbrev value_tree : List ℕ → List ℕ → PlainTree
value_tree a b = node (universal 16) (row (leaf (universal 2) a ∷ leaf (universal 2) b ∷ []))

tree_is : (v : EcdsaSigValue) → is_shortest v.r ≡ true → is_shortest v.s ≡ true → sig_value.tree_of v ≡ Ok (value_tree v.r v.s)
unfolding ecdsa_sig_value_fields integer_contents
tree_is v p q = rw (p, q) refl

both_shortest : (v : EcdsaSigValue) (t : PlainTree) → sig_value.tree_of v ≡ Ok t → (is_shortest v.r ≡ true) × (is_shortest v.s ≡ true)
unfolding ecdsa_sig_value_fields
both_shortest v t e =
    and_true (is_shortest v.r) (is_shortest v.s) (sig_value.has_tree_is v ∙ ap (λ (r : Result PlainTree EncodeError). is_ok r) e)

-- ---- its octets

abbrev integer : List ℕ → List ℕ
integer contents = element_octets (made (universal 2) false contents)

abbrev integers : List ℕ → List ℕ → List ℕ
integers a b = integer a ++ (integer b ++ [])

sequence_identifier : identifier_octets (universal 16) true ≡ 0x30 ∷ []
unfolding identifier_octets
sequence_identifier = refl

integer_identifier : identifier_octets (universal 2) false ≡ 0x02 ∷ []
unfolding identifier_octets
integer_identifier = refl

integers_from : (a b : List ℕ) → length a < 256 → length b < 256 → integers a b ≡ octets_from 0x02 a (octets_from 0x02 b [])
integers_from a b la lb =
    element_before (universal 2) false 0x02 a (integer b ++ []) integer_identifier la
    ∙ ap (octets_from 0x02 a) (element_before (universal 2) false 0x02 b [] integer_identifier lb)

integers_are : (a b : List ℕ) → length a < 256 → length b < 256 → integers a b ≡ element 0x02 a ++ element 0x02 b
integers_are a b la lb =
    ap (λ (xs : List ℕ). integer a ++ xs) (append-nil (integer b))
    ∙ ap (λ (xs : List ℕ). xs ++ integer b) (element_is (universal 2) false 0x02 a integer_identifier la)
    ∙ ap (λ (xs : List ℕ). element 0x02 a ++ xs) (element_is (universal 2) false 0x02 b integer_identifier lb)

-- ---- what is read is the value's

pub read_is_value : (octets : List ℕ) (r s : ℕ) → AllBelowBase 256 octets → ecdsa_sig_value octets ≡ Some (r, s) → IsSigValue r s octets
read_is_value octets r s below e =
    let f = signature_form octets r s e in
    let a : List ℕ = f.first.contents in
    let b : List ℕ = f.second.contents in
    let l : length f.body < 256 = contents_short 0x30 octets f.body [] f.form below in
    let la : length a + length f.behind_r < 256 = omega (arith, l, ap length f.first.form, (element_length 0x02 a f.behind_r).0) in
    let lb : length b < 256 = omega (arith, la, ap length f.second.form, (element_length 0x02 b []).0) in
    let body : f.body ≡ integers a b =
    f.first.form ∙ ap (octets_from 0x02 a) f.second.form ∙ sym (integers_from a b (omega arith) (omega arith)) in
    let whole : octets ≡ bytes (value_tree a b) =
    f.form ∙ sym (element_before (universal 16) true 0x30 f.body [] sequence_identifier l)
    ∙ append-nil (element_octets (made (universal 16) true f.body)) ∙ ap (λ (xs : List ℕ). element_octets (made (universal 16) true xs)) body in
    let few : length octets < 2 ^ 64 = omega (arith, ap length f.form, (element_length 0x30 f.body []).1) in
    let p = natural_is a f.first.natural in
    let q = natural_is b f.second.natural in
    let v : EcdsaSigValue = record { r = a; s = b } in
    let x = element_there (value_tree a b) refl refl (subst (λ (xs : List ℕ). length xs < 2 ^ 64) whole few) in
    record {
      value = v;
      r_is = signed_is a p.1 ∙ ap pos f.first.number;
      s_is = signed_is b q.1 ∙ ap pos f.second.number;
      form = (value_tree a b, x.0, tree_is v p.0 q.0, x.1, whole ∙ bytes_are (value_tree a b) x.0 x.1);
    }

-- ---- the value's are read

value_form : (v : EcdsaSigValue) (r s : ℕ) → IsInteger r v.r → IsInteger s v.s → r < 2 ^ 521 → s < 2 ^ 521
    → bytes (value_tree v.r v.s) ≡ element 0x30 (element 0x02 v.r ++ element 0x02 v.s)
value_form v r s hr hs lr ls =
    let a : List ℕ = v.r in
    let b : List ℕ = v.s in
    let la = integer_short a r hr lr in
    let lb = integer_short b s hs ls in
    let e = ap length (integers_from a b (omega arith) (omega arith)) in
    let p = element_length 0x02 a (octets_from 0x02 b []) in
    let q = element_length 0x02 b [] in
    let l : length (integers a b) < 256 = omega (arith, e, p.1, q.1) in
    element_is (universal 16) true 0x30 (integers a b) sequence_identifier l
    ∙ ap (element 0x30) (integers_are a b (omega arith) (omega arith))

pub value_is_read : ((octets : List ℕ) (r s : ℕ) → r < 2 ^ 521 → s < 2 ^ 521 → (ecdsa_sig_value octets ≡ Some (r, s)) ↔ IsSignature r s octets)
    → (octets : List ℕ) (r s : ℕ) → AllBelowBase 256 octets → r < 2 ^ 521 → s < 2 ^ 521 → IsSigValue r s octets → ecdsa_sig_value octets ≡ Some (r, s)
value_is_read exact octets r s below lr ls w =
    let v = w.value in
    let h = w.form in
    let p = both_shortest v h.0 h.2 in
    let tree : h.0 ≡ value_tree v.r v.s = ok_is h.0 (value_tree v.r v.s) (sym h.2 ∙ tree_is v p.0 p.1) in
    let whole : octets ≡ bytes (value_tree v.r v.s) = h.4 ∙ sym (bytes_are h.0 h.1 h.3) ∙ ap bytes tree in
    let inside = content_below (made (universal 16) true (integers v.r v.s)) (subst (λ (xs : List ℕ). AllBelowBase 256 xs) whole below) in
    let first = content_below (made (universal 2) false v.r) (front_below (integer v.r) (integer v.s ++ []) inside) in
    let second = content_below (made (universal 2) false v.s) (front_below (integer v.s) [] (back_below (integer v.r) (integer v.s ++ []) inside)) in
    let r_is = integer_is v.r r first p.0 w.r_is in
    let s_is = integer_is v.s s second p.1 w.s_is in
    (exact octets r s lr ls).1
    (record { r_contents = v.r; s_contents = v.s; r_is = r_is; s_is = s_is; form = whole ∙ value_form v r s r_is s_is lr ls })
