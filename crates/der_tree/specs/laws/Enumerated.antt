-- The laws of ENUMERATED types.
use Rattle.std.specs.Prelude.{Bool, List, Ok, Some, cond, false, nat_lt, refl, true, ℕ, [], ◌==◌, ◌^◌, ◌∷◌, ◌≡◌}
use Rattle.std.specs.Int.Digits.{digits_of}
use Rattle.std.proofs.Common.{ap, sym, ◌∙◌}
use Rattle.std.proofs.lemmas.Bool.{eqb-true}
use Rattle.asn1_core.specs.Binds.{bind_is, bind_some, some_is}
use Rattle.asn1_core.specs.Tags.{universal}
use Rattle.asn1_core.specs.Twos.{unsigned}
use Rattle.asn1_core.specs.Unsigned.{unsigned_64_contents}
use Rattle.der_tree.specs.declared.error.EncodeError.TheVariants.{SizeOutOfRange}
use Rattle.der_tree.specs.Codec.{HasTag}
use Rattle.der_tree.specs.Element.{Element, is_encodable}
use Rattle.der_tree.specs.Enumerated.{enumerated_read_of, enumerated_tree_of, value_numbered}
use Rattle.der_tree.specs.Primitive.{or_fault}
use Rattle.der_tree.specs.PrimitiveTypes.{enumerated_number}
use Rattle.der_tree.specs.Tree.{PlainTree, leaf}
use Rattle.der_tree.specs.TreeElement.{element_of}
use Rattle.der_tree.specs.laws.Results.{ok_then_is}

value_numbered_at : {A : Type 0} (number : A → ℕ) (v : A) (vs : List A) (n : ℕ) (w : A) (b : Bool) → (n == number v) ≡ b
    → cond b (Some v) (value_numbered number vs n) ≡ Some w
    → (value_numbered number vs n ≡ Some w → number w ≡ n) → number w ≡ n
value_numbered_at number v vs n w true e f h = ap number (sym (some_is v w f)) ∙ sym (eqb-true n (number v) e)
value_numbered_at number v vs n w false e f h = h f

-- the value that is found has the number
value_numbered_is : {A : Type 0} (number : A → ℕ) (vs : List A) (n : ℕ) (w : A) → value_numbered number vs n ≡ Some w → number w ≡ n
value_numbered_is number [] n w f = absurd cc
value_numbered_is number (v ∷ vs) n w f = value_numbered_at number v vs n w (n == number v) refl f (value_numbered_is number vs n w)

contents_there : (n : ℕ) → nat_lt n (2 ^ 64) ≡ true → (b : List ℕ) × (unsigned_64_contents.to n ≡ Some b)
unfolding unsigned_64_contents
contents_there n h = (unsigned (digits_of 256 n), rw h refl)

module _ {A : Type 0} (number : A → ℕ) (values : List A) where
  pub enumerated_takes : (s : Element) (v : A) → is_encodable s ≡ true → enumerated_read_of number values s ≡ Some v
      → (t : PlainTree) × (enumerated_tree_of number values v ≡ Ok t) × (element_of t ≡ Some s)
  enumerated_takes s v h e =
      let x = bind_some (enumerated_number.read_of s) (value_numbered number values) v e in
      let r = enumerated_number.takes s x.0 h x.1 in
      (r.0, ap enumerated_number.tree_of (value_numbered_is number values x.0 v x.2) ∙ r.1, r.2)

  pub enumerated_again : ((v : A) → value_numbered number values (number v) ≡ Some v) → (v : A) (t : PlainTree) (s : Element)
      → enumerated_tree_of number values v ≡ Ok t → element_of t ≡ Some s → enumerated_read_of number values s ≡ Some v
  enumerated_again there v t s e f =
      bind_is (enumerated_number.read_of s) (value_numbered number values) (number v) (Some v) (enumerated_number.again (number v) t s e f) (there v)

  pub enumerated_tagged : (v : A) (t : PlainTree) → enumerated_tree_of number values v ≡ Ok t → HasTag (universal 10) t
  enumerated_tagged v t e = enumerated_number.tagged (number v) t e

  pub enumerated_sample : (v : A) → nat_lt (number v) (2 ^ 64) ≡ true → (v : A) × (t : PlainTree) × (enumerated_tree_of number values v ≡ Ok t)
  enumerated_sample v h =
      let b = contents_there (number v) h in (
        v,
        leaf (universal 10) b.0,
        ok_then_is (or_fault SizeOutOfRange (unsigned_64_contents.to (number v))) (λ b. Ok (leaf (universal 10) b)) b.0
            (Ok (leaf (universal 10) b.0)) (ap (or_fault SizeOutOfRange) b.1) refl,
      )
