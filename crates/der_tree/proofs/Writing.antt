-- Digits, elements and trees, written after other bytes.
use Rattle.std.specs.Prelude.{◌≡◌, ℕ, zero, suc, ◌+◌, ◌/◌, ◌%◌, ◌^◌, ◌*◌, ◌<◌, ◌≤◌, Bool, true, false, ◌&&◌, cond, ◌==◌, List, [], ◌∷◌, ◌++◌, length, Some, is_some, Option, None, refl}
use Rattle.std.specs.List.{flat_map}
use Rattle.std.proofs.Common.{sym, ap, ◌∙◌, subst, arith, append_assoc}
use Rattle.std.proofs.lemmas.List.{length-append, append-nil}
use Rattle.asn1_core.specs.declared.tag.Tag.{Tag}
use Rattle.asn1_core.specs.Base128.{digits, digits_zero, digits_suc, digits_more}
use Rattle.asn1_core.specs.Binds.{◌>>=◌, bind_some, some_is}
use Rattle.der_tree.specs.Element.{Element, element_octets, is_encodable}
use Rattle.der_tree.specs.Tree.{PlainTree, PlainTrees, leaf, more, node, none, raw, row}
use Rattle.der_tree.specs.TreeBytes.{bytes, made, row_bytes}
use Rattle.der_tree.specs.TreeElement.{all_raws_are_elements, checked, element_of, elements_of, raws_are_elements, row_elements}
use Rattle.der_tree.specs.laws.Element.{one_element_takes}
use Rattle.der_tree.specs.laws.TreeElement.{checked_some}

below256 : (n p : ℕ) → n < p * 256 → n / 256 < p
below256 n p l = omega arith

-- the last digit, and those before it
pub digits256_last : (n : ℕ) → 0 < n → n < 2 ^ 64 → digits 256 0 8 n ≡ digits 256 0 8 (n / 256) ++ (n % 256) ∷ []
digits256_last n p l =
    let m : n / 256 < 256 ^ 7 = omega arith in
    let z : 0 + n % 256 ≡ n % 256 = omega arith in
    digits_suc 256 0 7 n p ∙ ap (λ (x : List ℕ). x ++ (0 + n % 256) ∷ []) (sym (digits_more 256 0 below256 7 (n / 256) m)) ∙ ap (λ (x : ℕ). digits 256 0 8 (n / 256) ++ x ∷ []) z

-- a digit after those before it
pub digits256_behind : (front : List ℕ) (n : ℕ) → 0 < n → n < 2 ^ 64 → (front ++ digits 256 0 8 (n / 256)) ++ (n % 256) ∷ [] ≡ front ++ digits 256 0 8 n
digits256_behind front n p l = append_assoc front (digits 256 0 8 (n / 256)) ((n % 256) ∷ []) ∙ ap (λ (x : List ℕ). front ++ x) (sym (digits256_last n p l))

pub digits256_end : (front : List ℕ) (n : ℕ) → n ≡ 0 → front ++ digits 256 0 8 n ≡ front
digits256_end front n e = ap (λ (x : ℕ). front ++ digits 256 0 8 x) e ∙ ap (λ (x : List ℕ). front ++ x) (digits_zero 256 0 8) ∙ append-nil front

pub digits256_length : (n : ℕ) → 0 < n → n < 2 ^ 64 → length (digits 256 0 8 n) ≡ length (digits 256 0 8 (n / 256)) + 1
digits256_length n p l = ap length (digits256_last n p l) ∙ length-append (digits 256 0 8 (n / 256)) ((n % 256) ∷ [])

pub no_digits : (n : ℕ) → n ≡ 0 → length (digits 256 0 8 n) ≡ 0
no_digits n e = ap (λ (x : ℕ). length (digits 256 0 8 x)) e ∙ ap length (digits_zero 256 0 8)

count_step : (b : Bool) (xs : List ℕ) (x k : ℕ) → length xs ≤ k → length (cond b [] (xs ++ x ∷ [])) ≤ suc k
count_step true xs x k l = omega arith
count_step false xs x k l = omega (arith, length-append xs (x ∷ []))

pub digits_count : (base mark k n : ℕ) → length (digits base mark k n) ≤ k
unfolding digits
digits_count base mark zero n = omega arith
digits_count base mark (suc k) n = count_step (n == 0) (digits base mark k (n / base)) (mark + n % base) k (digits_count base mark k (n / base))

pub eight_digits : (n : ℕ) → length (digits 256 0 8 n) ≤ 8
eight_digits n = digits_count 256 0 8 n

pub ruleset putting = (digits256_behind, digits256_end, digits256_length, no_digits, length-append)

pub ruleset counting = (no_digits, digits256_length, eight_digits, length-append)

-- the bytes of a tree are those of the element that it is
mutual
  pub bytes_are : (t : PlainTree) (s : Element) → element_of t ≡ Some s → bytes t ≡ element_octets s
  bytes_are (leaf t b) s e = ap element_octets (checked_some (made t false b) s e)
  bytes_are (node t k) s e =
      let x = bind_some (row_elements k) (λ ss. checked (made t true (flat_map element_octets ss))) s e in
      ap (λ (b : List ℕ). element_octets (made t true b)) (row_bytes_are k x.0 x.1) ∙ ap element_octets (checked_some (made t true (flat_map element_octets x.0)) s x.2)
  bytes_are (raw b) s e = (one_element_takes b s e).0

  pub row_bytes_are : (k : PlainTrees) (ss : List Element) → row_elements k ≡ Some ss → row_bytes k ≡ flat_map element_octets ss
  row_bytes_are none ss e = ap (flat_map element_octets) (some_is [] ss e)
  row_bytes_are (more t k) ss e =
      let x = bind_some (element_of t) (λ s. row_elements k >>= λ ss. Some (s ∷ ss)) ss e in
      let y = bind_some (row_elements k) (λ ss. Some (x.0 ∷ ss)) ss x.2 in
      ap (λ (z : List ℕ). z ++ row_bytes k) (bytes_are t x.0 x.1) ∙ ap (λ (z : List ℕ). element_octets x.0 ++ z) (row_bytes_are k y.0 y.1) ∙ ap (flat_map element_octets) (some_is (x.0 ∷ y.0) ss y.2)

-- the trees are elements where each raw in them is one
abbrev pub AreElements : List PlainTree → Type 0
AreElements ts = is_some (elements_of ts) ≡ all_raws_are_elements ts

both_some : (o : Option Element) (p : Option (List Element)) → is_some (o >>= λ s. p >>= λ ss. Some (s ∷ ss)) ≡ (is_some o && is_some p)
both_some None p = refl
both_some (Some s) None = refl
both_some (Some s) (Some ss) = refl

pub elements_more : (t : PlainTree) (ts : List PlainTree) → is_some (element_of t) ≡ raws_are_elements t → AreElements ts → AreElements (t ∷ ts)
elements_more t ts h k =
    both_some (element_of t) (elements_of ts) ∙ ap (λ (b : Bool). b && is_some (elements_of ts)) h ∙ ap (λ (b : Bool). raws_are_elements t && b) k

node_at : (g : Tag) (k : PlainTrees) (r : Bool) (o : Option (List Element)) → is_encodable (made g true (row_bytes k)) ≡ true → row_elements k ≡ o → is_some o ≡ r → is_some (o >>= λ ss. checked (made g true (flat_map element_octets ss))) ≡ r
node_at g k r None h e p = p
node_at g k r (Some ss) h e p =
    let q : is_encodable (made g true (flat_map element_octets ss)) ≡ true = subst (λ (b : List ℕ). is_encodable (made g true b) ≡ true) (row_bytes_are k ss e) h in
    rw q p

-- a node is an element where its children are and its contents are fewer than 2 ^ 64 bytes
pub node_is : (g : Tag) (ts : List PlainTree) → is_encodable (made g true (row_bytes (row ts))) ≡ true → AreElements ts → is_some (element_of (node g (row ts))) ≡ raws_are_elements (node g (row ts))
node_is g ts h p = node_at g (row ts) (all_raws_are_elements ts) (elements_of ts) h refl p
