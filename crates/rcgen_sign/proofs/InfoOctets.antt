-- The octets of a key's info.
use Rattle.std.specs.Prelude.{◌≡◌, ℕ, ◌^◌, ◌<◌, true, false, ◌&&◌, nat_lt, List, [], ◌∷◌, ◌++◌, length, Some, Ok, refl}
use Rattle.std.specs.List.{flat_map}
use Rattle.std.proofs.Common.{sym, ap, ◌∙◌, subst, arith}
use Rattle.std.proofs.lemmas.Bool.{lt-ltb, ltb-true}
use Rattle.std.proofs.lemmas.List.{append-nil, length-append}
use Rattle.asn1_core.specs.Binds.{bind_is, true_and}
use Rattle.asn1_core.specs.Bits.{bit_string_contents}
use Rattle.der_tree.specs.Element.{Element, element_octets}
use Rattle.der_tree.specs.Form.{IsDerOf}
use Rattle.der_tree.specs.Tags.{universal}
use Rattle.der_tree.specs.Tree.{PlainTree, leaf, node, row}
use Rattle.der_tree.specs.TreeBytes.{bytes, made}
use Rattle.der_tree.specs.TreeElement.{checked, row_elements}
use Rattle.der_tree.specs.laws.Results.{ok_is}
use Rattle.der_tree.specs.laws.TreeElement.{checked_encodable}
use Rattle.der_tree.proofs.Writing.{bytes_are}
use Rattle.rcgen_sign.specs.declared.key_info.KeyInfo.{KeyInfo}
use Rattle.rcgen_sign.specs.declared.sign_algo.SignatureAlgorithm.{SignatureAlgorithm}
use Rattle.rcgen_sign.specs.Algorithms.{key_algorithm_value, key_element}
use Rattle.rcgen_sign.specs.KeyInfos.{key_algorithm, key_info, key_info_fields}
use Rattle.rcgen_sign.specs.Keys.{Key, key_info_octets, key_info_value}
use Rattle.rcgen_sign.proofs.AlgorithmLemmas.{elements, every, no_unused}
use Rattle.rcgen_sign.proofs.ElementCounts.{element_octets_count}

-- the key's octets as a BIT STRING
abbrev key_bits : Key → Element
key_bits k = made (universal 3) false (0 ∷ k.octets)

abbrev info_node : Key → PlainTree → PlainTree
info_node k algorithm = node (universal 16) (row (algorithm ∷ leaf (universal 3) (0 ∷ k.octets) ∷ []))

info_tree : (k : Key) (t : PlainTree) → key_algorithm.tree_of (key_algorithm_value k.algorithm) ≡ Ok t
    → key_info.tree_of (key_info_value k) ≡ Ok (info_node k t)
unfolding key_info_fields bit_string_contents
info_tree k t e = rw (e, no_unused k.octets) refl

-- the contents, as those of the parts
parts : (k : Key) (front : List ℕ) → key_element k.algorithm ≡ front
    → (key_element k.algorithm ++ element_octets (key_bits k)) ≡ (front ++ (element_octets (key_bits k) ++ []))
parts k front e =
    ap (λ (x : List ℕ). x ++ element_octets (key_bits k)) e
    ∙ ap (λ (x : List ℕ). front ++ x) (sym (append-nil (element_octets (key_bits k))))

pub octets_are : (k : Key) (b : List ℕ) → IsDerOf key_info (key_info_value k) b → b ≡ key_info_octets k
octets_are k b h =
    let a = elements k.algorithm in
    let same : h.0 ≡ info_node k a.0 = ok_is h.0 (info_node k a.0) (sym h.2 ∙ info_tree k a.0 a.2) in
    let front : key_element k.algorithm ≡ bytes a.0 = a.4 ∙ sym (bytes_are a.0 a.1 a.3) in
    h.4 ∙ sym (bytes_are h.0 h.1 h.3) ∙ ap bytes same
    ∙ sym (ap (λ (x : List ℕ). element_octets (made (universal 16) true x)) (parts k (bytes a.0) front))

-- a value that is known by an equation
pub octets_of : (k : Key) (i : KeyInfo) (b : List ℕ) → i ≡ key_info_value k → IsDerOf key_info i b → b ≡ key_info_octets k
octets_of k i b e h = octets_are k b (subst (λ (x : KeyInfo). IsDerOf key_info x b) e h)

key_element_short : (a : SignatureAlgorithm) → nat_lt (length (key_element a)) 100 ≡ true
key_element_short =
    every (λ a. nat_lt (length (key_element a)) 100 ≡ true) refl refl refl refl refl refl refl refl refl refl refl refl refl refl refl refl refl refl refl refl refl

is_held : (g n : ℕ) → nat_lt g (2 ^ 32) ≡ true → n < 2 ^ 64 → (nat_lt g (2 ^ 32) && nat_lt n (2 ^ 64)) ≡ true
is_held g n h l = true_and (nat_lt g (2 ^ 32)) (nat_lt n (2 ^ 64)) h (lt-ltb n (2 ^ 64) l)

pub octets_there : (k : Key) → length k.octets < 2 ^ 63 → IsDerOf key_info (key_info_value k) (key_info_octets k)
octets_there k l =
    let a = elements k.algorithm in
    let ss : List Element = a.1 ∷ key_bits k ∷ [] in
    let s : Element = made (universal 16) true (flat_map element_octets ss) in
    let same = parts k (element_octets a.1) a.4 in
    let short : length (key_element k.algorithm) < 100 = ltb-true (length (key_element k.algorithm)) 100 (key_element_short k.algorithm) in
    let bits : checked (key_bits k) ≡ Some (key_bits k) = checked_encodable (key_bits k) (is_held 3 (length (0 ∷ k.octets)) refl (omega arith)) in
    let count : length (flat_map element_octets ss) < 2 ^ 64 =
    omega (
      arith,
      ap length same,
      length-append (key_element k.algorithm) (element_octets (key_bits k)),
      element_octets_count (key_bits k),
      short,
    ) in
    let rows : row_elements (row (a.0 ∷ leaf (universal 3) (0 ∷ k.octets) ∷ [])) ≡ Some ss = rw (a.3, bits) refl in (
      info_node k a.0,
      s,
      info_tree k a.0 a.2,
      bind_is (row_elements (row (a.0 ∷ leaf (universal 3) (0 ∷ k.octets) ∷ []))) (λ xs. checked (made (universal 16) true (flat_map element_octets xs))) ss
          (Some s) rows (checked_encodable s (is_held 16 (length s.content) refl count)),
      ap (λ (x : List ℕ). element_octets (made (universal 16) true x)) same,
    )
