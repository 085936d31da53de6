-- The forms of required fields come one after the other in the contents of their SEQUENCE.
use Rattle.std.specs.Prelude.{◌≡◌, ℕ, true, List, [], ◌∷◌, ◌++◌, Some, Result, Ok, refl}
use Rattle.std.specs.List.{flat_map}
use Rattle.std.proofs.Common.{sym, ap, ◌∙◌}
use Rattle.std.proofs.lemmas.List.{append-nil}
use Rattle.asn1_core.specs.Bits.{Bits}
use Rattle.asn1_core.specs.declared.tag.Tag.{Tag}
use Rattle.der_tree.specs.declared.error.EncodeError.{EncodeError}
use Rattle.der_tree.specs.Codec.{Codec, FieldsOf}
use Rattle.der_tree.specs.Element.{Element, element_octets}
use Rattle.der_tree.specs.Fields.{required_put}
use Rattle.der_tree.specs.Form.{IsDerOf}
use Rattle.der_tree.specs.Grammar.{required, ◌&◌, ◌⊗◌}
use Rattle.der_tree.specs.PrimitiveTypes.{bit_string}
use Rattle.der_tree.specs.Results.{ok_then}
use Rattle.der_tree.specs.Sequence.{node_of}
use Rattle.der_tree.specs.Tags.{universal}
use Rattle.der_tree.specs.Tree.{PlainTree, node, row}
use Rattle.der_tree.specs.TreeElement.{checked, element_of, elements_of}
use Rattle.der_tree.specs.laws.Results.{ok_is, ok_then_ok}
use Rattle.der_tree.specs.laws.TreeElement.{checked_some, elements_of_split, one_tree_is}
use Rattle.asn1_core.specs.Binds.{bind_some}
use Rattle.pkix_cert.specs.Algorithms.{algorithm_identifier}
use Rattle.pkix_cert.specs.Signed.{HasParts}
use Rattle.pkix_cert.specs.declared.algorithm.AlgorithmIdentifier.{AlgorithmIdentifier}

abbrev contents_of : List Element → List ℕ
contents_of ss = flat_map element_octets ss

abbrev around : Tag → List ℕ → Element
around g b = record { tag = g; constructed = true; content = b }

abbrev signed_put : {A : Type 0} → Codec A → A → AlgorithmIdentifier → Bits → Result (List PlainTree) EncodeError
signed_put c message algorithm signature = (required c & required algorithm_identifier & required bit_string).put (message ⊗ algorithm ⊗ signature)

-- a required field that is the last
last_part : {A : Type 0} (c : Codec A) (x : A) (ts : List PlainTree) (ss : List Element) → required_put c x ≡ Ok ts → elements_of ts ≡ Some ss
    → (form : List ℕ) × IsDerOf c x form × (contents_of ss ≡ form)
last_part c x ts ss e h =
    let t = ok_then_ok (c.tree_of x) (λ t. Ok (t ∷ [])) ts e in
    let s = one_tree_is t.0 ss (ap elements_of (ok_is (t.0 ∷ []) ts t.2) ∙ h) in
    (element_octets s.0, (t.0, s.0, t.1, s.1, refl), ap contents_of (sym s.2) ∙ append-nil (element_octets s.0))

-- a required field, and what the fields after it are
first_part : {A B : Type 0} (c : Codec A) (f : FieldsOf B) (x : A) (y : B) (ts : List PlainTree) (ss : List Element)
    → (required c & f).put (x ⊗ y) ≡ Ok ts → elements_of ts ≡ Some ss
    → (form : List ℕ) × (us : List PlainTree) × (rest : List Element)
    × IsDerOf c x form × (f.put y ≡ Ok us) × (elements_of us ≡ Some rest) × (contents_of ss ≡ form ++ contents_of rest)
first_part c f x y ts ss e h =
    let p = ok_then_ok (required_put c x) (λ a. ok_then (f.put y) (λ b. Ok (a ++ b))) ts e in
    let q = ok_then_ok (f.put y) (λ b. Ok (p.0 ++ b)) ts p.2 in
    let t = ok_then_ok (c.tree_of x) (λ t. Ok (t ∷ [])) p.0 p.1 in
    let s = elements_of_split p.0 q.0 ss (ap elements_of (ok_is (p.0 ++ q.0) ts q.2) ∙ h) in
    let z = one_tree_is t.0 s.0 (ap elements_of (ok_is (t.0 ∷ []) p.0 t.2) ∙ s.2) in
    (element_octets z.0, q.0, s.1, (t.0, z.0, t.1, z.1, refl), q.1, s.3, ap contents_of (s.4 ∙ ap (λ (x : List Element). x ++ s.1) (sym z.2)))

-- the element of a node around trees
node_element : (g : Tag) (r : Result (List PlainTree) EncodeError) (t : PlainTree) (s : Element) → node_of g r ≡ Ok t → element_of t ≡ Some s
    → (ts : List PlainTree) × (ss : List Element) × (r ≡ Ok ts) × (elements_of ts ≡ Some ss) × (s ≡ around g (contents_of ss))
node_element g r t s e h =
    let x = ok_then_ok r (λ ts. Ok (node g (row ts))) t e in
    let y = bind_some (elements_of x.0) (λ ss. checked (around g (contents_of ss))) s
    (ap element_of (ok_is (node g (row x.0)) t x.2) ∙ h) in
    (x.0, y.0, x.1, y.1, sym (checked_some (around g (contents_of y.0)) s y.2))

pub signed_parts : {A : Type 0} (c : Codec A) (message : A) (algorithm : AlgorithmIdentifier) (signature : Bits) (octets : List ℕ)
    → (t : PlainTree) (s : Element) → node_of (universal 16) (signed_put c message algorithm signature) ≡ Ok t → element_of t ≡ Some s
    → octets ≡ element_octets s → HasParts c message algorithm signature octets
signed_parts c message algorithm signature octets t s e h w =
    let n = node_element (universal 16) (signed_put c message algorithm signature) t s e h in
    let a = first_part c (required algorithm_identifier & required bit_string) message (algorithm ⊗ signature) n.0 n.1 n.2 n.3 in
    let b = first_part algorithm_identifier (required bit_string) algorithm signature a.1 a.2 a.4 a.5 in
    let d = last_part bit_string signature b.1 b.2 b.4 b.5 in
    record {
      first = a.0;
      second = b.0;
      third = d.0;
      message_form = a.3;
      algorithm_form = b.3;
      signature_form = d.1;
      whole = w ∙ ap element_octets (n.4 ∙ ap (around (universal 16))
          (a.6 ∙ ap (λ (x : List ℕ). a.0 ++ x) (b.6 ∙ ap (λ (x : List ℕ). b.0 ++ x) d.2)));
    }
