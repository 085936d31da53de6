-- What is issued is octets, where the message and the signature are.
use Rattle.std.specs.Prelude.{◌≡◌, ℕ, zero, suc, ◌+◌, ◌/◌, ◌%◌, ◌<◌, ◌≤◌, ◌==◌, Bool, true, false, cond, nat_lt, List, [], ◌∷◌, ◌++◌, length, Result, Ok, Err, refl}
use Rattle.std.proofs.Common.{◌∙◌, ap, arith, subst, sym}
use Rattle.std.proofs.lemmas.Bool.{lt-ltb, ltb-true}
use Rattle.std.proofs.lemmas.List.Folds.{list_all-append}
use Rattle.asn1_core.specs.Base128.{digits}
use Rattle.asn1_core.specs.Binds.{true_and}
use Rattle.asn1_core.specs.ObjectIdentifiers.{object_identifier_contents}
use Rattle.der_tree.specs.AnyElement.{is_one}
use Rattle.der_tree.specs.Element.{Element, element_at, element_octets, identifier_at, identifier_octets, length_at, length_octets, number_octets}
use Rattle.der_tree.specs.Tags.{universal}
use Rattle.der_tree.specs.Tree.{PlainTree}
use Rattle.der_tree.specs.TreeBytes.{bytes, made}
use Rattle.der_tree.specs.declared.error.EncodeError.{EncodeError}
use Rattle.der_tree.specs.laws.Results.{ok_is}
use Rattle.der_tree.proofs.Writing.{bytes_are, eight_digits}
use Rattle.pkix_cert.specs.Algorithms.{algorithm_identifier, algorithm_identifier_fields}
use Rattle.rcgen_certificate.specs.KeyValues.{signature_identifier}
use Rattle.rcgen_certificate.specs.Signed.{IsAssembled}
use Rattle.rcgen_certificate.proofs.TableTrees.{signature_identifier_tree}
use Rattle.rcgen_sign.specs.declared.sign_algo.SignatureAlgorithm.{SignatureAlgorithm}
use Rattle.rcgen_sign.proofs.AlgorithmLemmas.{every}
use Rattle.outcomes.specs.Outcomes.{are_octets, is_octet}
use Rattle.outcomes.proofs.Sealed.{whole_is, whole_node}

joined : (a b : List ℕ) → are_octets a ≡ true → are_octets b ≡ true → are_octets (a ++ b) ≡ true
joined a b h k = list_all-append is_octet a b ∙ true_and (are_octets a) (are_octets b) h k

-- ---- an element

octet : (b : ℕ) → b < 256 → are_octets (b ∷ []) ≡ true
octet b l = rw (lt-ltb b 256 l) refl

one_more : (b : Bool) (high : List ℕ) (d : ℕ) → are_octets high ≡ true → d < 256 → are_octets (cond b [] (high ++ d ∷ [])) ≡ true
one_more true high d h l = refl
one_more false high d h l = joined high (d ∷ []) h (octet d l)

digits_are : (k n : ℕ) → are_octets (digits 256 0 k n) ≡ true
unfolding digits
digits_are zero n = refl
digits_are (suc k) n = one_more (n == 0) (digits 256 0 k (n / 256)) (0 + n % 256) (digits_are k (n / 256)) (omega arith)

by_form : (is_short : Bool) (n : ℕ) (ds : List ℕ) → nat_lt n 128 ≡ is_short → length ds ≤ 8 → are_octets ds ≡ true
    → are_octets (cond is_short (n ∷ []) ((128 + length ds) ∷ ds)) ≡ true
by_form true n ds e l h = let k = ltb-true n 128 e in octet n (omega arith)
by_form false n ds e l h = true_and (nat_lt (128 + length ds) 256) (are_octets ds) (lt-ltb (128 + length ds) 256 (omega arith)) h

lengths_are : (n : ℕ) → are_octets (length_octets n) ≡ true
unfolding length_octets
lengths_are n = by_form (nat_lt n 128) n (number_octets n) refl (eight_digits n) (digits_are 8 n)

element_is : (s : Element) → are_octets (identifier_octets s.tag s.constructed) ≡ true → are_octets s.content ≡ true → are_octets (element_octets s) ≡ true
unfolding element_octets
element_is s h k =
    joined (identifier_octets s.tag s.constructed) (length_octets (length s.content) ++ s.content) h
    (joined (length_octets (length s.content)) s.content (lengths_are (length s.content)) k)

-- ---- an algorithm

abbrev is_tree_of_octets : Result PlainTree EncodeError → Bool
is_tree_of_octets (Ok t) = are_octets (bytes t)
is_tree_of_octets (Err d) = true

abbrev AreOctetsOf : SignatureAlgorithm → Type 0
AreOctetsOf a = is_tree_of_octets (algorithm_identifier.tree_of (signature_identifier a)) ≡ true

each_is : (a : SignatureAlgorithm) → AreOctetsOf a
unfolding algorithm_identifier_fields object_identifier_contents digits element_octets identifier_octets length_octets element_at identifier_at length_at
each_is = every AreOctetsOf refl refl refl refl refl refl refl refl refl refl refl refl refl refl refl refl refl refl refl refl refl

algorithm_is : (a : SignatureAlgorithm) → are_octets (bytes (signature_identifier_tree a).tree) ≡ true
algorithm_is a = subst (λ (r : Result PlainTree EncodeError). is_tree_of_octets r ≡ true) (signature_identifier_tree a).is_tree (each_is a)

-- ---- all of it

whole_are : (m : List ℕ) (a : SignatureAlgorithm) (s : List ℕ) → are_octets m ≡ true → are_octets s ≡ true → are_octets (bytes (whole_node m a s)) ≡ true
unfolding identifier_octets
whole_are m a s h k =
    let algorithm = bytes (signature_identifier_tree a).tree in
    let signature = made (universal 3) false (0 ∷ s) in
    let rest = algorithm ++ (element_octets signature ++ []) in
    element_is (made (universal 16) true (m ++ rest)) refl
    (joined m rest h (joined algorithm (element_octets signature ++ []) (algorithm_is a)
    (joined (element_octets signature) [] (element_is signature refl k) refl)))

pub octets_assembled : (m : List ℕ) (a : SignatureAlgorithm) (s der : List ℕ) → is_one m ≡ true → are_octets m ≡ true → are_octets s ≡ true
    → IsAssembled m a s der → are_octets der ≡ true
octets_assembled m a s der one h k d =
    let same = ok_is (whole_node m a s) d.0 (sym (whole_is m a s one) ∙ d.2) in
    subst (λ (b : List ℕ). are_octets b ≡ true) (ap bytes same ∙ bytes_are d.0 d.1 d.3 ∙ sym d.4) (whole_are m a s h k)
