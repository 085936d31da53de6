-- What is issued over a message with a signature exists.
use Rattle.std.specs.Prelude.{◌≡◌, ℕ, ◌+◌, ◌<◌, ◌^◌, true, List, [], ◌∷◌, length, Ok, refl}
use Rattle.std.proofs.Common.{arith}
use Rattle.asn1_core.specs.Bits.{bit_string_contents, bits}
use Rattle.der_tree.specs.AnyElement.{is_one}
use Rattle.der_tree.specs.Grammar.{any, required, ◌&◌}
use Rattle.der_tree.specs.PrimitiveTypes.{bit_string}
use Rattle.der_tree.specs.Tags.{universal}
use Rattle.der_tree.specs.Tree.{PlainTree, leaf, node, raw, row}
use Rattle.pkix_cert.specs.Algorithms.{algorithm_identifier}
use Rattle.rcgen_certificate.specs.KeyValues.{signature_identifier}
use Rattle.rcgen_certificate.specs.Signed.{IsAssembled, SignedValue, signed, signed_fields, signed_value}
use Rattle.rcgen_certificate.proofs.TableTrees.{signature_identifier_tree}
use Rattle.rcgen_certificate.proofs.Trees.{TreeOf, form_there}
use Rattle.rcgen_sign.specs.declared.sign_algo.SignatureAlgorithm.{SignatureAlgorithm}
use Rattle.rcgen_sign.proofs.AlgorithmLemmas.{no_unused}
use Rattle.outcomes.proofs.Rows.{algorithm_within}
use Rattle.outcomes.proofs.Within.{Within, any_within, bits_within, field, fields_both, in_sequence}

abbrev pub whole_value : List ℕ → SignatureAlgorithm → List ℕ → SignedValue (List ℕ)
whole_value m a s = signed_value m (signature_identifier a) (bits 0 s)

abbrev pub whole_node : List ℕ → SignatureAlgorithm → List ℕ → PlainTree
whole_node m a s = node (universal 16) (row (raw m ∷ (signature_identifier_tree a).tree ∷ leaf (universal 3) (0 ∷ s) ∷ []))

pub whole_is : (m : List ℕ) (a : SignatureAlgorithm) (s : List ℕ) → is_one m ≡ true → (signed any).tree_of (whole_value m a s) ≡ Ok (whole_node m a s)
unfolding signed_fields bit_string_contents
whole_is m a s one = rw (one, (signature_identifier_tree a).is_tree, no_unused s) refl

whole_tree : (m : List ℕ) (a : SignatureAlgorithm) (s : List ℕ) → is_one m ≡ true → TreeOf (signed any) (whole_value m a s)
whole_tree m a s one = record { tree = whole_node m a s; is_tree = whole_is m a s one; tags = rw (signature_identifier_tree a).tags refl }

whole_within : (m : List ℕ) (a : SignatureAlgorithm) (s : List ℕ) → Within (signed any) (whole_value m a s) (500 + length m + length s)
unfolding signed_fields
whole_within m a s t e =
    let g = signature_identifier a in
    let two = fields_both (required algorithm_identifier) (required bit_string) g (bits 0 s) 400 (21 + length s)
    (field algorithm_identifier g 400 (algorithm_within a)) (field bit_string (bits 0 s) (21 + length s) (bits_within (bits 0 s))) in
    let all = fields_both (required any) (required algorithm_identifier & required bit_string) m (g, bits 0 s) (length m) (400 + (21 + length s))
    (field any m (length m) (any_within m)) two in
    let whole = in_sequence (universal 16) (signed_fields any) (whole_value m a s) (length m + (400 + (21 + length s))) all t e in
    omega arith

pub assembled_there : (m : List ℕ) (a : SignatureAlgorithm) (s : List ℕ) → is_one m ≡ true → length m + length s < 2 ^ 60 → (der : List ℕ) × IsAssembled m a s der
assembled_there m a s one l =
    let tree = whole_tree m a s one in
    form_there (signed any) (whole_value m a s)
    (record { of_value = tree; short = (let b = whole_within m a s tree.tree tree.is_tree in omega arith) })
