-- What is put together for a certificate has a tree.
use Rattle.std.specs.Prelude.{◌≡◌, ℕ, true, List, Some, refl, pos, int_le, ℤ, ◌≤ℤ◌}
use Rattle.std.proofs.Common.{arith}
use Rattle.asn1_core.specs.Arcs.{is_oid}
use Rattle.der_tree.specs.AnyElement.{is_one}
use Rattle.der_tree.specs.Form.{IsDerOf}
use Rattle.pkix_cert.specs.Algorithms.{algorithm_identifier, algorithm_identifier_fields, subject_public_key_info, subject_public_key_info_fields}
use Rattle.rcgen_sign.specs.Algorithms.{key_algorithm_value, signature_arcs, signature_parameters}
use Rattle.rcgen_sign.specs.KeyInfos.{key_algorithm as key_algorithm_codec, key_algorithm_fields, key_info, key_info_fields}
use Rattle.rcgen_sign.specs.Keys.{Key, key_info_value}
use Rattle.rcgen_sign.specs.declared.sign_algo.SignatureAlgorithm.{SignatureAlgorithm}
use Rattle.rcgen_sign.proofs.AlgorithmLemmas.{every, signature_parameters_are_one}
use Rattle.rcgen_certificate.specs.KeyValues.{key_algorithm, key_value}

pub not_negative : (z : ℤ) → pos 0 ≤ℤ z → int_le (pos 0) z ≡ true
not_negative z l = grind arith

pub signature_arcs_are : (a : SignatureAlgorithm) → is_oid (signature_arcs a) ≡ true
signature_arcs_are = every (λ a. is_oid (signature_arcs a) ≡ true) refl refl refl refl refl refl refl refl refl refl refl refl refl refl refl refl refl refl refl refl refl

pub are_one : (a : SignatureAlgorithm) (p : List ℕ) → signature_parameters a ≡ Some p → is_one p ≡ true
are_one a p e = rw e at (signature_parameters_are_one a)

pub ruleset formed = (signature_arcs_are, are_one)

-- the fields are the same, so the trees are
pub algorithm_field : (a : SignatureAlgorithm) (b : List ℕ) → IsDerOf key_algorithm_codec (key_algorithm_value a) b
    → IsDerOf algorithm_identifier (key_algorithm a) b
unfolding key_algorithm_fields algorithm_identifier_fields
algorithm_field a b h = h

pub key_field : (k : Key) (b : List ℕ) → IsDerOf key_info (key_info_value k) b → IsDerOf subject_public_key_info (key_value k.algorithm k.octets) b
unfolding key_info_fields key_algorithm_fields subject_public_key_info_fields algorithm_identifier_fields
key_field k b h = h

pub ruleset fields = (algorithm_field, key_field)
