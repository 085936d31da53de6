-- What is signed, as it occurs in what is issued (RFC 5280, 4.1.1).
use Rattle.std.specs.Prelude.{◌≡◌, ℕ, true, List, ◌++◌}
use Rattle.asn1_core.specs.Bits.{Bits}
use Rattle.der_tree.specs.Codec.{Codec}
use Rattle.der_tree.specs.Element.{element_octets}
use Rattle.der_tree.specs.Form.{IsDerOf}
use Rattle.der_tree.specs.PrimitiveTypes.{bit_string}
use Rattle.der_tree.specs.Tags.{universal}
use Rattle.pkix_cert.specs.Algorithms.{algorithm_identifier}
use Rattle.pkix_cert.specs.declared.algorithm.AlgorithmIdentifier.{AlgorithmIdentifier}

-- the octets are a SEQUENCE, its contents the form of what is signed, then that of the algorithm, then that of the signature (X.690, 8.9)
pub record HasParts {A : Type 0} (c : Codec A) (message : A) (algorithm : AlgorithmIdentifier) (signature : Bits) (octets : List ℕ) : Type 0 where
  pub first : List ℕ
  pub second : List ℕ
  pub third : List ℕ
  pub message_form : IsDerOf c message first
  pub algorithm_form : IsDerOf algorithm_identifier algorithm second
  pub signature_form : IsDerOf bit_string signature third
  pub whole : octets ≡ element_octets (record { tag = universal 16; constructed = true; content = first ++ (second ++ third) })
