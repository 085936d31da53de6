-- What keys are.
use Rattle.std.specs.Prelude.{ℕ, true, false, List, ◌∷◌, ◌++◌}
use Rattle.asn1_core.specs.Bits.{bits}
use Rattle.der_tree.specs.Element.{element_octets}
use Rattle.der_tree.specs.Tags.{universal}
use Rattle.rcgen_sign.specs.declared.key_info.KeyInfo.{KeyInfo}
use Rattle.rcgen_sign.specs.declared.sign_algo.SignatureAlgorithm.{SignatureAlgorithm}
use Rattle.rcgen_sign.specs.Algorithms.{key_algorithm_value, key_element}

-- a public key: its algorithm, and its bytes as the subjectPublicKey of a certificate has them
pub record Key : Type 0 where
  pub algorithm : SignatureAlgorithm
  pub octets : List ℕ

abbrev pub key_of_parts : SignatureAlgorithm → List ℕ → Key
key_of_parts a b = record { algorithm = a; octets = b }

-- the key under its algorithm's identifier, no bits unused (RFC 5280, 4.1.2.7)
abbrev pub key_info_value : Key → KeyInfo
key_info_value k = record { algorithm = key_algorithm_value k.algorithm; subject_public_key = bits 0 k.octets }

-- the DER of the key's info: the element of its algorithm's identifier, and its octets as a BIT STRING, no bits unused (RFC 5280, 4.1.2.7)
abbrev pub key_info_octets : Key → List ℕ
key_info_octets k = element_octets (record {
  tag = universal 16;
  constructed = true;
  content = key_element k.algorithm ++ element_octets (record { tag = universal 3; constructed = false; content = 0 ∷ k.octets });
})

-- a key whose one signature is fixed
pub record Fixed : Type 0 where
  pub key : Key
  pub signature : List ℕ
