-- Algorithms and keys as certificates have them (RFC 5280, 4.1.1.2, 4.1.2.7).
use Rattle.std.specs.Prelude.{ℕ, List}
use Rattle.asn1_core.specs.Bits.{bits}
use Rattle.pkix_cert.specs.declared.algorithm.AlgorithmIdentifier.{AlgorithmIdentifier}
use Rattle.pkix_cert.specs.declared.algorithm.SubjectPublicKeyInfo.{SubjectPublicKeyInfo}
use Rattle.rcgen_sign.specs.Algorithms.{signature_arcs, signature_parameters, key_arcs, key_parameters}
use Rattle.rcgen_sign.specs.declared.sign_algo.SignatureAlgorithm.{SignatureAlgorithm}

-- how certificates name the algorithm of signatures
abbrev pub signature_identifier : SignatureAlgorithm → AlgorithmIdentifier
signature_identifier a = record { algorithm = signature_arcs a; parameters = signature_parameters a }

-- how certificates name the algorithm of its keys
abbrev pub key_algorithm : SignatureAlgorithm → AlgorithmIdentifier
key_algorithm a = record { algorithm = key_arcs a; parameters = key_parameters a }

-- the key under its algorithm's identifier
abbrev pub key_value : SignatureAlgorithm → List ℕ → SubjectPublicKeyInfo
key_value a key = record { algorithm = key_algorithm a; subject_public_key = bits 0 key }
