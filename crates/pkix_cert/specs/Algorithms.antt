-- Algorithms and keys, a line for each field (RFC 5280, 4.1.1.2, 4.1.2.7).
use Rattle.std.specs.Prelude.{refl}
use Rattle.der_tree.specs.Codec.{Codec, Struct}
use Rattle.der_tree.specs.Grammar.{any, as_struct, optional, required, sequence, ◌&◌, ◌⊗◌}
use Rattle.der_tree.specs.PrimitiveTypes.{bit_string, object_identifier}
use Rattle.der_tree.specs.Tags.{universal}
use Rattle.pkix_cert.specs.declared.algorithm.AlgorithmIdentifier.{AlgorithmIdentifier}
use Rattle.pkix_cert.specs.declared.algorithm.SubjectPublicKeyInfo.{SubjectPublicKeyInfo}

unfoldable pub algorithm_identifier_fields : Struct AlgorithmIdentifier
algorithm_identifier_fields = as_struct (
    required object_identifier
    & optional any
    ) refl
    (λ v. v.algorithm ⊗ v.parameters)
    (λ algorithm parameters. record { algorithm = algorithm; parameters = parameters }) (λ v. refl) (λ f. refl)

abbrev pub algorithm_identifier : Codec AlgorithmIdentifier
algorithm_identifier = sequence (universal 16) algorithm_identifier_fields

unfoldable pub subject_public_key_info_fields : Struct SubjectPublicKeyInfo
subject_public_key_info_fields = as_struct (
    required algorithm_identifier
    & required bit_string
    ) refl
    (λ v. v.algorithm ⊗ v.subject_public_key)
    (λ algorithm subject_public_key. record { algorithm = algorithm; subject_public_key = subject_public_key }) (λ v. refl) (λ f. refl)

abbrev pub subject_public_key_info : Codec SubjectPublicKeyInfo
subject_public_key_info = sequence (universal 16) subject_public_key_info_fields
