-- Keys and their algorithms as DER has them, a line for each field (RFC 5280, 4.1.1.2, 4.1.2.7).
use Rattle.std.specs.Prelude.{refl}
use Rattle.der_tree.specs.Codec.{Codec, Struct}
use Rattle.der_tree.specs.Grammar.{any, as_struct, optional, required, sequence, ◌&◌, ◌⊗◌}
use Rattle.der_tree.specs.PrimitiveTypes.{bit_string, object_identifier}
use Rattle.der_tree.specs.Tags.{universal}
use Rattle.rcgen_sign.specs.declared.key_info.KeyAlgorithm.{KeyAlgorithm}
use Rattle.rcgen_sign.specs.declared.key_info.KeyInfo.{KeyInfo}

unfoldable pub key_algorithm_fields : Struct KeyAlgorithm
key_algorithm_fields = as_struct (
    required object_identifier
    & optional any
    ) refl
    (λ v. v.algorithm ⊗ v.parameters)
    (λ algorithm parameters. record { algorithm = algorithm; parameters = parameters }) (λ v. refl) (λ f. refl)

abbrev pub key_algorithm : Codec KeyAlgorithm
key_algorithm = sequence (universal 16) key_algorithm_fields

unfoldable pub key_info_fields : Struct KeyInfo
key_info_fields = as_struct (
    required key_algorithm
    & required bit_string
    ) refl
    (λ v. v.algorithm ⊗ v.subject_public_key)
    (λ algorithm subject_public_key. record { algorithm = algorithm; subject_public_key = subject_public_key }) (λ v. refl) (λ f. refl)

abbrev pub key_info : Codec KeyInfo
key_info = sequence (universal 16) key_info_fields
