-- What is signed, as its octets, with the algorithm and the signature (RFC 5280, 4.1.1).
use Rattle.std.specs.Prelude.{refl}
use Rattle.der_tree.specs.Codec.{Codec, Struct}
use Rattle.der_tree.specs.Grammar.{any, as_struct, required, sequence, ◌&◌, ◌⊗◌}
use Rattle.der_tree.specs.PrimitiveTypes.{bit_string}
use Rattle.der_tree.specs.Tags.{universal}
use Rattle.pkix_cert.specs.Algorithms.{algorithm_identifier}
use Rattle.register_steps.specs.declared.signed_octets.SignedOctets.{SignedOctets}

unfoldable pub signed_octets_fields : Struct SignedOctets
signed_octets_fields = as_struct (
    required any
    & required algorithm_identifier
    & required bit_string
    ) refl
    (λ v. v.to_be_signed ⊗ v.algorithm ⊗ v.signature)
    (λ to_be_signed algorithm signature. record { to_be_signed = to_be_signed; algorithm = algorithm; signature = signature }) (λ v. refl) (λ f. refl)

abbrev pub signed_octets : Codec SignedOctets
signed_octets = sequence (universal 16) signed_octets_fields
