-- Where more is found, a line for each field (RFC 5280, 4.2.2).
use Rattle.std.specs.Prelude.{refl}
use Rattle.der_tree.specs.Codec.{Codec, Struct}
use Rattle.der_tree.specs.Grammar.{as_struct, required, sequence, ◌&◌, ◌⊗◌}
use Rattle.der_tree.specs.PrimitiveTypes.{object_identifier}
use Rattle.der_tree.specs.Tags.{universal}
use Rattle.pkix_name.specs.GeneralNames.{general_name}
use Rattle.pkix_trust.specs.declared.access.AccessDescription.{AccessDescription}

unfoldable pub access_description_fields : Struct AccessDescription
access_description_fields = as_struct (
    required object_identifier
    & required general_name
    ) refl
    (λ v. v.access_method ⊗ v.access_location)
    (λ access_method access_location. record { access_method = access_method; access_location = access_location }) (λ v. refl) (λ f. refl)

abbrev pub access_description : Codec AccessDescription
access_description = sequence (universal 16) access_description_fields
