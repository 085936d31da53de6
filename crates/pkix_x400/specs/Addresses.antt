-- Addresses, a line for each field (RFC 5280, A.1).
use Rattle.std.specs.Prelude.{◌≡◌, true, List, [], ◌∷◌, Some, is_ok, refl}
use Rattle.asn1_core.specs.StringTypes.{printable}
use Rattle.asn1_core.specs.Narrowed.{unsigned_contents}
use Rattle.asn1_core.specs.Unsigned.{unsigned_64_contents}
use Rattle.der_tree.specs.Codec.{Codec, Struct}
use Rattle.der_tree.specs.Element.{element_at, element_octets, identifier_at, identifier_octets, length_at, length_octets}
use Rattle.der_tree.specs.Grammar.{any, as_struct, as_type, explicitly, implicitly, optional, required, sequence, sequence_of, set_of, sized, ◌&◌, ◌⊗◌}
use Rattle.der_tree.specs.PrimitiveTypes.{unsigned_to}
use Rattle.der_tree.specs.SetOf.{set_put}
use Rattle.der_tree.specs.Tags.{context, universal}
use Rattle.pkix_x400.specs.Standards.{built_in_standard_attributes}
use Rattle.pkix_x400.specs.declared.address.OrAddress.{OrAddress}
use Rattle.pkix_x400.specs.declared.address.BuiltInDomainDefinedAttributes.{BuiltInDomainDefinedAttributes}
use Rattle.pkix_x400.specs.declared.address.BuiltInDomainDefinedAttribute.{BuiltInDomainDefinedAttribute}
use Rattle.pkix_x400.specs.declared.address.ExtensionAttributes.{ExtensionAttributes}
use Rattle.pkix_x400.specs.declared.address.ExtensionAttribute.{ExtensionAttribute}

unfoldable pub built_in_domain_defined_attribute_fields : Struct BuiltInDomainDefinedAttribute
built_in_domain_defined_attribute_fields = as_struct (
    required (sized printable 1 (Some 8) refl)
    & required (sized printable 1 (Some 128) refl)
    ) refl
    (λ v. v.kind ⊗ v.value)
    (λ kind value. record { kind = kind; value = value }) (λ v. refl) (λ f. refl)

abbrev pub built_in_domain_defined_attribute : Codec BuiltInDomainDefinedAttribute
built_in_domain_defined_attribute = sequence (universal 16) built_in_domain_defined_attribute_fields

abbrev pub built_in_domain_defined_attributes : Codec BuiltInDomainDefinedAttributes
built_in_domain_defined_attributes =
    as_type (sequence_of built_in_domain_defined_attribute 1 (Some 4) refl) (λ v. v.0) (λ l. record { 0 = l }) (λ v. refl) (λ l. refl)

unfoldable pub extension_attribute_fields : Struct ExtensionAttribute
extension_attribute_fields = as_struct (
    required (implicitly (context 0) (unsigned_to 256) refl)
    & required (explicitly (context 1) any)
    ) refl
    (λ v. v.extension_attribute_type ⊗ v.extension_attribute_value)
    (λ extension_attribute_type extension_attribute_value. record {
      extension_attribute_type = extension_attribute_type;
      extension_attribute_value = extension_attribute_value;
    }) (λ v. refl) (λ f. refl)

abbrev pub extension_attribute : Codec ExtensionAttribute
extension_attribute = sequence (universal 16) extension_attribute_fields

-- a set of one, with the number 0 and NULL
abbrev pub extension_attributes_sample : List ExtensionAttribute
extension_attributes_sample = record { extension_attribute_type = 0; extension_attribute_value = 5 ∷ 0 ∷ [] } ∷ []

pub extension_attributes_sample_is : is_ok (set_put extension_attribute 1 (Some 256) extension_attributes_sample) ≡ true
unfolding extension_attribute_fields unsigned_contents unsigned_64_contents element_octets identifier_octets length_octets element_at identifier_at length_at
extension_attributes_sample_is = refl

abbrev pub extension_attributes : Codec ExtensionAttributes
extension_attributes =
    as_type (set_of extension_attribute 1 (Some 256) extension_attributes_sample extension_attributes_sample_is) (λ v. v.0) (λ l. record { 0 = l })
    (λ v. refl) (λ l. refl)

unfoldable pub or_address_fields : Struct OrAddress
or_address_fields = as_struct (
    required built_in_standard_attributes
    & optional built_in_domain_defined_attributes
    & optional extension_attributes
    ) refl
    (λ v. v.built_in_standard_attributes ⊗ v.built_in_domain_defined_attributes ⊗ v.extension_attributes)
    (λ built_in_standard_attributes built_in_domain_defined_attributes extension_attributes. record {
      built_in_standard_attributes = built_in_standard_attributes;
      built_in_domain_defined_attributes = built_in_domain_defined_attributes;
      extension_attributes = extension_attributes;
    }) (λ v. refl) (λ f. refl)

abbrev pub or_address : Codec OrAddress
or_address = sequence (universal 16) or_address_fields
