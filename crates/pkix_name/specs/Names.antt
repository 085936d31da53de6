-- Names (RFC 5280, 4.1.2.4) and attributes (RFC 5280, A.1).
use Rattle.std.specs.Prelude.{◌≡◌, true, List, [], ◌∷◌, None, is_ok, refl}
use Rattle.asn1_core.specs.Base128.{digits}
use Rattle.asn1_core.specs.ObjectIdentifiers.{object_identifier_contents}
use Rattle.der_tree.specs.Codec.{Codec, Struct}
use Rattle.der_tree.specs.Element.{element_at, element_octets, identifier_at, identifier_octets, length_at, length_octets}
use Rattle.der_tree.specs.Grammar.{any, as_choice, as_struct, as_type, required, sequence, sequence_of, set_of, ◌&◌, ◌⊗◌}
use Rattle.der_tree.specs.PrimitiveTypes.{object_identifier}
use Rattle.der_tree.specs.SetOf.{set_put}
use Rattle.der_tree.specs.Tags.{universal}
use Rattle.pkix_name.specs.declared.name.Attribute.{Attribute}
use Rattle.pkix_name.specs.declared.name.AttributeTypeAndValue.{AttributeTypeAndValue}
use Rattle.pkix_name.specs.declared.name.RelativeDistinguishedName.{RelativeDistinguishedName}
use Rattle.pkix_name.specs.declared.name.Name.{Name}
use Rattle.pkix_name.specs.declared.name.Name.TheVariants.{RdnSequence}

unfoldable pub attribute_type_and_value_fields : Struct AttributeTypeAndValue
attribute_type_and_value_fields = as_struct (
    required object_identifier
    & required any
    ) refl
    (λ v. v.attr_type ⊗ v.value)
    (λ attr_type value. record { attr_type = attr_type; value = value }) (λ v. refl) (λ f. refl)

abbrev pub attribute_type_and_value : Codec AttributeTypeAndValue
attribute_type_and_value = sequence (universal 16) attribute_type_and_value_fields

-- a set of one, with the arcs 2.5.4.3 and NULL
abbrev pub one_attribute : List AttributeTypeAndValue
one_attribute = record { attr_type = 2 ∷ 5 ∷ 4 ∷ 3 ∷ []; value = 5 ∷ 0 ∷ [] } ∷ []

pub one_attribute_is : is_ok (set_put attribute_type_and_value 1 None one_attribute) ≡ true
unfolding attribute_type_and_value_fields object_identifier_contents digits element_octets identifier_octets length_octets element_at identifier_at length_at
one_attribute_is = refl

abbrev pub relative_distinguished_name : Codec RelativeDistinguishedName
relative_distinguished_name =
    as_type (set_of attribute_type_and_value 1 None one_attribute one_attribute_is) (λ v. v.0) (λ l. record { 0 = l }) (λ v. refl) (λ l. refl)

abbrev pub name_parts : Name → List RelativeDistinguishedName
name_parts (RdnSequence parts) = parts

pub name_there : (v : Name) → RdnSequence (name_parts v) ≡ v
name_there (RdnSequence parts) = refl

abbrev pub name : Codec Name
name = as_choice (sequence_of relative_distinguished_name 0 None refl) name_parts RdnSequence name_there (λ parts. refl)

unfoldable pub attribute_fields : Struct Attribute
attribute_fields = as_struct (
    required object_identifier
    & required (set_of any 0 None [] refl)
    ) refl
    (λ v. v.attr_type ⊗ v.values)
    (λ attr_type values. record { attr_type = attr_type; values = values }) (λ v. refl) (λ f. refl)

abbrev pub attribute : Codec Attribute
attribute = sequence (universal 16) attribute_fields
