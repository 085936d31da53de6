-- Names of persons and organizations, a line for each field (RFC 5280, A.1).
use Rattle.std.specs.Prelude.{Some, refl}
use Rattle.asn1_core.specs.StringTypes.{printable, teletex}
use Rattle.der_tree.specs.Codec.{Codec, Struct}
use Rattle.der_tree.specs.Grammar.{as_struct, as_type, implicitly, optional, required, sequence, sequence_of, sized, ◌&◌, ◌⊗◌}
use Rattle.der_tree.specs.Tags.{context, universal}
use Rattle.pkix_x400_ext.specs.declared.name.CommonName.{CommonName}
use Rattle.pkix_x400_ext.specs.declared.name.TeletexCommonName.{TeletexCommonName}
use Rattle.pkix_x400_ext.specs.declared.name.TeletexOrganizationName.{TeletexOrganizationName}
use Rattle.pkix_x400_ext.specs.declared.name.TeletexOrganisationalUnitNames.{TeletexOrganisationalUnitNames}
use Rattle.pkix_x400_ext.specs.declared.name.TeletexOrganisationalUnitName.{TeletexOrganisationalUnitName}
use Rattle.pkix_x400_ext.specs.declared.name.TeletexPersonalName.{TeletexPersonalName}
use Rattle.pkix_x400_ext.specs.declared.name.TeletexDomainDefinedAttributes.{TeletexDomainDefinedAttributes}
use Rattle.pkix_x400_ext.specs.declared.name.TeletexDomainDefinedAttribute.{TeletexDomainDefinedAttribute}

abbrev pub common_name : Codec CommonName
common_name = as_type (sized printable 1 (Some 64) refl) (λ v. v.0) (λ l. record { 0 = l }) (λ v. refl) (λ l. refl)

abbrev pub teletex_common_name : Codec TeletexCommonName
teletex_common_name = as_type (sized teletex 1 (Some 64) refl) (λ v. v.0) (λ l. record { 0 = l }) (λ v. refl) (λ l. refl)

abbrev pub teletex_organization_name : Codec TeletexOrganizationName
teletex_organization_name = as_type (sized teletex 1 (Some 64) refl) (λ v. v.0) (λ l. record { 0 = l }) (λ v. refl) (λ l. refl)

abbrev pub teletex_organisational_unit_name : Codec TeletexOrganisationalUnitName
teletex_organisational_unit_name = as_type (sized teletex 1 (Some 32) refl) (λ v. v.0) (λ l. record { 0 = l }) (λ v. refl) (λ l. refl)

abbrev pub teletex_organisational_unit_names : Codec TeletexOrganisationalUnitNames
teletex_organisational_unit_names =
    as_type (sequence_of teletex_organisational_unit_name 1 (Some 4) refl) (λ v. v.0) (λ l. record { 0 = l }) (λ v. refl) (λ l. refl)

unfoldable pub teletex_personal_name_fields : Struct TeletexPersonalName
teletex_personal_name_fields = as_struct (
    required (implicitly (context 0) (sized teletex 1 (Some 40) refl) refl)
    & optional (implicitly (context 1) (sized teletex 1 (Some 16) refl) refl)
    & optional (implicitly (context 2) (sized teletex 1 (Some 5) refl) refl)
    & optional (implicitly (context 3) (sized teletex 1 (Some 3) refl) refl)
    ) refl
    (λ v. v.surname ⊗ v.given_name ⊗ v.initials ⊗ v.generation_qualifier)
    (λ surname given_name initials generation_qualifier. record {
      surname = surname;
      given_name = given_name;
      initials = initials;
      generation_qualifier = generation_qualifier;
    }) (λ v. refl) (λ f. refl)

abbrev pub teletex_personal_name : Codec TeletexPersonalName
teletex_personal_name = sequence (universal 17) teletex_personal_name_fields

unfoldable pub teletex_domain_defined_attribute_fields : Struct TeletexDomainDefinedAttribute
teletex_domain_defined_attribute_fields = as_struct (
    required (sized teletex 1 (Some 8) refl)
    & required (sized teletex 1 (Some 128) refl)
    ) refl
    (λ v. v.kind ⊗ v.value)
    (λ kind value. record { kind = kind; value = value }) (λ v. refl) (λ f. refl)

abbrev pub teletex_domain_defined_attribute : Codec TeletexDomainDefinedAttribute
teletex_domain_defined_attribute = sequence (universal 16) teletex_domain_defined_attribute_fields

abbrev pub teletex_domain_defined_attributes : Codec TeletexDomainDefinedAttributes
teletex_domain_defined_attributes =
    as_type (sequence_of teletex_domain_defined_attribute 1 (Some 4) refl) (λ v. v.0) (λ l. record { 0 = l }) (λ v. refl) (λ l. refl)
