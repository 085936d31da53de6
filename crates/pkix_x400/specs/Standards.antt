-- Built-in attributes of an address, a line for each field (RFC 5280, A.1).
use Rattle.std.specs.Prelude.{◌≡◌, ◌⊎◌, ℕ, List, Some, refl}
use Rattle.std.proofs.Common.{inl, inr}
use Rattle.asn1_core.specs.StringTypes.{numeric, printable}
use Rattle.der_tree.specs.CharacterStrings.{text}
use Rattle.der_tree.specs.Codec.{Codec, Struct}
use Rattle.der_tree.specs.Grammar.{as_choice, as_struct, as_type, either, explicitly, implicitly, optional, required, sequence, sequence_of, sized, ◌&◌}
use Rattle.der_tree.specs.Grammar.{◌⊗◌}
use Rattle.der_tree.specs.Tags.{context, universal}
use Rattle.asn1_core.specs.Tags.{application}
use Rattle.pkix_x400.specs.declared.standard.BuiltInStandardAttributes.{BuiltInStandardAttributes}
use Rattle.pkix_x400.specs.declared.standard.CountryName.{CountryName}
use Rattle.pkix_x400.specs.declared.standard.AdministrationDomainName.{AdministrationDomainName}
use Rattle.pkix_x400.specs.declared.standard.PrivateDomainName.{PrivateDomainName}
use Rattle.pkix_x400.specs.declared.standard.PersonalName.{PersonalName}
use Rattle.pkix_x400.specs.declared.standard.OrganisationalUnitNames.{OrganisationalUnitNames}
use Rattle.pkix_x400.specs.declared.standard.OrganisationalUnitName.{OrganisationalUnitName}
use Rattle.pkix_x400.specs.declared.standard.CountryName.TheVariants.{X121DccCode, Iso3166Alpha2Code}
use Rattle.pkix_x400.specs.declared.standard.AdministrationDomainName.TheVariants as administration_domain_name_kind
use Rattle.pkix_x400.specs.declared.standard.PrivateDomainName.TheVariants as private_domain_name_kind

abbrev pub country_name_parts : CountryName → List ℕ ⊎ List ℕ
country_name_parts (X121DccCode v) = inl v
country_name_parts (Iso3166Alpha2Code v) = inr v

abbrev pub country_name_of : List ℕ ⊎ List ℕ → CountryName
country_name_of (inl v) = X121DccCode v
country_name_of (inr v) = Iso3166Alpha2Code v

pub country_name_there : (v : CountryName) → country_name_of (country_name_parts v) ≡ v
country_name_there (X121DccCode v) = refl
country_name_there (Iso3166Alpha2Code v) = refl

pub country_name_back : (p : List ℕ ⊎ List ℕ) → country_name_parts (country_name_of p) ≡ p
country_name_back (inl v) = refl
country_name_back (inr v) = refl

abbrev pub country_name_choice : Codec CountryName
country_name_choice =
    as_choice (either (sized numeric 3 (Some 3) refl) (sized printable 2 (Some 2) refl) refl) country_name_parts country_name_of country_name_there
    country_name_back

abbrev pub country_name : Codec CountryName
country_name = explicitly (application 1) country_name_choice

abbrev pub administration_domain_name_parts : AdministrationDomainName → List ℕ ⊎ List ℕ
administration_domain_name_parts (administration_domain_name_kind.Numeric v) = inl v
administration_domain_name_parts (administration_domain_name_kind.Printable v) = inr v

abbrev pub administration_domain_name_of : List ℕ ⊎ List ℕ → AdministrationDomainName
administration_domain_name_of (inl v) = administration_domain_name_kind.Numeric v
administration_domain_name_of (inr v) = administration_domain_name_kind.Printable v

pub administration_domain_name_there : (v : AdministrationDomainName) → administration_domain_name_of (administration_domain_name_parts v) ≡ v
administration_domain_name_there (administration_domain_name_kind.Numeric v) = refl
administration_domain_name_there (administration_domain_name_kind.Printable v) = refl

pub administration_domain_name_back : (p : List ℕ ⊎ List ℕ) → administration_domain_name_parts (administration_domain_name_of p) ≡ p
administration_domain_name_back (inl v) = refl
administration_domain_name_back (inr v) = refl

abbrev pub administration_domain_name_choice : Codec AdministrationDomainName
administration_domain_name_choice =
    as_choice (either (sized numeric 0 (Some 16) refl) (sized printable 0 (Some 16) refl) refl) administration_domain_name_parts administration_domain_name_of
    administration_domain_name_there administration_domain_name_back

abbrev pub administration_domain_name : Codec AdministrationDomainName
administration_domain_name = explicitly (application 2) administration_domain_name_choice

abbrev pub private_domain_name_parts : PrivateDomainName → List ℕ ⊎ List ℕ
private_domain_name_parts (private_domain_name_kind.Numeric v) = inl v
private_domain_name_parts (private_domain_name_kind.Printable v) = inr v

abbrev pub private_domain_name_of : List ℕ ⊎ List ℕ → PrivateDomainName
private_domain_name_of (inl v) = private_domain_name_kind.Numeric v
private_domain_name_of (inr v) = private_domain_name_kind.Printable v

pub private_domain_name_there : (v : PrivateDomainName) → private_domain_name_of (private_domain_name_parts v) ≡ v
private_domain_name_there (private_domain_name_kind.Numeric v) = refl
private_domain_name_there (private_domain_name_kind.Printable v) = refl

pub private_domain_name_back : (p : List ℕ ⊎ List ℕ) → private_domain_name_parts (private_domain_name_of p) ≡ p
private_domain_name_back (inl v) = refl
private_domain_name_back (inr v) = refl

abbrev pub private_domain_name : Codec PrivateDomainName
private_domain_name =
    as_choice (either (sized numeric 1 (Some 16) refl) (sized printable 1 (Some 16) refl) refl) private_domain_name_parts private_domain_name_of
    private_domain_name_there private_domain_name_back

unfoldable pub personal_name_fields : Struct PersonalName
personal_name_fields = as_struct (
    required (implicitly (context 0) (text printable) refl)
    & optional (implicitly (context 1) (text printable) refl)
    & optional (implicitly (context 2) (text printable) refl)
    & optional (implicitly (context 3) (text printable) refl)
    ) refl
    (λ v. v.surname ⊗ v.given_name ⊗ v.initials ⊗ v.generation_qualifier)
    (λ surname given_name initials generation_qualifier. record {
      surname = surname;
      given_name = given_name;
      initials = initials;
      generation_qualifier = generation_qualifier;
    }) (λ v. refl) (λ f. refl)

abbrev pub personal_name : Codec PersonalName
personal_name = sequence (universal 17) personal_name_fields

abbrev pub organisational_unit_name : Codec OrganisationalUnitName
organisational_unit_name = as_type (sized printable 1 (Some 32) refl) (λ v. v.0) (λ l. record { 0 = l }) (λ v. refl) (λ l. refl)

abbrev pub organisational_unit_names : Codec OrganisationalUnitNames
organisational_unit_names = as_type (sequence_of organisational_unit_name 1 (Some 4) refl) (λ v. v.0) (λ l. record { 0 = l }) (λ v. refl) (λ l. refl)

unfoldable pub built_in_standard_attributes_fields : Struct BuiltInStandardAttributes
built_in_standard_attributes_fields = as_struct (
    optional country_name
    & optional administration_domain_name
    & optional (implicitly (context 0) (text numeric) refl)
    & optional (implicitly (context 1) (text printable) refl)
    & optional (explicitly (context 2) private_domain_name)
    & optional (implicitly (context 3) (text printable) refl)
    & optional (implicitly (context 4) (text numeric) refl)
    & optional (implicitly (context 5) personal_name refl)
    & optional (implicitly (context 6) organisational_unit_names refl)
    ) refl
    (λ v. v.country_name ⊗ v.administraion_domain_name ⊗ v.network_address ⊗ v.terminal_identifier ⊗ v.private_domain_name ⊗ v.organisation_name ⊗
    v.numeric_user_identifier ⊗ v.personal_name ⊗ v.organisational_unit_name)
    (λ country_name administraion_domain_name network_address terminal_identifier private_domain_name organisation_name numeric_user_identifier
    personal_name organisational_unit_name. record {
      country_name = country_name;
      administraion_domain_name = administraion_domain_name;
      network_address = network_address;
      terminal_identifier = terminal_identifier;
      private_domain_name = private_domain_name;
      organisation_name = organisation_name;
      numeric_user_identifier = numeric_user_identifier;
      personal_name = personal_name;
      organisational_unit_name = organisational_unit_name;
    }) (λ v. refl) (λ f. refl)

abbrev pub built_in_standard_attributes : Codec BuiltInStandardAttributes
built_in_standard_attributes = sequence (universal 16) built_in_standard_attributes_fields
