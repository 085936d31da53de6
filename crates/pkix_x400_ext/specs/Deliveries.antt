-- Physical delivery, a line for each field (RFC 5280, A.1).
use Rattle.std.specs.Prelude.{◌≡◌, ◌⊎◌, ℕ, List, Some, refl}
use Rattle.std.proofs.Common.{inl, inr}
use Rattle.asn1_core.specs.StringTypes.{numeric, printable, teletex}
use Rattle.der_tree.specs.Codec.{Codec, Struct}
use Rattle.der_tree.specs.Grammar.{as_choice, as_struct, as_type, either, optional, sequence, sequence_of, sized, ◌&◌, ◌⊗◌}
use Rattle.der_tree.specs.Tags.{universal}
use Rattle.pkix_x400_ext.specs.declared.delivery.PdsName.{PdsName}
use Rattle.pkix_x400_ext.specs.declared.delivery.PhysicalDeliveryCountryName.{PhysicalDeliveryCountryName}
use Rattle.pkix_x400_ext.specs.declared.delivery.PostalCode.{PostalCode}
use Rattle.pkix_x400_ext.specs.declared.delivery.PrintableAddress.{PrintableAddress}
use Rattle.pkix_x400_ext.specs.declared.delivery.TeletexAddress.{TeletexAddress}
use Rattle.pkix_x400_ext.specs.declared.delivery.UnformattedPostalAddress.{UnformattedPostalAddress}
use Rattle.pkix_x400_ext.specs.declared.delivery.PdsParameter.{PdsParameter}
use Rattle.pkix_x400_ext.specs.declared.delivery.PhysicalDeliveryCountryName.TheVariants.{X121DccCode, Iso3166Alpha2Code}
use Rattle.pkix_x400_ext.specs.declared.delivery.PostalCode.TheVariants.{Numeric, Printable}

abbrev pub pds_name : Codec PdsName
pds_name = as_type (sized printable 1 (Some 16) refl) (λ v. v.0) (λ l. record { 0 = l }) (λ v. refl) (λ l. refl)

abbrev pub physical_delivery_country_name_parts : PhysicalDeliveryCountryName → List ℕ ⊎ List ℕ
physical_delivery_country_name_parts (X121DccCode v) = inl v
physical_delivery_country_name_parts (Iso3166Alpha2Code v) = inr v

abbrev pub physical_delivery_country_name_of : List ℕ ⊎ List ℕ → PhysicalDeliveryCountryName
physical_delivery_country_name_of (inl v) = X121DccCode v
physical_delivery_country_name_of (inr v) = Iso3166Alpha2Code v

pub physical_delivery_country_name_there : (v : PhysicalDeliveryCountryName) → physical_delivery_country_name_of (physical_delivery_country_name_parts v) ≡ v
physical_delivery_country_name_there (X121DccCode v) = refl
physical_delivery_country_name_there (Iso3166Alpha2Code v) = refl

pub physical_delivery_country_name_back : (p : List ℕ ⊎ List ℕ) → physical_delivery_country_name_parts (physical_delivery_country_name_of p) ≡ p
physical_delivery_country_name_back (inl v) = refl
physical_delivery_country_name_back (inr v) = refl

abbrev pub physical_delivery_country_name : Codec PhysicalDeliveryCountryName
physical_delivery_country_name =
    as_choice (either (sized numeric 3 (Some 3) refl) (sized printable 2 (Some 2) refl) refl) physical_delivery_country_name_parts
    physical_delivery_country_name_of physical_delivery_country_name_there physical_delivery_country_name_back

abbrev pub postal_code_parts : PostalCode → List ℕ ⊎ List ℕ
postal_code_parts (Numeric v) = inl v
postal_code_parts (Printable v) = inr v

abbrev pub postal_code_of : List ℕ ⊎ List ℕ → PostalCode
postal_code_of (inl v) = Numeric v
postal_code_of (inr v) = Printable v

pub postal_code_there : (v : PostalCode) → postal_code_of (postal_code_parts v) ≡ v
postal_code_there (Numeric v) = refl
postal_code_there (Printable v) = refl

pub postal_code_back : (p : List ℕ ⊎ List ℕ) → postal_code_parts (postal_code_of p) ≡ p
postal_code_back (inl v) = refl
postal_code_back (inr v) = refl

abbrev pub postal_code : Codec PostalCode
postal_code =
    as_choice (either (sized numeric 1 (Some 16) refl) (sized printable 1 (Some 16) refl) refl) postal_code_parts postal_code_of postal_code_there
    postal_code_back

abbrev pub printable_address : Codec PrintableAddress
printable_address = as_type (sized printable 1 (Some 30) refl) (λ v. v.0) (λ l. record { 0 = l }) (λ v. refl) (λ l. refl)

abbrev pub teletex_address : Codec TeletexAddress
teletex_address = as_type (sized teletex 1 (Some 180) refl) (λ v. v.0) (λ l. record { 0 = l }) (λ v. refl) (λ l. refl)

unfoldable pub unformatted_postal_address_fields : Struct UnformattedPostalAddress
unformatted_postal_address_fields = as_struct (
    optional (sequence_of printable_address 1 (Some 6) refl)
    & optional teletex_address
    ) refl
    (λ v. v.printable_address ⊗ v.teletex_string)
    (λ printable_address teletex_string. record { printable_address = printable_address; teletex_string = teletex_string }) (λ v. refl) (λ f. refl)

abbrev pub unformatted_postal_address : Codec UnformattedPostalAddress
unformatted_postal_address = sequence (universal 17) unformatted_postal_address_fields

unfoldable pub pds_parameter_fields : Struct PdsParameter
pds_parameter_fields = as_struct (
    optional (sized printable 1 (Some 30) refl)
    & optional (sized teletex 1 (Some 30) refl)
    ) refl
    (λ v. v.printable_string ⊗ v.teletex_string)
    (λ printable_string teletex_string. record { printable_string = printable_string; teletex_string = teletex_string }) (λ v. refl) (λ f. refl)

abbrev pub pds_parameter : Codec PdsParameter
pds_parameter = sequence (universal 17) pds_parameter_fields
