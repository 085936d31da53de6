-- What is written through `deref_mut`.
use Rattle.std.specs.Prelude.{ℕ, List}
use Rattle.std.specs.Borrow.{Lends, MutBor, Fml}
use Rattle.pkix_x400_ext.specs.declared.name.CommonName.{CommonName}
use Rattle.pkix_x400_ext.specs.declared.name.TeletexCommonName.{TeletexCommonName}
use Rattle.pkix_x400_ext.specs.declared.name.TeletexOrganizationName.{TeletexOrganizationName}
use Rattle.pkix_x400_ext.specs.declared.name.TeletexOrganisationalUnitNames.{TeletexOrganisationalUnitNames}
use Rattle.pkix_x400_ext.specs.declared.name.TeletexOrganisationalUnitName.{TeletexOrganisationalUnitName}
use Rattle.pkix_x400_ext.specs.declared.name.TeletexDomainDefinedAttributes.{TeletexDomainDefinedAttributes}
use Rattle.pkix_x400_ext.specs.declared.name.TeletexDomainDefinedAttribute.{TeletexDomainDefinedAttribute}
use Rattle.pkix_x400_ext.specs.declared.delivery.PdsName.{PdsName}
use Rattle.pkix_x400_ext.specs.declared.delivery.PrintableAddress.{PrintableAddress}
use Rattle.pkix_x400_ext.specs.declared.delivery.TeletexAddress.{TeletexAddress}
use Rattle.asn1_core.specs.contracts.text.CharacterString as text
use Rattle.asn1_core.specs.contracts.text.sets.Printable as printable
use Rattle.asn1_core.specs.contracts.text.sets.PrintableStringType.TheImpl as printable_type
use Rattle.asn1_core.specs.contracts.text.sets.Teletex as teletex
use Rattle.asn1_core.specs.contracts.text.sets.TeletexStringType.TheImpl as teletex_type
use Rattle.der_tree.specs.contracts.list.SequenceOf as list
use Rattle.pkix_x400_ext.specs.contracts.delivery.PdsName as pds_name_row
use Rattle.pkix_x400_ext.specs.contracts.delivery.PrintableAddress as printable_address_row
use Rattle.pkix_x400_ext.specs.contracts.delivery.TeletexAddress as teletex_address_row
use Rattle.pkix_x400_ext.specs.contracts.name.CommonName as common_name_row
use Rattle.pkix_x400_ext.specs.contracts.name.TeletexCommonName as teletex_common_name_row
use Rattle.pkix_x400_ext.specs.contracts.name.TeletexDomainDefinedAttribute as teletex_domain_defined_attribute_row
use Rattle.pkix_x400_ext.specs.contracts.name.TeletexDomainDefinedAttributes as teletex_domain_defined_attributes_row
use Rattle.pkix_x400_ext.specs.contracts.name.TeletexOrganisationalUnitName as teletex_organisational_unit_name_row
use Rattle.pkix_x400_ext.specs.contracts.name.TeletexOrganisationalUnitNames as teletex_organisational_unit_names_row
use Rattle.pkix_x400_ext.specs.contracts.name.TeletexOrganizationName as teletex_organization_name_row

abbrev pub LendsCommonName : MutBor CommonName → MutBor (List ℕ) → Fml
LendsCommonName s r = Lends common_name_row.the_row (text.the_row printable.the_row printable_type.ghosts) s r (λ l. record { 0 = l })

abbrev pub LendsTeletexCommonName : MutBor TeletexCommonName → MutBor (List ℕ) → Fml
LendsTeletexCommonName s r = Lends teletex_common_name_row.the_row (text.the_row teletex.the_row teletex_type.ghosts) s r (λ l. record { 0 = l })

abbrev pub LendsTeletexOrganizationName : MutBor TeletexOrganizationName → MutBor (List ℕ) → Fml
LendsTeletexOrganizationName s r = Lends teletex_organization_name_row.the_row (text.the_row teletex.the_row teletex_type.ghosts) s r (λ l. record { 0 = l })

abbrev pub LendsTeletexOrganisationalUnitNames : MutBor TeletexOrganisationalUnitNames → MutBor (List TeletexOrganisationalUnitName) → Fml
LendsTeletexOrganisationalUnitNames s r =
    Lends teletex_organisational_unit_names_row.the_row (list.the_row teletex_organisational_unit_name_row.the_row) s r (λ l. record { 0 = l })

abbrev pub LendsTeletexOrganisationalUnitName : MutBor TeletexOrganisationalUnitName → MutBor (List ℕ) → Fml
LendsTeletexOrganisationalUnitName s r =
    Lends teletex_organisational_unit_name_row.the_row (text.the_row teletex.the_row teletex_type.ghosts) s r (λ l. record { 0 = l })

abbrev pub LendsTeletexDomainDefinedAttributes : MutBor TeletexDomainDefinedAttributes → MutBor (List TeletexDomainDefinedAttribute) → Fml
LendsTeletexDomainDefinedAttributes s r =
    Lends teletex_domain_defined_attributes_row.the_row (list.the_row teletex_domain_defined_attribute_row.the_row) s r (λ l. record { 0 = l })

abbrev pub LendsPdsName : MutBor PdsName → MutBor (List ℕ) → Fml
LendsPdsName s r = Lends pds_name_row.the_row (text.the_row printable.the_row printable_type.ghosts) s r (λ l. record { 0 = l })

abbrev pub LendsPrintableAddress : MutBor PrintableAddress → MutBor (List ℕ) → Fml
LendsPrintableAddress s r = Lends printable_address_row.the_row (text.the_row printable.the_row printable_type.ghosts) s r (λ l. record { 0 = l })

abbrev pub LendsTeletexAddress : MutBor TeletexAddress → MutBor (List ℕ) → Fml
LendsTeletexAddress s r = Lends teletex_address_row.the_row (text.the_row teletex.the_row teletex_type.ghosts) s r (λ l. record { 0 = l })
