-- What is written through `deref_mut`.
use Rattle.std.specs.Prelude.{ℕ, List}
use Rattle.std.specs.Borrow.{Lends, MutBor, Fml}
use Rattle.pkix_x400.specs.declared.standard.OrganisationalUnitNames.{OrganisationalUnitNames}
use Rattle.pkix_x400.specs.declared.standard.OrganisationalUnitName.{OrganisationalUnitName}
use Rattle.pkix_x400.specs.declared.address.BuiltInDomainDefinedAttributes.{BuiltInDomainDefinedAttributes}
use Rattle.pkix_x400.specs.declared.address.BuiltInDomainDefinedAttribute.{BuiltInDomainDefinedAttribute}
use Rattle.pkix_x400.specs.declared.address.ExtensionAttributes.{ExtensionAttributes}
use Rattle.pkix_x400.specs.declared.address.ExtensionAttribute.{ExtensionAttribute}
use Rattle.asn1_core.specs.contracts.text.CharacterString as text
use Rattle.asn1_core.specs.contracts.text.sets.Printable as printable
use Rattle.asn1_core.specs.contracts.text.sets.PrintableStringType.TheImpl as printable_type
use Rattle.der_tree.specs.contracts.list.SequenceOf as list
use Rattle.der_tree.specs.contracts.set.SetOf as set
use Rattle.pkix_x400.specs.contracts.address.BuiltInDomainDefinedAttribute as built_in_domain_defined_attribute_row
use Rattle.pkix_x400.specs.contracts.address.BuiltInDomainDefinedAttributes as built_in_domain_defined_attributes_row
use Rattle.pkix_x400.specs.contracts.address.ExtensionAttribute as extension_attribute_row
use Rattle.pkix_x400.specs.contracts.address.ExtensionAttributeForm.TheImpl as extension_attribute_form
use Rattle.pkix_x400.specs.contracts.address.ExtensionAttributes as extension_attributes_row
use Rattle.pkix_x400.specs.contracts.standard.OrganisationalUnitName as organisational_unit_name_row
use Rattle.pkix_x400.specs.contracts.standard.OrganisationalUnitNames as organisational_unit_names_row

abbrev pub LendsOrganisationalUnitNames : MutBor OrganisationalUnitNames → MutBor (List OrganisationalUnitName) → Fml
LendsOrganisationalUnitNames s r = Lends organisational_unit_names_row.the_row (list.the_row organisational_unit_name_row.the_row) s r (λ l. record { 0 = l })

abbrev pub LendsOrganisationalUnitName : MutBor OrganisationalUnitName → MutBor (List ℕ) → Fml
LendsOrganisationalUnitName s r = Lends organisational_unit_name_row.the_row (text.the_row printable.the_row printable_type.ghosts) s r (λ l. record { 0 = l })

abbrev pub LendsBuiltInDomainDefinedAttributes : MutBor BuiltInDomainDefinedAttributes → MutBor (List BuiltInDomainDefinedAttribute) → Fml
LendsBuiltInDomainDefinedAttributes s r =
    Lends built_in_domain_defined_attributes_row.the_row (list.the_row built_in_domain_defined_attribute_row.the_row) s r (λ l. record { 0 = l })

abbrev pub LendsExtensionAttributes : MutBor ExtensionAttributes → MutBor (List ExtensionAttribute) → Fml
LendsExtensionAttributes s r =
    Lends extension_attributes_row.the_row (set.the_row extension_attribute_row.the_row extension_attribute_form.ghosts) s r (λ l. record { 0 = l })
