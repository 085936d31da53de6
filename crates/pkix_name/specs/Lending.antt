-- What is written through `deref_mut`.
use Rattle.std.specs.Prelude.{ℕ, List}
use Rattle.std.specs.Borrow.{Lends, MutBor, Fml}
use Rattle.asn1_core.specs.contracts.text.CharacterString as text
use Rattle.asn1_core.specs.contracts.text.sets.Printable as printable
use Rattle.asn1_core.specs.contracts.text.sets.PrintableStringType.TheImpl as printable_type
use Rattle.der_tree.specs.contracts.set.SetOf as set
use Rattle.pkix_name.specs.declared.name.AttributeTypeAndValue.{AttributeTypeAndValue}
use Rattle.pkix_name.specs.declared.name.RelativeDistinguishedName.{RelativeDistinguishedName}
use Rattle.pkix_name.specs.declared.x520.X520CountryName.{X520CountryName}
use Rattle.pkix_name.specs.declared.x520.X520SerialNumber.{X520SerialNumber}
use Rattle.pkix_name.specs.contracts.name.AttributeTypeAndValue as attribute
use Rattle.pkix_name.specs.contracts.name.RelativeDistinguishedName as part
use Rattle.pkix_name.specs.contracts.name.AttributeTypeAndValueForm.TheImpl as attribute_form
use Rattle.pkix_name.specs.contracts.x520.X520CountryName as country
use Rattle.pkix_name.specs.contracts.x520.X520SerialNumber as serial

-- the set is what was written
abbrev pub LendsAttributes : MutBor RelativeDistinguishedName → MutBor (List AttributeTypeAndValue) → Fml
LendsAttributes s r = Lends part.the_row (set.the_row attribute.the_row attribute_form.ghosts) s r (λ l. record { 0 = l })

-- the text is what was written
abbrev pub LendsCountry : MutBor X520CountryName → MutBor (List ℕ) → Fml
LendsCountry s r = Lends country.the_row (text.the_row printable.the_row printable_type.ghosts) s r (λ l. record { 0 = l })

abbrev pub LendsSerial : MutBor X520SerialNumber → MutBor (List ℕ) → Fml
LendsSerial s r = Lends serial.the_row (text.the_row printable.the_row printable_type.ghosts) s r (λ l. record { 0 = l })
