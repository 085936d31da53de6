-- What is written through `deref_mut`.
use Rattle.std.specs.Prelude.{ℕ, List}
use Rattle.std.specs.Borrow.{Lends, MutBor, Fml}
use Rattle.asn1_core.specs.Bits.{Bits}
use Rattle.pkix_attr.specs.declared.certificate.AttributeCertificateVersion.{AttributeCertificateVersion}
use Rattle.pkix_attr.specs.declared.clearance.ClassList.{ClassList}
use Rattle.asn1_core.specs.contracts.bit_string.BitString as bit_string_row
use Rattle.asn1_core.specs.contracts.integer.Integer as integer_row
use Rattle.pkix_attr.specs.contracts.certificate.AttributeCertificateVersion as attribute_certificate_version_row
use Rattle.pkix_attr.specs.contracts.clearance.ClassList as class_list_row

abbrev pub LendsAttributeCertificateVersion : MutBor AttributeCertificateVersion → MutBor (List ℕ) → Fml
LendsAttributeCertificateVersion s r = Lends attribute_certificate_version_row.the_row integer_row.the_row s r (λ l. record { 0 = l })

abbrev pub LendsClassList : MutBor ClassList → MutBor Bits → Fml
LendsClassList s r = Lends class_list_row.the_row bit_string_row.the_row s r (λ l. record { 0 = l })
