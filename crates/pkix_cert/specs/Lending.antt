-- What is written through `deref_mut`.
use Rattle.std.specs.Prelude.{List}
use Rattle.std.specs.Borrow.{Lends, MutBor, Fml}
use Rattle.der_tree.specs.contracts.list.SequenceOf as list
use Rattle.pkix_cert.specs.declared.extension.Extension.{Extension}
use Rattle.pkix_cert.specs.declared.extension.Extensions.{Extensions}
use Rattle.pkix_cert.specs.contracts.extension.Extension as extension
use Rattle.pkix_cert.specs.contracts.extension.Extensions as extensions

-- the list is what was written
abbrev pub LendsExtensions : MutBor Extensions → MutBor (List Extension) → Fml
LendsExtensions s r = Lends extensions.the_row (list.the_row extension.the_row) s r (λ l. record { 0 = l })
