use Rattle.der_tree.specs.Windows.{shown}
use Rattle.pkix_cert.proofs.Viewing.{begun, refused}
use Rattle.pkix_cert.proofs.elements.element_in_front.Goals as goal

pub returns-in-Ok-clause-element : goal.returns-in-Ok-clause-element
returns-in-Ok-clause-element c = begun c.args.octets.now (shown c.in-Ok.window) c.in-Ok.rest.now c.in-Ok.ensures.element

pub returns-in-Err-clause-element : goal.returns-in-Err-clause-element
returns-in-Err-clause-element c = refused c.args.octets.now c.in-Err.field-0 c.in-Err.ensures.incomplete c.in-Err.ensures.malformed
