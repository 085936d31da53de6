use Rattle.der_tree.specs.Windows.{shown}
use Rattle.rcgen_read.proofs.Fronts.{begun, refused}
use Rattle.rcgen_read.proofs.received.front_window.Goals as goal

pub returns-in-Ok : goal.returns-in-Ok
returns-in-Ok c = begun c.args.bytes.now (shown c.in-Ok.window) c.in-Ok.field-0-1.now c.in-Ok.ensures.element

pub returns-in-Err : goal.returns-in-Err
returns-in-Err c = refused c.args.bytes.now c.in-Err.field-0 c.in-Err.ensures.incomplete c.in-Err.ensures.malformed
