use Rattle.std.proofs.Common.{sym, ◌∙◌}
use Rattle.der_tree.proofs.SplitLaws.{first_none, first_some}
use Rattle.der_tree.specs.Windows.{shown}
use Rattle.der_tree.proofs.fields.Fields.first.Goals as goal

pub returns-in-Err-clause-fields : goal.returns-in-Err-clause-fields
returns-in-Err-clause-fields c = sym c.self.view_is ∙ first_none c.self.inside.rest.now c.in-Err.ensures.element.0 c.self.invariant

pub invariant_of-result : goal.invariant_of-result
invariant_of-result c = (first_some c.self.inside.rest.now (shown c.in-Ok.window) c.in-Ok.rest.now c.in-Ok.ensures.element.0 c.self.invariant).0

pub returns-in-Ok-clause-fields : goal.returns-in-Ok-clause-fields
returns-in-Ok-clause-fields c = sym c.self.view_is ∙ (first_some c.self.inside.rest.now (shown c.in-Ok.window) c.in-Ok.rest.now c.in-Ok.ensures.element.0 c.self.invariant).1
