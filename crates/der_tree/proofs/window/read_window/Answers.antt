use Rattle.der_tree.proofs.Completions.{bytes_are}
use Rattle.der_tree.specs.Windows.{shown}
use Rattle.der_tree.proofs.WindowLaws.{found, front, incomplete, malformed}
use Rattle.der_tree.proofs.window.read_window.Goals as goal

pub returns-clause-element : goal.returns-clause-element
returns-clause-element c = found (λ x. (shown x.0, x.1.now)) c.args.input.now c.element_at.result c.element_at.ensures.element

pub returns-clause-front : goal.returns-clause-front
returns-clause-front c = front (λ x. (shown x.0, x.1.now)) c.args.input.now c.element_at.result c.element_at.ensures.element

pub returns-clause-incomplete : goal.returns-clause-incomplete
returns-clause-incomplete c = incomplete (λ x. (shown x.0, x.1.now)) c.args.input.now c.element_at.result (bytes_are c.args.input.now c.type_inv.input) c.element_at.ensures.element

pub returns-clause-malformed : goal.returns-clause-malformed
returns-clause-malformed c = malformed (λ x. (shown x.0, x.1.now)) c.args.input.now c.element_at.result (bytes_are c.args.input.now c.type_inv.input) c.element_at.ensures.element
