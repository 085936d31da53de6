use Rattle.std.proofs.Common.{sym}
use Rattle.der_tree.specs.Windows.{shown}
use Rattle.der_tree.proofs.FormLaws.{none_unread, none_without}
use Rattle.der_tree.proofs.Reading.{err_none}
use Rattle.der_tree.proofs.der.decode_exact.Goals as goal

pub returns-in_default-clause-none : goal.returns-in_default-clause-none
returns-in_default-clause-none g c e v h = none_without g.T.Form.codec c.args.input.now (sym c.in_default.ensures.element) v h

pub returns-in_err-value-clause-none : goal.returns-in_err-value-clause-none
returns-in_err-value-clause-none g c e v h =
    none_unread g.T.Form.codec c.args.input.now (shown c.in-Some.window) (sym c.in-Some.ensures.element)
    (err_none c.from_residual.result c.in_err-value.field-0.0 (g.T.Form.codec.read_of (shown c.in-Some.window)) c.in_err-value.ensures c.from_residual.ensures.1 e) v h
