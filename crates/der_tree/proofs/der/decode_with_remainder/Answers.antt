use Rattle.der_tree.proofs.FormLaws.{none_is_none, unread_is_none}
use Rattle.der_tree.proofs.Reading.{err_none}
use Rattle.der_tree.specs.Windows.{shown}
use Rattle.der_tree.proofs.der.decode_with_remainder.Goals as goal

pub returns-in_err-window-clause-none : goal.returns-in_err-window-clause-none
returns-in_err-window-clause-none g c e v b rest h f = none_is_none g.T.Form.codec c.args.input.now c.in_err-window.ensures.element.0 v b rest h f

pub returns-in_err-value-clause-none : goal.returns-in_err-value-clause-none
returns-in_err-value-clause-none g c e v b rest h f =
    unread_is_none g.T.Form.codec c.args.input.now (shown c.in_ok-window.window) c.in_ok-window.rest.now c.in_ok-window.ensures.element.0
    (err_none c.from_residual-in_err-value.result c.in_err-value.field-0.0 (g.T.Form.codec.read_of (shown c.in_ok-window.window)) c.in_err-value.ensures c.from_residual-in_err-value.ensures.1 e) v b rest h f
