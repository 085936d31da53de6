use Rattle.std.proofs.Common.{sym, ◌∙◌}
use Rattle.der_tree.specs.Windows.{shown}
use Rattle.pkix_cert.proofs.Seeing.{only_more, only_none, only_read, only_unread}
use Rattle.pkix_cert.proofs.seen.plain_within.Goals as goal

pub returns-in_err-inner : goal.returns-in_err-inner
returns-in_err-inner g c =
    c.from_residual-in_err-inner.ensures
    ∙ only_none g.T.Form.codec _ c.in_ok-within.field-0.complete c.in_ok-within.field-0.elements c.in_ok-within.ensures c.in_err-inner.ensures.elements

pub returns-in_err-value : goal.returns-in_err-value
returns-in_err-value g c =
    c.from_residual-in_err-value.ensures
    ∙ only_unread g.T.Form.codec _ c.in_ok-within.field-0.complete c.in_ok-within.field-0.elements c.in_ok-within.ensures
    (shown c.in_ok-inner.inner) c.in_ok-inner.rest.elements c.in_ok-inner.ensures.elements (sym c.in_err-value.ensures)

pub returns-then-not-is_empty : goal.returns-then-not-is_empty
returns-then-not-is_empty g c =
    only_more g.T.Form.codec _ c.in_ok-within.field-0.complete c.in_ok-within.field-0.elements c.in_ok-within.ensures
    (shown c.in_ok-inner.inner) c.in_ok-inner.rest.elements c.in_ok-value.value c.in_ok-inner.rest.complete
    c.in_ok-inner.ensures.elements (sym c.in_ok-value.ensures) c.in_ok-inner.ensures.complete (sym c.if-not-is_empty.ensures)

pub returns : goal.returns
returns g c =
    only_read g.T.Form.codec _ c.in_ok-within.field-0.complete c.in_ok-within.field-0.elements c.in_ok-within.ensures
    (shown c.in_ok-inner.inner) c.in_ok-inner.rest.elements c.in_ok-value.value c.in_ok-inner.rest.complete
    c.in_ok-inner.ensures.elements (sym c.in_ok-value.ensures) c.in_ok-inner.ensures.complete (sym c.if-not-is_empty.ensures)
