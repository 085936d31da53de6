use Rattle.std.proofs.Common.{◌∙◌, [], List, ap}
use Rattle.rule_table.specs.declared.rule.Rule.{Rule}
use Rattle.shelf_core.specs.Outcome.{outcome, unless_stopped}
use Rattle.shelf_core.proofs.Sealing.{seals}
use Rattle.shelf_core.proofs.answer.sealed.Goals as goal

pub returns-clause-text : goal.returns-clause-text
returns-clause-text c =
    seals c.args.is_strict c.args.is_der c.args.job c.args.signature.now c.in_ok-message.message.items c.in_ok-der.der.items c.in_ok-text.text.items
    c.in_ok-broken.broken.items c.deref.result.now c.deref-2.result.now c.label-label.result.now (outcome c.in_ok-sealed.sealed)
    c.in_ok-message.ensures.ready c.in_ok-message.ensures.message c.deref.ensures.value c.deref-2.ensures.value c.in_ok-der.ensures.checked
    c.in_ok-der.ensures.sealed c.label-label.ensures.label c.in_ok-text.ensures.read_back c.in_ok-text.ensures.text c.in_ok-broken.ensures
    (c.in_ok-sealed.ensures ∙ ap (λ (o : List Rule). unless_stopped c.args.is_strict o c.in_ok-text.text.items []) c.deref-3.ensures.value)
