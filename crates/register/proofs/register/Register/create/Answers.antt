use Rattle.std.proofs.Common.{ap, ◌∙◌}
use Rattle.register_record.specs.Records.{State, after}
use Rattle.register_record.specs.declared.event.Event.TheVariants as event
use Rattle.register.proofs.Registers.{empty}
use Rattle.register.proofs.register.Register.create.Goals as goal

pub returns-in-Ok-append-clause-issuer : goal.returns-in-Ok-append-clause-issuer
returns-in-Ok-append-clause-issuer g c =
    let none = c.has_events.ensures c.if-has_events.false in
    let nothing_is = empty (g.S.Store.view c.in-Ok.register.store) c.in-Ok.register.record (c.in-Ok.ensures.register c.in-Ok.ensures.opened) none in
    c.in-Ok-append.ensures.ok.1 ∙ ap (λ (s : State). after s (event.Issuer c.args.certificate)) nothing_is
