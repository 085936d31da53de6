use Rattle.std.proofs.Common.{ap, refl, sym, ◌∙◌}
use Rattle.register_record.specs.Places.{place_of}
use Rattle.register_record.specs.Records.{changed_to}
use Rattle.register_record.proofs.Placed.{none_changed, place_changed, within}
use Rattle.register_record.proofs.certificates.Certificates.change.Goals as goal

pub change_at-requires : goal.change_at-requires
change_at-requires c = within c.args.serial.now c.self.inside.list c.in-Some.place (rw (← c.self.view_is) at (sym c.in-Some.ensures))

pub invariant_of-self : goal.invariant_of-self
invariant_of-self c = λ q.
    let at = rw (← c.self.view_is) at (sym c.in-Some.ensures) in
    c.self.invariant q
    ∙ sym (ap (place_of q) (c.change_at.ensures c.args.serial.now at)
    ∙ place_changed q c.args.serial.now (changed_to c.args.change c.args.since) c.self.inside.list.items (λ _. refl))

pub returns-in-Some : goal.returns-in-Some
returns-in-Some c = rw (← c.self.view_is) (c.change_at.ensures c.args.serial.now (rw (← c.self.view_is) at (sym c.in-Some.ensures)))

pub returns-in_default : goal.returns-in_default
returns-in_default c = sym (none_changed c.args.serial.now (changed_to c.args.change c.args.since) c.args.self.now (sym c.in_default.ensures))
