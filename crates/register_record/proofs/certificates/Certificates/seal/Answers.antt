use Rattle.std.proofs.Common.{ap, refl, sym, ◌∙◌}
use Rattle.register_record.specs.Places.{place_of}
use Rattle.register_record.specs.Records.{sealed_as}
use Rattle.register_record.proofs.Placed.{none_changed, place_changed, within}
use Rattle.register_record.proofs.certificates.Certificates.seal.Goals as goal

pub seal_at-requires : goal.seal_at-requires
seal_at-requires c = within c.args.serial.now c.self.inside.list c.in-Some.place (rw (← c.self.view_is) at (sym c.in-Some.ensures))

pub invariant_of-self : goal.invariant_of-self
invariant_of-self c = λ q.
    let at = rw (← c.self.view_is) at (sym c.in-Some.ensures) in
    c.self.invariant q
    ∙ sym (ap (place_of q) (c.seal_at.ensures c.args.serial.now at)
    ∙ place_changed q c.args.serial.now (sealed_as c.args.octets) c.self.inside.list.items (λ _. refl))

pub returns-in-Some : goal.returns-in-Some
returns-in-Some c = rw (← c.self.view_is) (c.seal_at.ensures c.args.serial.now (rw (← c.self.view_is) at (sym c.in-Some.ensures)))

pub returns-in_default : goal.returns-in_default
returns-in_default c = sym (none_changed c.args.serial.now (sealed_as c.args.octets) c.args.self.now (sym c.in_default.ensures))
