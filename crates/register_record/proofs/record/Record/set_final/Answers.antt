use Rattle.std.proofs.Common.{ap, sym, ◌∙◌}
use Rattle.register_record.specs.Records.{changed, changed_to, made_final, number_of}
use Rattle.register_record.specs.declared.state.Change.TheVariants.{Revoked}
use Rattle.register_record.proofs.Placed.{final_same, none_found}
use Rattle.register_record.proofs.record.Record.set_final.Goals as goal

pub returns-in-Some : goal.returns-in-Some
returns-in-Some c =
    let s = c.args.self.now in
    let q = c.args.serial.now in
    let n = number_of s.last in
    c.change.ensures
    ∙ ap (λ cs. record s { certificates = cs })
    (ap (λ x. changed q (changed_to (Revoked x) n) s.certificates) c.in_place_of-placed.ensures
    ∙ final_same q c.args.revocation n s.certificates c.in-Some.certificate.now (sym c.in-Some.ensures))

pub returns-in-None : goal.returns-in-None
returns-in-None c =
    let s = c.args.self.now in
    ap (λ cs. record s { certificates = cs })
    (sym (none_found c.args.serial.now (made_final c.args.revocation (number_of s.last)) s.certificates (sym c.in-None.ensures)))
