use Rattle.std.proofs.Common.{sym}
use Rattle.register_record.proofs.Placed.{found_there, nowhere, within}
use Rattle.register_record.proofs.certificates.Certificates.get.Goals as goal

pub index-requires : goal.index-requires
index-requires c = within c.args.serial.now c.self.inside.list c.in-Some.place (rw (← c.self.view_is) at (sym c.in-Some.ensures))

pub returns-in-Some : goal.returns-in-Some
returns-in-Some c =
    rw (← c.self.view_is) (sym (found_there c.args.serial.now c.self.inside.list.items c.in-Some.place c.index.result.now
    (rw (← c.self.view_is) at (sym c.in-Some.ensures)) c.index.ensures))

pub returns-in-None : goal.returns-in-None
returns-in-None c = sym (nowhere c.args.serial.now c.args.self.now (sym c.in-None.ensures))
