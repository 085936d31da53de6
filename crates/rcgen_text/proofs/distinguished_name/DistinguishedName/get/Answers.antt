use Rattle.std.proofs.Common.{sym}
use Rattle.rcgen_text.specs.DnTypes.{kind_of}
use Rattle.rcgen_text.proofs.NameLemmas.{found_there, found_none}
use Rattle.rcgen_text.proofs.distinguished_name.DistinguishedName.get.Goals as goal

pub returns-in-Some : goal.returns-in-Some
returns-in-Some c =
    rw (← c.self.view_is) (sym (found_there c.self.inside.entries.items (kind_of c.args.ty.now) c.in-Some.place c.index.result.now
    (rw c.as_slice.ensures.value at (sym c.in-Some.ensures)) c.index.ensures))

pub returns-in-None : goal.returns-in-None
returns-in-None c =
    rw (← c.self.view_is) (sym (found_none c.self.inside.entries.items (kind_of c.args.ty.now) (rw c.as_slice.ensures.value at (sym c.in-None.ensures))))
