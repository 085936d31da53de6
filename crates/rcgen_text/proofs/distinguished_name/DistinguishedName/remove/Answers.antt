use Rattle.std.proofs.Common.{sym}
use Rattle.rcgen_text.specs.DnTypes.{kind_of}
use Rattle.rcgen_text.specs.Names.{entries_of}
use Rattle.rcgen_text.proofs.DistinctTypes.{removed_distinct}
use Rattle.rcgen_text.proofs.NameLemmas.{not_there, there, removed_none, removed_there}
use Rattle.rcgen_text.proofs.distinguished_name.DistinguishedName.remove.Goals as goal

pub invariant_of-self : goal.invariant_of-self
invariant_of-self c =
    removed_distinct (entries_of c.self.inside.entries.items) _ (kind_of c.args.ty.now) c.self.invariant
    (rw c.remove-attribute.ensures.items (removed_there c.self.inside.entries.items (kind_of c.args.ty.now) c.in-Some.place
    (rw c.as_slice.ensures.value at (sym c.in-Some.ensures))))

pub returns-in-Some-clause-there : goal.returns-in-Some-clause-there
returns-in-Some-clause-there c =
    rw (← c.self.view_is) (sym (there c.self.inside.entries.items (kind_of c.args.ty.now) c.in-Some.place
    (rw c.as_slice.ensures.value at (sym c.in-Some.ensures))))

pub returns-in-Some-clause-left : goal.returns-in-Some-clause-left
returns-in-Some-clause-left c =
    rw (c.remove-attribute.ensures.items, ← c.self.view_is)
    (removed_there c.self.inside.entries.items (kind_of c.args.ty.now) c.in-Some.place (rw c.as_slice.ensures.value at (sym c.in-Some.ensures)))

pub returns-in-None-clause-there : goal.returns-in-None-clause-there
returns-in-None-clause-there c =
    rw (← c.self.view_is) (sym (not_there c.self.inside.entries.items (kind_of c.args.ty.now) (rw c.as_slice.ensures.value at (sym c.in-None.ensures))))

pub returns-in-None-clause-left : goal.returns-in-None-clause-left
returns-in-None-clause-left c =
    rw (← c.self.view_is) (removed_none c.self.inside.entries.items (kind_of c.args.ty.now) (rw c.as_slice.ensures.value at (sym c.in-None.ensures)))
