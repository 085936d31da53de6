use Rattle.rcgen_text.specs.DnTypes.{kind_of}
use Rattle.rcgen_text.specs.DnValues.{text_of}
use Rattle.rcgen_text.specs.Names.{entries_of}
use Rattle.rcgen_text.proofs.DistinctTypes.{pushed_distinct}
use Rattle.rcgen_text.proofs.NameLemmas.{pushed_new, pushed_there}
use Rattle.rcgen_text.proofs.Places.{stands_at}
use Rattle.rcgen_text.proofs.distinguished_name.DistinguishedName.put.Goals as goal

pub invariant_of-self : goal.invariant_of-self
invariant_of-self c =
    pushed_distinct (entries_of c.self.inside.entries.items) _ (kind_of c.args.ty) (text_of c.args.value) c.self.invariant
    (pushed_there c.self.inside.entries.items (kind_of c.args.ty) c.args.value c.in-Some.place c.index_mut.result.now
    (stands_at _ _ _ _ _ c.self.view_is c.requires.place c.in-Some.is) c.index_mut.ensures.value)

pub invariant_of-self-in-None : goal.invariant_of-self-in-None
invariant_of-self-in-None c =
    pushed_distinct (entries_of c.self.inside.entries.items) _ (kind_of c.args.ty) (text_of c.args.value) c.self.invariant
    (rw c.in_ok-push-in-None.ensures.items (pushed_new c.self.inside.entries.items c.args.ty c.args.value
    (stands_at _ _ _ _ _ c.self.view_is c.requires.place c.in-None.is)))

pub returns-in-Some-clause-ok : goal.returns-in-Some-clause-ok
returns-in-Some-clause-ok c =
    rw (← c.self.view_is) (pushed_there c.self.inside.entries.items (kind_of c.args.ty) c.args.value c.in-Some.place c.index_mut.result.now
    (stands_at _ _ _ _ _ c.self.view_is c.requires.place c.in-Some.is) c.index_mut.ensures.value)

pub returns-in_ok-push-in-None-clause-ok : goal.returns-in_ok-push-in-None-clause-ok
returns-in_ok-push-in-None-clause-ok c =
    rw (c.in_ok-push-in-None.ensures.items, ← c.self.view_is)
    (pushed_new c.self.inside.entries.items c.args.ty c.args.value (stands_at _ _ _ _ _ c.self.view_is c.requires.place c.in-None.is))
