use Rattle.std.proofs.Common.{map, string_bytes, subst}
use Rattle.command_run.specs.Status.{EndsWith}
use Rattle.command_run.specs.declared.status.Ending.TheVariants as endings
use Rattle.command_run.specs.declared.status.Status.{Status}
use Rattle.command_run.specs.declared.status.Status.TheVariants.{Done}
use Rattle.certify_core.proofs.Ends.{answered, cut_short, decides_ending, other_fault, silent_is_done, unread, unwritten}
use Rattle.certify_core.proofs.running.run.Goals as goal

pub returns-clause-write_fault : goal.returns-clause-write_fault
returns-clause-write_fault g c = λ e. other_fault (c.run.ensures.write_fault e)

pub returns-clause-done : goal.returns-clause-done
returns-clause-done g c = λ e. answered (map string_bytes c.args.words.now) _ _ _ _ endings.Done (c.run.ensures.answered endings.Done e)

pub returns-clause-bad_profile : goal.returns-clause-bad_profile
returns-clause-bad_profile g c = λ e.
    answered (map string_bytes c.args.words.now) _ _ _ _ endings.BadProfile (c.run.ensures.answered endings.BadProfile e)

pub returns-clause-refused : goal.returns-clause-refused
returns-clause-refused g c = λ e. answered (map string_bytes c.args.words.now) _ _ _ _ endings.Refused (c.run.ensures.answered endings.Refused e)

pub returns-clause-cut_short : goal.returns-clause-cut_short
returns-clause-cut_short g c = λ e. cut_short (map string_bytes c.args.words.now) _ _ _ _ (c.run.ensures.cut_short e)

pub returns-clause-silent : goal.returns-clause-silent
returns-clause-silent g c = λ q.
    let left = g.S.Source.left c.args.source.now in
    unread c.run.result Done (c.run.ensures.unread q).1 (c.run.ensures.decided endings.Done (silent_is_done (map string_bytes c.args.words.now) left q))

pub returns-clause-decided : goal.returns-clause-decided
returns-clause-decided g c = λ wanted q read wrote.
    let left = g.S.Source.left c.args.source.now in
    let d = decides_ending (map string_bytes c.args.words.now) left wanted q in
    subst (λ (s : Status). EndsWith s c.run.result) d.1
    (unwritten c.run.result _ (λ e. wrote (other_fault (c.run.ensures.write_fault e)))
    (unread c.run.result _ (λ e. read (c.run.ensures.read_fault e)) (c.run.ensures.decided d.0 d.2)))
