use Rattle.std.proofs.Common.{◌∙◌, ap, inl, inr, map, string_bytes, subst, sym}
use Rattle.command_run.specs.Status.{status_of}
use Rattle.command_files.specs.Ends.{IsEndStatus}
use Rattle.command_files.proofs.Deciding.{decided, not_too_long, stopped}
use Rattle.command_files.proofs.running.run.Goals as goal

pub returns-in-Ok-clause-decided : goal.returns-in-Ok-clause-decided
returns-in-Ok-clause-decided g c = λ wanted x.
    let w = c.in-Ok.ensures.whole in
    inr (inr (inl (c.status.ensures ∙ ap status_of (decided (g.C.FileCommand.command_of (map string_bytes c.args.words.now)) (g.I.Inputs.stored c.args.inputs.now)
    g.C.FileCommand.inputs_of g.C.FileCommand.gives c.in-Ok-Some.command wanted c.in-Ok.ending w.0 w.2.text w.2.complaint
    (sym c.in-Ok-Some.ensures ∙ c.in-Ok-Some.field-0-is) w.1 w.2.given x))))

pub returns-clause-decided : goal.returns-clause-decided
returns-clause-decided g c = λ wanted x.
    let kinds = rw c.in-Err-Stopped.field-0-is at c.in-Err-Stopped.ensures.kinds in
    let too_long = rw c.in-Err-Stopped.field-0-is at c.in-Err-Stopped.ensures.too_long in
    let end = c.status-in-Err-Stopped.ensures in
    stopped c.status-in-Err-Stopped.result wanted (subst IsEndStatus (sym end) kinds)
    (λ h. not_too_long (g.C.FileCommand.command_of (map string_bytes c.args.words.now)) (g.I.Inputs.stored c.args.inputs.now)
    g.C.FileCommand.inputs_of g.C.FileCommand.gives c.in-Ok-Some.command wanted (sym c.in-Ok-Some.ensures ∙ c.in-Ok-Some.field-0-is) x
    (too_long (sym end ∙ h)))
