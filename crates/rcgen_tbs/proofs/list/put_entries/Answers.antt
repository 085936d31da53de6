use Rattle.std.proofs.Common.{◌∙◌, sym}
use Rattle.rcgen_tbs.proofs.Frames.{none_behind, some_behind}
use Rattle.rcgen_tbs.proofs.list.put_entries.Goals as goal

pub returns-then-has_none-clause-puts : goal.returns-then-has_none-clause-puts
returns-then-has_none-clause-puts c = none_behind c.args.fields.now c.args.entries (sym c.has_none.ensures ∙ c.if-has_none.true)

pub returns-clause-puts : goal.returns-clause-puts
returns-clause-puts c =
    some_behind c.args.fields.now _ c.args.entries (sym c.has_none.ensures ∙ c.if-has_none.false) c.requires c.in_ok-push.ensures.ok
