use Rattle.std.proofs.Common.{sym, ◌∙◌}
use Rattle.lint_files.proofs.Puts.{added, kept}
use Rattle.lint_files.proofs.issuers.put.Goals as goal

pub returns-then-contains_key : goal.returns-then-contains_key
returns-then-contains_key c = λ q.
    kept c.ties_are_equal.ensures c.ties_are_alike.ensures c.args.firsts.now c.args.key q c.args.octets.now (sym c.contains_key.ensures ∙ c.if-contains_key.true)

pub returns : goal.returns
returns c = λ q.
    added c.ties_are_equal.ensures c.ties_are_alike.ensures c.args.firsts.now c.insert.new.self c.args.key q c.args.octets
    (sym c.contains_key.ensures ∙ c.if-contains_key.false) (c.in_ok-insert.ensures.updates.0 q)
