use Rattle.revoked_lines.proofs.Lines.{known, unknown}
use Rattle.revoked_lines.proofs.text.with_text.Goals as goal

pub returns-in-Ok : goal.returns-in-Ok
returns-in-Ok c = known c.args.is_delta c.args.found.items c.args.text.now c.in-Ok.text.now c.with_lines.result c.in-Ok.ensures.cases c.with_lines.ensures

pub returns-in-Err : goal.returns-in-Err
returns-in-Err c = λ _. unknown c.args.is_delta c.args.found.items c.args.text.now c.in-Err.ensures.cases.0
