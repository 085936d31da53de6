use Rattle.std.proofs.Common.{Some, None, arith}
use Rattle.std.proofs.lemmas.Str.Pattern.{split_once_first}
use Rattle.register_lines.proofs.Cutting.{cut_nowhere, cut_there}
use Rattle.register_lines.proofs.index.cut_tab.Goals as goal

pub returns-in-Some : goal.returns-in-Some
returns-in-Some c =
    let cut = split_once_first 9 c.args.text.now (Some (c.in-Some.front, c.in-Some.back)) c.in-Some.ensures.cases (omega arith) in
    cut_there 9 c.args.text.now c.in-Some.front.now c.in-Some.back.now cut.0 cut.1 cut.2

pub returns-in-None : goal.returns-in-None
returns-in-None c = cut_nowhere 9 c.args.text.now (split_once_first 9 c.args.text.now None c.in-None.ensures.cases (omega arith))
