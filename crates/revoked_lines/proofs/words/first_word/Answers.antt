use Rattle.std.proofs.Common.{Some, None, arith}
use Rattle.std.proofs.lemmas.Str.Pattern.{split_once_first}
use Rattle.revoked_lines.proofs.Lines.{cut_first, uncut}
use Rattle.revoked_lines.proofs.words.first_word.Goals as goal

pub returns-in-Some : goal.returns-in-Some
returns-in-Some c =
    let cut = split_once_first 32 c.args.text.now (Some (c.in-Some.word, c.in-Some.rest)) c.in-Some.ensures.cases (omega arith) in
    cut_first 32 c.args.text.now c.in-Some.word.now c.in-Some.rest.now cut.0 cut.1 cut.2

pub returns-in-None : goal.returns-in-None
returns-in-None c = uncut 32 c.args.text.now (split_once_first 32 c.args.text.now None c.in-None.ensures.cases (omega arith))
