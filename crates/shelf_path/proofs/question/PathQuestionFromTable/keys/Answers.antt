use Rattle.toml_format.proofs.Keys.{one_more}
use Rattle.shelf_path.specs.Questions.{question_values}
use Rattle.shelf_path.proofs.question.PathQuestionFromTable.keys.Goals as goal

pub returns : goal.returns
unfolding question_values
returns c =
    let r0 = c.new.ensures in
    let r1 = one_more _ _ _ _ r0 c.in_ok-required.ensures in
    let r2 = one_more _ _ _ _ r1 c.in_ok-optional.ensures in
    let r3 = one_more _ _ _ _ r2 c.in_ok-defaulted.ensures in
    let r4 = one_more _ _ _ _ r3 c.in_ok-defaulted-2.ensures in
    let r5 = one_more _ _ _ _ r4 c.in_ok-defaulted-3.ensures in
    one_more _ _ _ _ r5 c.in_ok-reader.ensures
