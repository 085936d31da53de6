use Rattle.shelf_core.specs.Outcome.{Comes}
use Rattle.word_outcomes.proofs.Answered.{answered}
use Rattle.word_outcomes.proofs.laws.each_request_has_one_answer.Goals as goal

pub returns : goal.returns
returns c = λ action strict is_der has_revoked inputs w.
    answered (Comes action strict is_der has_revoked inputs) (c.each_request_has_one_outcome.ensures action strict is_der has_revoked inputs w)
