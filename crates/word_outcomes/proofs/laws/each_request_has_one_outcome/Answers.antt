use Rattle.word_outcomes.proofs.Requests.{one_each}
use Rattle.word_outcomes.proofs.laws.each_request_has_one_outcome.Goals as goal

pub returns : goal.returns
returns c =
    one_each c.one_outcome.ensures c.each_job_has_one_message.ensures c.each_signature_has_one_result.ensures c.written_is_read.ensures
    c.each_instant_is_civil.ensures
