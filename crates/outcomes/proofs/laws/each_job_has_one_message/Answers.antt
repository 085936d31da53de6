use Rattle.outcomes.proofs.Jobs.{one_each}
use Rattle.outcomes.proofs.laws.each_job_has_one_message.Goals as goal

pub returns : goal.returns
returns c =
    one_each c.message_once.ensures c.certificates_have_messages.ensures c.requests_have_messages.ensures c.lists_have_messages.ensures
    c.attribute_certificates_have_messages.ensures
