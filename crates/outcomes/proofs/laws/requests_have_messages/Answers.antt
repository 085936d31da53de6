use Rattle.outcomes.proofs.Requests.{request_messages}
use Rattle.outcomes.proofs.laws.requests_have_messages.Goals as goal

pub returns : goal.returns
returns c = request_messages
