use Rattle.outcomes.proofs.Lists.{list_messages}
use Rattle.outcomes.proofs.laws.lists_have_messages.Goals as goal

pub returns : goal.returns
returns c = list_messages
