use Rattle.outcomes.proofs.Attributes.{attribute_messages}
use Rattle.outcomes.proofs.laws.attribute_certificates_have_messages.Goals as goal

pub returns : goal.returns
returns c = attribute_messages
