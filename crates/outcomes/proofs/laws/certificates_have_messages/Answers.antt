use Rattle.outcomes.proofs.Certificates.{certificate_messages}
use Rattle.outcomes.proofs.laws.certificates_have_messages.Goals as goal

pub returns : goal.returns
returns c = certificate_messages
