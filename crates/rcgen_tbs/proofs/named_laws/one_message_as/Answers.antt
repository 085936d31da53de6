use Rattle.rcgen_tbs.proofs.UnderNames.{one_message_as}
use Rattle.rcgen_tbs.proofs.named_laws.one_message_as.Goals as goal

pub returns : goal.returns
returns c = one_message_as c.to_be_signed_once.ensures
