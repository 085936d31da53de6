use Rattle.rcgen_tbs.proofs.SubjectsOnce.{one_message_for}
use Rattle.rcgen_tbs.proofs.laws.one_message_for.Goals as goal

pub returns : goal.returns
returns c = one_message_for c.to_be_signed_once.ensures
