use Rattle.rcgen_tbs.proofs.Deltas.{one_list_message}
use Rattle.rcgen_tbs.proofs.delta_laws.one_list_message.Goals as goal

pub returns : goal.returns
returns c = one_list_message c.list_to_be_signed_once.ensures
