use Rattle.rcgen_tbs.proofs.Once.{one_request_message}
use Rattle.rcgen_tbs.proofs.laws.one_message.Goals as goal

pub returns-clause-request : goal.returns-clause-request
returns-clause-request c = one_request_message c.request_info_once.ensures
