use Rattle.rcgen_read.proofs.IssuedBack.{issued_back}
use Rattle.rcgen_read.proofs.request_laws.issued_as_requested.Goals as goal

pub returns : goal.returns
returns c = issued_back c.names_are_written_back.ensures.name
