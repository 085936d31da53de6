use Rattle.rcgen_read.proofs.AnsweredRows.{kept}
use Rattle.rcgen_read.proofs.request_laws.extensions_are_kept.Goals as goal

pub returns : goal.returns
returns c = kept
