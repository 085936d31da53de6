use Rattle.rcgen_tbs.proofs.UnderNames.{assembled_as, message_as_is_one}
use Rattle.rcgen_tbs.proofs.named_laws.assembled_as.Goals as goal

pub returns-clause-element : goal.returns-clause-element
returns-clause-element c = message_as_is_one

pub returns-clause-certificate : goal.returns-clause-certificate
returns-clause-certificate c = assembled_as
