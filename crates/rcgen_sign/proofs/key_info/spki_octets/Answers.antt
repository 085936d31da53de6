use Rattle.rcgen_sign.proofs.InfoOctets.{octets_are, octets_there}
use Rattle.rcgen_sign.proofs.key_info.spki_octets.Goals as goal

pub returns-clause-form : goal.returns-clause-form
returns-clause-form c = octets_are

pub returns-clause-there : goal.returns-clause-there
returns-clause-there c = octets_there
