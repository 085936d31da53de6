use Rattle.rcgen_certificate.proofs.KeyUsages.{are_bits_of}
use Rattle.rcgen_certificate.proofs.key_usage.key_usage_bits.Goals as goal

pub returns : goal.returns
returns c = are_bits_of
