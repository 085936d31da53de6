use Rattle.rsa.proofs.Masks.{hash-length, mgf1-length}
use Rattle.rsa.proofs.Signed.{bits_bound}
use Rattle.rsa.proofs.options_have_lengths.Goals as goal

pub returns : goal.returns
returns c = record { digest = hash-length; mask = mgf1-length; modulus = bits_bound }
