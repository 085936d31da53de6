use Rattle.rsa.proofs.Encodings.{info-length, encoded-length}
use Rattle.rsa.proofs.encodings_have_lengths.Goals as goal

pub returns : goal.returns
returns c = record { digest_info = info-length; encoded = encoded-length }
