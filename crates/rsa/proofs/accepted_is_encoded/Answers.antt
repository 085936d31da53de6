use Rattle.rsa.proofs.Accepted.{accepted-length, accepted-range, accepted-encoded}
use Rattle.rsa.proofs.accepted_is_encoded.Goals as goal

pub returns : goal.returns
returns c = record { length = accepted-length; range = accepted-range; encoded = accepted-encoded }
