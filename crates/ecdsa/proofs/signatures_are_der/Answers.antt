use Rattle.ecdsa.proofs.Der.{read_both_ways}
use Rattle.ecdsa.proofs.signatures_are_der.Goals as goal

pub returns : goal.returns
returns c = read_both_ways
