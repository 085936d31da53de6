use Rattle.rcgen_sign.specs.Keys.{key_of_parts}
use Rattle.rcgen_sign.proofs.InfoOctets.{octets_of}
use Rattle.rcgen_sign.proofs.key_pair.info_octets.Goals as goal

pub returns-clause-octets : goal.returns-clause-octets
returns-clause-octets c =
    octets_of (key_of_parts c.args.algorithm c.args.key.now) c.in_ok-info.info c.in_ok-octets.octets.items c.in_ok-info.ensures.value
    (rw c.in_ok-octets.ensures.value at c.encode.ensures.ok)
