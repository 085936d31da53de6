use Rattle.std.proofs.Common.{length}
use Rattle.rsa.proofs.Masks.{masked_is}
use Rattle.rsa.proofs.mgf1.mask.Goals as goal

pub returns : goal.returns
returns c =
    masked_is c.args.hash c.args.octets.now c.xor_with.new.octets c.args.seed.now c.hash_counters.new.octets c.digest_length-size.result
    (length c.args.octets.now) c.digest_length-size.ensures c.hash_counters.ensures c.xor_with.ensures
