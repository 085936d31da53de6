use Rattle.rsa.proofs.Consistent.{db_is}
use Rattle.rsa.proofs.emsa_pss.unmask.Goals as goal

pub returns : goal.returns
returns c =
    db_is c.args.hash c.args.bits c.args.octets.now c.args.digest.now c.mask.new.octets c.set_zeros.new.octets c.set_zeros.ensures c.mask.ensures
