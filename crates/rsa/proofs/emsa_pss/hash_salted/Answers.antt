use Rattle.rsa.proofs.Consistent.{salted_is}
use Rattle.rsa.proofs.emsa_pss.hash_salted.Goals as goal

pub returns : goal.returns
returns c =
    salted_is c.args.hash c.args.message.now c.args.salt.now c.hash_parts.new.digest c.hash_parts-2.new.digest c.hash_parts.ensures c.hash_parts-2.ensures
