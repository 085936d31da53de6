use Rattle.register_record.specs.Records.{sealed_as}
use Rattle.register_record.proofs.Placed.{put_there}
use Rattle.register_record.proofs.certificates.seal_at.Goals as goal

pub returns : goal.returns
returns c = λ q at. put_there q (sealed_as c.args.octets) c.args.list.now.items c.args.place c.index_mut-certificate.result.now at
    c.index_mut-certificate.ensures.value
