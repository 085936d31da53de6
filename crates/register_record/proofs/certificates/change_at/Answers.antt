use Rattle.register_record.specs.Records.{changed_to}
use Rattle.register_record.proofs.Placed.{put_there}
use Rattle.register_record.proofs.certificates.change_at.Goals as goal

pub returns : goal.returns
returns c = λ q at.
    put_there q (changed_to c.args.change c.args.since) c.args.list.now.items c.args.place c.index_mut-certificate.result.now at
    c.index_mut-certificate.ensures.value
