use Rattle.shelf_job.proofs.Sealing.{message_is_one, sealed_over}
use Rattle.shelf_job.proofs.job.Job.signed.Goals as goal

pub assemble-requires : goal.assemble-requires
assemble-requires c =
    let m = c.messages_are_elements.ensures in
    rw c.in_ok-octets.ensures.items (message_is_one c.assembled_as.ensures.element c.assembled_list.ensures.element m.request m.attribute c.args.self.now c.args.message.now c.requires)

pub returns-clause-sealed : goal.returns-clause-sealed
returns-clause-sealed c =
    let a = c.assembled_is_issued.ensures in
    sealed_over c.assembled_as.ensures.certificate c.assembled_list.ensures.list a.request a.attribute c.args.self.now c.args.message.now c.args.signature.now c.in_ok-der.der.items c.requires
    (rw (c.in_ok-octets.ensures.items, c.in_ok-signature.ensures.items, c.algorithm-algorithm.ensures, c.key.ensures) at c.in_ok-der.ensures.assembled)
