use Rattle.std.proofs.Common.{arith}
use Rattle.register_record.proofs.Listing.{one_more}
use Rattle.register_record.proofs.list.entries.Goals as goal

pub loop-certificate-preserved : goal.loop-certificate-preserved
loop-certificate-preserved c =
    one_more c.args.kind c.args.base c.args.certificates.now c.loop-certificate.certificate-index c.certificate-item.result (omega arith) c.certificate-item.is
    c.loop-certificate.entries.items c.push_optional.new.entries.items c.in_ok-entry_for.field-0 c.loop-certificate.invariant c.in_ok-push_optional.ensures
    c.in_ok-entry_for.ensures
