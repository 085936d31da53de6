use Rattle.rcgen_text.proofs.Addresses.{mask_starts, mask_goes_on, mask_ends}
use Rattle.rcgen_text.proofs.cidr.mask.Goals as goal

pub loop-octet-init : goal.loop-octet-init
loop-octet-init g c = mask_starts g.row.N c.args.prefix

pub loop-octet-preserved : goal.loop-octet-preserved
loop-octet-preserved g c =
    mask_goes_on g.row.N c.args.prefix c.loop-octet.octet-index c.loop-octet.left c.octet_mask.result c.saturating_sub-left.result c.loop-octet.octet-items
    c.loop-octet-test.true c.loop-octet.invariant.1 c.loop-octet.invariant.0 c.octet_mask.ensures c.saturating_sub-left.ensures

pub returns : goal.returns
returns g c =
    mask_ends g.row.N c.args.prefix c.loop-octet.octet-index c.loop-octet.left c.loop-octet.octet-items
    c.loop-octet.auto.octet-index-end c.loop-octet-test.false c.loop-octet.invariant.1 c.loop-octet.invariant.0
