use Rattle.asn1_core.proofs.Years.{has_utc_law}
use Rattle.asn1_core.proofs.time.offset_date_time.has_utc_exactly.Goals as goal

pub returns : goal.returns
returns c = has_utc_law c.args.moment.now c.utc-found.result c.utc-found.ensures.value c.utc-found.ensures.some
