use Rattle.std.specs.Option.{option_map}
use Rattle.asn1_core.specs.Binds.{and_true}
use Rattle.asn1_core.specs.Moment.{has_utc, instant}
use Rattle.rcgen_issue.specs.Lists.{is_utc_if}
use Rattle.rcgen_issue.proofs.crl.entry.Goals as goal

pub invalidity_date-date-requires : goal.invalidity_date-date-requires
invalidity_date-date-requires c =
    let params = c.args.params.now in
    (and_true (has_utc params.revocation_time) (is_utc_if (option_map instant params.invalidity_date)) c.requires).1
