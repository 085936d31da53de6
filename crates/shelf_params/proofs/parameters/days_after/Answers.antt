use Rattle.std.proofs.Common.{◌∙◌, sym, ap, option_map}
use Rattle.asn1_core.specs.Moment.{instant}
use Rattle.jiff.specs.Words.{civil_nanos}
use Rattle.shelf_params.proofs.Later.{in_utc, later_none, later_some}
use Rattle.shelf_params.proofs.parameters.days_after.Goals as goal

pub returns-in_err-end : goal.returns-in_err-end
returns-in_err-end c =
    ap (option_map instant) c.from_residual-in_err-end.ensures
    ∙ sym (later_none (instant c.args.start) (civil_nanos c.in_ok-utc.utc) c.args.days (sym c.in_ok-utc.ensures.some)
    c.in_ok-utc.ensures.value.0 c.in_err-end.ensures)

pub returns : goal.returns
returns c =
    in_utc c.new.result c.in_ok-end.end c.new.ensures
    ∙ sym (later_some (instant c.args.start) (civil_nanos c.in_ok-utc.utc) (civil_nanos c.in_ok-end.end) c.args.days
    (sym c.in_ok-utc.ensures.some) c.in_ok-utc.ensures.value.0 c.in_ok-end.ensures.0 c.in_ok-end.ensures.1)
