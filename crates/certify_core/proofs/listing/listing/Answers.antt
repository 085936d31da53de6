use Rattle.certify_core.proofs.Shown.{none_at_all, none_with_rest, whole_listed}
use Rattle.certify_core.proofs.listing.listing.Goals as goal

pub returns-in_default : goal.returns-in_default
returns-in_default c = none_at_all c.args.der.now c.new.result c.new.ensures.exact c.in_default.is

pub returns-in_ok-all_lines : goal.returns-in_ok-all_lines
returns-in_ok-all_lines c =
    whole_listed c.parts_of_each_view.ensures c.args.der.now c.rest.result.now c.in_ok-all_lines.field-0.items c.in-Some.certificate
    c.in-Some.ensures.parts c.rest.ensures c.if-is_empty.true c.is_empty.ensures c.in_ok-all_lines.ensures

pub returns-else-is_empty : goal.returns-else-is_empty
returns-else-is_empty c =
    none_with_rest c.no_front.ensures c.parts_of_each_view.ensures c.args.der.now c.rest.result.now c.in-Some.certificate
    c.in-Some.ensures.parts c.rest.ensures c.if-is_empty.false c.is_empty.ensures
