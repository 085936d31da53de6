use Rattle.std.proofs.Common.{◌-◌, ◌%◌, ◌++◌, List, ℕ, arith, ap, ◌∙◌}
use Rattle.asn1_core.specs.GeneralizedTime.{fraction_digits}
use Rattle.asn1_core.proofs.Fraction.{left_below, digit_below, pow_is_positive, written_all, written_more}
use Rattle.asn1_core.proofs.time.generalized_time.push_fraction.Goals as goal

pub nonzero_div-left : goal.nonzero_div-left
nonzero_div-left c = pow_is_positive c.pow-weight.result (c.loop-left.places - 1) c.pow-weight.ensures

pub nonzero_rem-left : goal.nonzero_rem-left
nonzero_rem-left c = pow_is_positive c.pow-weight.result (c.loop-left.places - 1) c.pow-weight.ensures

pub overflow_cast-left : goal.overflow_cast-left
overflow_cast-left c =
    let i = c.loop-left.invariant in
    omega (arith, digit_below c.loop-left.places c.loop-left.left c.pow-weight.result c.pow-weight.ensures i.below c.loop-left-test.true)

pub overflow_add-left : goal.overflow_add-left
overflow_add-left c =
    let i = c.loop-left.invariant in
    omega (arith, digit_below c.loop-left.places c.loop-left.left c.pow-weight.result c.pow-weight.ensures i.below c.loop-left-test.true)

pub loop-left-preserved : goal.loop-left-preserved
loop-left-preserved c =
    let i = c.loop-left.invariant in
    let w = c.pow-weight.ensures in
    record {
      places = omega (arith, i.places);
      below = left_below c.loop-left.places c.loop-left.left c.pow-weight.result w;
      written = ap (λ (x : List ℕ). x ++ fraction_digits (c.loop-left.places - 1) (c.loop-left.left % c.pow-weight.result)) c.in_ok-push-2.ensures.items
          ∙ written_more c.loop-left.contents.items c.loop-left.places c.loop-left.left c.pow-weight.result w i.below c.loop-left-test.true ∙ i.written;
    }

pub returns : goal.returns
returns c =
    written_all c.args.contents.now.items c.loop-left.contents.items c.loop-left.places c.loop-left.left c.args.nanosecond
    (c.loop-left.invariant.written ∙ ap (λ (x : List ℕ). x ++ fraction_digits 9 c.args.nanosecond) c.in_ok-push.ensures.items) c.loop-left-test.false c.if-nanosecond-eq0.false
