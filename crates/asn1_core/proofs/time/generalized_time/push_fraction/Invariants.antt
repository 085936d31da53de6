use Rattle.std.proofs.Common.{◌≡◌, ◌<◌, ◌≤◌, ◌^◌, ◌++◌}
use Rattle.asn1_core.specs.GeneralizedTime.{fraction_digits}
use Rattle.asn1_core.proofs.time.generalized_time.push_fraction.Given as goal

abbrev pub invariant-loop-left : goal.invariant-loop-left
invariant-loop-left l = record {
  places : l.places ≤ 9;
  below : l.left < 10 ^ l.places;
  written : l.contents.items ++ fraction_digits l.places l.left ≡ l.initial.contents.items ++ fraction_digits 9 l.nanosecond;
}

abbrev pub decreases-loop-left : goal.decreases-loop-left
decreases-loop-left l = l.places
