use Rattle.std.specs.Prelude.{◌≡◌, map}
use Rattle.rcgen_certificate.specs.DistributionPoints.{uris_of}
use Rattle.profile_params.proofs.extensions.points.Given as goal

abbrev pub invariant-loop-texts : goal.invariant-loop-texts
invariant-loop-texts l = map uris_of l.points.items ≡ l.yielded
