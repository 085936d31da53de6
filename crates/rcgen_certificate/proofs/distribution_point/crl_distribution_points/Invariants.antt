use Rattle.std.specs.Prelude.{◌≡◌, take, map}
use Rattle.rcgen_certificate.specs.DistributionPoints.{point_value, uris_of}
use Rattle.rcgen_certificate.proofs.distribution_point.crl_distribution_points.Given as goal

abbrev pub invariant-loop-point : goal.invariant-loop-point
invariant-loop-point l = (l.list ≡ map (λ p. point_value (uris_of p)) (take l.point-index l.points))
