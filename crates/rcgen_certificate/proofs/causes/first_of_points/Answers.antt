use Rattle.std.specs.Prelude.{◌≡◌, None}
use Rattle.std.proofs.Common.{rules}
use Rattle.rcgen_certificate.specs.AsciiTexts.{first_not_ascii}
use Rattle.rcgen_certificate.specs.DistributionPoints.{uris_of}
use Rattle.rcgen_certificate.proofs.Points.{points_step}
use Rattle.rcgen_certificate.proofs.causes.first_of_points.Goals as goal

pub loop-rest-preserved : goal.loop-rest-preserved
loop-rest-preserved c =
    let none : first_not_ascii (uris_of c.point-item.result) ≡ None = search rules in
    points_step c.loop-rest.rest.now c.point-item.result _ c.in-len1-up.len_at_least c.point-item.is none c.loop-rest.invariant
