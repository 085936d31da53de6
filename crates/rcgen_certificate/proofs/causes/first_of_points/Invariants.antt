use Rattle.std.specs.Prelude.{◌≡◌, length, map}
use Rattle.rcgen_certificate.specs.AsciiTexts.{first_not_ascii}
use Rattle.rcgen_certificate.specs.DistributionPoints.{uri_texts, uris_of}
use Rattle.rcgen_certificate.proofs.causes.first_of_points.Given as goal

-- what is left has the same first text
abbrev pub invariant-loop-rest : goal.invariant-loop-rest
invariant-loop-rest l = (first_not_ascii (uri_texts (map uris_of l.rest)) ≡ first_not_ascii (uri_texts (map uris_of l.points)))

abbrev pub decreases-loop-rest : goal.decreases-loop-rest
decreases-loop-rest l = length l.rest
