use Rattle.std.specs.Prelude.{◌≡◌, length, map, string_bytes}
use Rattle.rcgen_certificate.specs.AsciiTexts.{first_not_ascii}
use Rattle.rcgen_certificate.specs.DistributionPoints.{uris_of}
use Rattle.rcgen_certificate.proofs.causes.first_uri_not_ascii.Given as goal

-- what is left has the same first text
abbrev pub invariant-loop-rest : goal.invariant-loop-rest
invariant-loop-rest l = (first_not_ascii (map string_bytes l.rest) ≡ first_not_ascii (uris_of l.point))

abbrev pub decreases-loop-rest : goal.decreases-loop-rest
decreases-loop-rest l = length l.rest
