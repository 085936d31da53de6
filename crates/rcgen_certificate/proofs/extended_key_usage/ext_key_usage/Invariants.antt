use Rattle.std.specs.Prelude.{◌≡◌, take, map}
use Rattle.rcgen_certificate.specs.ExtendedKeyUsages.{arcs_of}
use Rattle.rcgen_certificate.proofs.extended_key_usage.ext_key_usage.Given as goal

abbrev pub invariant-loop-purpose : goal.invariant-loop-purpose
invariant-loop-purpose l = (l.ids ≡ map arcs_of (take l.purpose-index l.purposes))
