use Rattle.std.specs.Prelude.{◌≡◌, map}
use Rattle.rcgen_certificate.specs.ExtendedKeyUsages.{purpose_of}
use Rattle.profile_params.specs.Keys.{purpose_of_profile}
use Rattle.profile_params.proofs.keys.extended_key_usages.Given as goal

abbrev pub invariant-loop-purpose : goal.invariant-loop-purpose
invariant-loop-purpose l = map purpose_of l.list.items ≡ map purpose_of_profile l.yielded
