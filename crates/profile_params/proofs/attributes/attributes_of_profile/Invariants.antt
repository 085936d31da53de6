use Rattle.std.specs.Prelude.{◌≡◌, map}
use Rattle.rcgen_certificate.specs.Requests.{given_of}
use Rattle.profile_params.specs.Attributes.{attribute_of_profile}
use Rattle.profile_params.proofs.attributes.attributes_of_profile.Given as goal

abbrev pub invariant-loop-entry : goal.invariant-loop-entry
invariant-loop-entry l = map given_of l.list.items ≡ map attribute_of_profile l.yielded
