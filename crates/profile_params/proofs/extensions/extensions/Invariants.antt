use Rattle.std.specs.Prelude.{◌≡◌, map}
use Rattle.rcgen_certificate.specs.CustomExtensions.{custom_of}
use Rattle.profile_params.specs.Extensions.{extension_of_profile}
use Rattle.profile_params.proofs.extensions.extensions.Given as goal

abbrev pub invariant-loop-entry : goal.invariant-loop-entry
invariant-loop-entry l = map custom_of l.extensions.items ≡ map extension_of_profile l.yielded
