use Rattle.std.specs.Prelude.{◌≡◌, map}
use Rattle.rcgen_text.specs.AlternativeNames.{alternative_name}
use Rattle.profile_params.specs.Names.{alternative_name_of_profile}
use Rattle.profile_params.proofs.names.alternative_names.Given as goal

abbrev pub invariant-loop-name : goal.invariant-loop-name
invariant-loop-name l = map alternative_name l.list.items ≡ map alternative_name_of_profile l.yielded
