use Rattle.std.specs.Prelude.{◌≡◌, map}
use Rattle.rcgen_issue.specs.CrlView.{revoked_view}
use Rattle.profile_params.specs.RevocationLists.{revoked_of_profile}
use Rattle.profile_params.proofs.revocation_list.entries.Given as goal

abbrev pub invariant-loop-revoked : goal.invariant-loop-revoked
invariant-loop-revoked l = map revoked_view l.entries.items ≡ map revoked_of_profile l.yielded
