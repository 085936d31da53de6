use Rattle.std.proofs.Common.{◌≡◌, true, map}
use Rattle.rcgen_issue.specs.CrlView.{revoked_view}
use Rattle.certify_core.specs.Bulk.{entries_after}
use Rattle.profile_params.specs.RevocationLists.{revoked_of_profile}
use Rattle.certify_core.proofs.BulkEntries.{so_far}
use Rattle.certify_core.proofs.bulk.entries.Given as goal

-- those so far and those that are left are all
abbrev pub invariant-loop-left : goal.invariant-loop-left
invariant-loop-left l = so_far (map revoked_view l.entries.items) l.serial l.has_reason l.left ≡ map revoked_of_profile (entries_after 1 true l.count)

abbrev pub decreases-loop-left : goal.decreases-loop-left
decreases-loop-left l = l.left
