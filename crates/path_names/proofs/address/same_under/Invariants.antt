use Rattle.std.proofs.Common.{◌≡◌, drop}
use Rattle.path_names.specs.NameForms.{same_under}
use Rattle.path_names.proofs.address.same_under.Given as goal

-- so far they have been the same
abbrev pub invariant-loop-a : goal.invariant-loop-a
invariant-loop-a l = same_under (drop l.a-index l.address) l.bases l.masks ≡ same_under l.address l.base l.mask
