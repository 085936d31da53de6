use Rattle.std.proofs.Common.{◌≡◌, ◌++◌, take}
use Rattle.std.specs.List.{flat_map}
use Rattle.shelf_path.specs.ListIssuers.{list_under}
use Rattle.shelf_path.proofs.asked_lists.push_by.Given as goal

abbrev pub invariant-loop-issuer : goal.invariant-loop-issuer
invariant-loop-issuer l = l.lists.items ≡ l.initial.lists.items ++ flat_map (list_under l.list) (take l.issuer-index l.issuers)
