use Rattle.std.proofs.Common.{◌≡◌, take}
use Rattle.std.specs.List.{flat_map}
use Rattle.shelf_path.specs.ListIssuers.{list_by}
use Rattle.shelf_path.proofs.asked_lists.asked.Given as goal

abbrev pub invariant-loop-list : goal.invariant-loop-list
invariant-loop-list l = l.given.items ≡ flat_map (list_by l.issuers l.issuer l.of_any) (take l.list-index l.lists)
