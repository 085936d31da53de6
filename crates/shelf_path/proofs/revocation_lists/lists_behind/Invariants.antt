use Rattle.std.proofs.Common.{◌≡◌, ◌+◌, drop}
use Rattle.shelf_path.specs.RevocationLists.{data_of, lists_behind, no_data}
use Rattle.shelf_path.proofs.revocation_lists.lists_behind.Given as goal

-- what is left, after what is read so far, is the whole
abbrev pub invariant-loop-block : goal.invariant-loop-block
invariant-loop-block l =
    (lists_behind l.number (data_of l.read) (drop l.block-index l.blocks) ≡ lists_behind l.fn.count no_data l.blocks)
    × (l.number ≡ l.fn.count + l.block-index)
