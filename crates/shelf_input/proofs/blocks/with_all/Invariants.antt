use Rattle.std.proofs.Common.{◌≡◌, ◌+◌, length}
use Rattle.std.specs.Vec.Iter.{into_iter_items}
use Rattle.shelf_input.specs.Blocks.{no_blocks, with_all}
use Rattle.shelf_input.proofs.blocks.with_all.Given as goal

-- what is left, from here on, is the whole
abbrev pub invariant-loop-block : goal.invariant-loop-block
invariant-loop-block l =
    (with_all l.number l.found (into_iter_items l.block-iterator) ≡ with_all 0 no_blocks l.fn.list.items)
    × (l.number + length (into_iter_items l.block-iterator) ≡ length l.fn.list.items)
