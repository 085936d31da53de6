use Rattle.std.proofs.Common.{◌+◌, arith}
use Rattle.std.specs.Vec.Iter.{into_iter_items}
use Rattle.shelf_input.specs.Blocks.{no_blocks, with_all}
use Rattle.shelf_input.proofs.Reading.{passed_on, stops}
use Rattle.shelf_input.proofs.blocks.with_all.Goals as goal

pub returns-in_err-found : goal.returns-in_err-found
returns-in_err-found c =
    let whole = with_all 0 no_blocks c.args.list.items in
    let fault = c.in_err-found.field-0.0 in
    passed_on (λ b. b) whole c.from_residual.result fault c.from_residual.ensures.1
    (λ never. stops c.loop-block.number (c.loop-block.number + 1) c.loop-block.found c.in-Some.block (into_iter_items c.loop-block.block-iterator)
    (into_iter_items c.next.new.self) whole fault c.loop-block.invariant.0 c.in-Some.ensures.steps.0 (omega arith) (c.in_err-found.ensures never))
