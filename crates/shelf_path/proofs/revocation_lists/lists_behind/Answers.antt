use Rattle.std.proofs.Common.{◌+◌, arith}
use Rattle.shelf_input.proofs.Reading.{passed_on}
use Rattle.shelf_path.specs.RevocationLists.{data_of, lists_behind, no_data}
use Rattle.shelf_path.proofs.Reading.{none_behind, one_behind}
use Rattle.shelf_path.proofs.revocation_lists.lists_behind.Goals as goal

pub returns-in_err-read : goal.returns-in_err-read
returns-in_err-read c =
    let whole = lists_behind c.args.count no_data c.args.blocks.now in
    let fault = c.in_err-read.field-0.0 in
    passed_on data_of whole c.from_residual.result fault c.from_residual.ensures.1
    (λ never. none_behind c.loop-block.number (c.loop-block.number + 1) (data_of c.loop-block.read) c.args.blocks.now c.loop-block.block-index
    c.block-item.result whole fault c.loop-block-test.true c.block-item.is (omega arith) (c.in_err-read.ensures never) c.loop-block.invariant.0)

pub loop-block-preserved : goal.loop-block-preserved
loop-block-preserved c = (
  one_behind c.loop-block.number (c.loop-block.number + 1) (data_of c.loop-block.read) (data_of c.in_ok-read.read) c.args.blocks.now
      c.loop-block.block-index c.block-item.result (lists_behind c.args.count no_data c.args.blocks.now) c.loop-block-test.true c.block-item.is
      (omega arith) c.in_ok-read.ensures c.loop-block.invariant.0,
  omega (arith, c.loop-block.invariant.1),
)
