use Rattle.std.proofs.Common.{ℕ, ◌+◌, ap, arith}
use Rattle.shelf_input.proofs.Reading.{passed_on}
use Rattle.shelf_path.specs.Certificates.{certificate_in, certificates_behind}
use Rattle.shelf_path.proofs.Reading.{none_read, one_read}
use Rattle.shelf_path.proofs.certificates.certificates.Goals as goal

pub returns-in_err-certificate_in : goal.returns-in_err-certificate_in
returns-in_err-certificate_in c =
    let whole = certificates_behind 0 c.args.blocks.now in
    let fault = c.in_err-certificate_in.field-0.0 in
    passed_on (λ views. views.items) whole c.from_residual.result fault c.from_residual.ensures.1
    (λ never. none_read certificate_in c.loop-block.views.items c.args.blocks.now c.loop-block.number (c.loop-block.number + 1) c.loop-block.block-index
    c.block-item.result whole fault c.loop-block-test.true c.block-item.is (omega arith) (c.in_err-certificate_in.ensures never)
    c.loop-block.invariant.0)

pub loop-block-preserved : goal.loop-block-preserved
loop-block-preserved c = (
  one_read certificate_in c.loop-block.views.items c.push.new.self.items c.in_ok-certificate_in.field-0 c.args.blocks.now c.loop-block.number
      (c.loop-block.number + 1) c.loop-block.block-index c.block-item.result (certificates_behind 0 c.args.blocks.now) c.loop-block-test.true
      c.block-item.is (omega arith) c.in_ok-certificate_in.ensures c.in_ok-push.ensures.items c.loop-block.invariant.0,
  ap (λ (n : ℕ). n + 1) c.loop-block.invariant.1,
)
