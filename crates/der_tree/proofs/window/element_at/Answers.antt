use Rattle.der_tree.proofs.FrontLaws.{whole_front}
use Rattle.der_tree.proofs.window.element_at.Goals as goal

pub slice_bounds-whole-count : goal.slice_bounds-whole-count
slice_bounds-whole-count c =
    (whole_front c.args.bytes.now c.in_ok-tag.tag c.in_ok-tag.constructed c.in_ok-tag.rest.now c.in_ok-len.rest.now c.split_at.result.0.now c.split_at.result.1.now c.in_ok-len.len c.in_ok-tag.ensures.0 c.in_ok-len.ensures.0 c.if-rest-len.false c.split_at.ensures.front c.split_at.ensures.back).0

pub returns-clause-whole : goal.returns-clause-whole
returns-clause-whole c =
    (whole_front c.args.bytes.now c.in_ok-tag.tag c.in_ok-tag.constructed c.in_ok-tag.rest.now c.in_ok-len.rest.now c.split_at.result.0.now c.split_at.result.1.now c.in_ok-len.len c.in_ok-tag.ensures.0 c.in_ok-len.ensures.0 c.if-rest-len.false c.split_at.ensures.front c.split_at.ensures.back).1
