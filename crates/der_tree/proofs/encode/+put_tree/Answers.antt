use Rattle.std.proofs.Common.{◌+◌, ◌-◌, length, drop, List, refl, arith, sym, ap, subst, ◌∙◌}
use Rattle.der_tree.specs.Sizes.{row_sizes, sizes_of}
use Rattle.der_tree.specs.Tree.{PlainTree, row}
use Rattle.der_tree.specs.TreeBytes.{row_bytes}
use Rattle.der_tree.specs.View.{plain, plain_list}
use Rattle.der_tree.proofs.ChildSteps.{child_below}
use Rattle.der_tree.proofs.Measuring.{Written, child_fits, children_fit, end_last, header_fits, left, node_count, node_ends, node_parts, node_put, node_size, node_steps, none_left, none_written, one_written, positive}
use Rattle.der_tree.proofs.encode.+put_tree.Goals as goal

pub put_header-requires : goal.put_header-requires
put_header-requires g t c =
    let is = ap plain c.in-Node.is in
    let n = node_size (plain c.args.tree.now) c.in-Node.tag (row c.in-Node.children) is c.args.sizes.now.items c.args.at c.at.result c.requires.within c.requires.sizes c.at.ensures in
    header_fits (plain c.args.tree.now) c.in-Node.tag (row c.in-Node.children) is c.at.result c.args.out.now.room c.args.out.now.items n c.requires.room

pub loop-child-init : goal.loop-child-init
loop-child-init g t c =
    let ts = c.as_slice-child-items.result.now in
    let is = node_parts c.args.tree.now c.in-Node.tag c.in-Node.children ts c.in-Node.is c.as_slice-child-items.ensures in
    record {
      room = refl;
      moved = refl;
      written = none_written (plain_list ts) c.put_header.new.out.items c.put_header.new.steps c.args.sizes.now.items (length (row_bytes (row (plain_list ts)))) c.args.at c.requires.within
          (node_ends (plain c.args.tree.now) c.in-Node.tag (row (plain_list ts)) is c.args.sizes.now.items c.args.at c.requires.sizes);
    }

pub put_tree-before-requires : goal.put_tree-before-requires
put_tree-before-requires g t c κs within =
    let ts = c.as_slice-child-items.result.now in
    let i = c.loop-child.child-index in
    let is = node_parts c.args.tree.now c.in-Node.tag c.in-Node.children ts c.in-Node.is c.as_slice-child-items.ensures in
    let n = node_size (plain c.args.tree.now) c.in-Node.tag (row (plain_list ts)) is c.args.sizes.now.items c.args.at c.at.result c.requires.within c.requires.sizes c.at.ensures in
    let w = subst (λ (x : List PlainTree). Written x (plain_list ts) c.put_header.new.out.items c.loop-child.out.items c.put_header.new.steps c.loop-child.steps c.args.sizes.now.items (c.args.at - 1) c.loop-child.before)
    (left ts i c.child-item.result c.loop-child-test.true (sym c.child-item.is)) c.loop-child.invariant.written in
    let h = child_below c.args.tree.now c.in-Node.tag c.in-Node.children ts i c.child-item.result c.in-Node.is c.as_slice-child-items.ensures c.loop-child-test.true (sym c.child-item.is) in
    let f = children_fit (plain c.args.tree.now) c.in-Node.tag (row (plain_list ts)) is c.at.result c.args.out.now.room c.args.out.now.items c.put_header.new.out.items n c.requires.room c.put_header.ensures.items in
    let k = child_fits (plain c.child-item.result) (plain_list (drop (i + 1) ts)) (plain_list ts) c.put_header.new.out.items c.loop-child.out.items c.put_header.new.steps c.loop-child.steps c.args.sizes.now.items (c.args.at - 1) c.loop-child.before c.args.out.now.room w f in (
      omega (arith, h, c.decreases),
      (
        within,
        (
          w.within,
          (
            end_last c.args.sizes.now.items (row_sizes (row (plain_list (drop (i + 1) ts)))) (sizes_of (plain c.child-item.result)) c.loop-child.before w.sizes,
            omega (arith, k, c.loop-child.invariant.room, c.put_header.ensures.room),
          ),
        ),
      ),
    )

pub loop-child-preserved : goal.loop-child-preserved
loop-child-preserved g t c =
    let ts = c.as_slice-child-items.result.now in
    let i = c.loop-child.child-index in
    let w = subst (λ (x : List PlainTree). Written x (plain_list ts) c.put_header.new.out.items c.loop-child.out.items c.put_header.new.steps c.loop-child.steps c.args.sizes.now.items (c.args.at - 1) c.loop-child.before)
    (left ts i c.child-item.result c.loop-child-test.true (sym c.child-item.is)) c.loop-child.invariant.written in
    record {
      room = c.put_tree-before.ensures.room ∙ c.loop-child.invariant.room;
      moved = c.put_tree-before.ensures.moved ∙ c.loop-child.invariant.moved;
      written = one_written (plain c.child-item.result) (plain_list (drop (i + 1) ts)) (plain_list ts) c.put_header.new.out.items c.loop-child.out.items c.put_tree-before.new.out.items c.put_header.new.steps c.loop-child.steps c.put_tree-before.new.steps c.args.sizes.now.items (c.args.at - 1) c.loop-child.before c.put_tree-before.result
          w c.put_tree-before.ensures.items c.put_tree-before.ensures.steps c.put_tree-before.ensures.before;
    }

pub returns-after-loop-child-clause-items : goal.returns-after-loop-child-clause-items
returns-after-loop-child-clause-items g t c =
    let ts = c.as_slice-child-items.result.now in
    let is = node_parts c.args.tree.now c.in-Node.tag c.in-Node.children ts c.in-Node.is c.as_slice-child-items.ensures in
    let n = node_size (plain c.args.tree.now) c.in-Node.tag (row (plain_list ts)) is c.args.sizes.now.items c.args.at c.at.result c.requires.within c.requires.sizes c.at.ensures in
    let w = subst (λ (x : List PlainTree). Written x (plain_list ts) c.put_header.new.out.items c.loop-child.out.items c.put_header.new.steps c.loop-child.steps c.args.sizes.now.items (c.args.at - 1) c.loop-child.before)
    (none_left ts c.loop-child.child-index (omega (arith, c.loop-child-test.false))) c.loop-child.invariant.written in
    node_put (plain c.args.tree.now) c.in-Node.tag (row (plain_list ts)) is c.at.result c.args.out.now.items c.put_header.new.out.items c.loop-child.out.items n c.put_header.ensures.items w.octets

pub returns-after-loop-child-clause-steps : goal.returns-after-loop-child-clause-steps
returns-after-loop-child-clause-steps g t c =
    let ts = c.as_slice-child-items.result.now in
    let is = node_parts c.args.tree.now c.in-Node.tag c.in-Node.children ts c.in-Node.is c.as_slice-child-items.ensures in
    let n = node_size (plain c.args.tree.now) c.in-Node.tag (row (plain_list ts)) is c.args.sizes.now.items c.args.at c.at.result c.requires.within c.requires.sizes c.at.ensures in
    let w = subst (λ (x : List PlainTree). Written x (plain_list ts) c.put_header.new.out.items c.loop-child.out.items c.put_header.new.steps c.loop-child.steps c.args.sizes.now.items (c.args.at - 1) c.loop-child.before)
    (none_left ts c.loop-child.child-index (omega (arith, c.loop-child-test.false))) c.loop-child.invariant.written in
    node_steps (plain c.args.tree.now) c.in-Node.tag (row (plain_list ts)) is c.at.result c.args.steps.now c.put_header.new.steps c.loop-child.steps n c.put_header.ensures.steps w.steps

pub returns-after-loop-child-clause-before : goal.returns-after-loop-child-clause-before
returns-after-loop-child-clause-before g t c =
    let ts = c.as_slice-child-items.result.now in
    let is = node_parts c.args.tree.now c.in-Node.tag c.in-Node.children ts c.in-Node.is c.as_slice-child-items.ensures in
    let w = subst (λ (x : List PlainTree). Written x (plain_list ts) c.put_header.new.out.items c.loop-child.out.items c.put_header.new.steps c.loop-child.steps c.args.sizes.now.items (c.args.at - 1) c.loop-child.before)
    (none_left ts c.loop-child.child-index (omega (arith, c.loop-child-test.false))) c.loop-child.invariant.written in
    node_count (plain c.args.tree.now) c.in-Node.tag (row (plain_list ts)) is c.args.at c.loop-child.before w.count
    (positive (plain c.args.tree.now) c.args.sizes.now.items c.args.at c.requires.within c.requires.sizes)
