use Rattle.std.proofs.Common.{◌≡◌, ◌-◌, ◌<◌, length, false, true, arith, sym, ap, subst}
use Rattle.std.specs.Prelude.{is_some}
use Rattle.der_tree.specs.declared.tree.Tree.{Tree}
use Rattle.der_tree.specs.TreeElement.{element_of, raws_are_elements}
use Rattle.der_tree.specs.View.{plain}
use Rattle.der_tree.proofs.ChildSteps.{child_below}
use Rattle.der_tree.proofs.Measuring.{leaf_is, node_measured}
use Rattle.der_tree.proofs.measure.+push_sizes.Goals as goal

pub push_sizes-requires : goal.push_sizes-requires
push_sizes-requires g t c κs within =
    let ts = c.as_slice-items.result.now in
    let i = c.loop-left.left - 1 in
    let there : i < length ts = omega (arith, c.loop-left.invariant.within, c.loop-left-test.true) in
    let h = child_below c.args.tree.now c.in-Node.tag c.in-Node.children ts i c.index-items-left.result c.in-Node.is c.as_slice-items.ensures there (sym c.index-items-left.is) in
    (omega (arith, h, c.decreases), within)

pub returns-in_ok-number-in-Leaf-clause-element : goal.returns-in_ok-number-in-Leaf-clause-element
returns-in_ok-number-in-Leaf-clause-element g t c =
    subst (λ (x : Tree). is_some (element_of (plain x)) ≡ raws_are_elements (plain x)) (sym c.in-Leaf.is)
    (leaf_is c.in-Leaf.tag c.in-Leaf.bytes (c.in_ok-number-in-Leaf.ensures.encodable false c.in-Leaf.bytes (ap length (sym c.as_slice-size.ensures))))

pub returns-in_ok-number-in-Node-clause-element : goal.returns-in_ok-number-in-Node-clause-element
returns-in_ok-number-in-Node-clause-element g t c =
    node_measured c.args.tree.now c.in-Node.tag c.in-Node.children c.as_slice-items.result.now c.in-Node.is c.as_slice-items.ensures c.loop-left.left c.args.sizes.now.items c.loop-left.sizes.items c.loop-left.size c.args.steps.now c.loop-left.steps
    (omega (arith, c.loop-left-test.false)) c.loop-left.invariant.measured (c.in_ok-number-in-Node.ensures.encodable true)
