use Rattle.shelf_explain.proofs.Joined.{more_before}
use Rattle.shelf_explain.proofs.show.push_joined_from_last.Goals as goal

pub loop-i-preserved : goal.loop-i-preserved
loop-i-preserved g c =
    more_before g.T.ShowText.text c.args.separator.now _ _ _ _ c.in-Some.front.now c.loop-i.i c.index-front-i.result
    c.loop-i-test.true c.loop-i.auto.i c.loop-i.invariant c.in_ok-extend_from_slice.ensures.items c.in_ok-push_onto-2.ensures c.index-front-i.is
