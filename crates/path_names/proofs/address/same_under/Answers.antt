use Rattle.std.proofs.Common.{sym, ◌∙◌}
use Rattle.path_names.proofs.Ranges.{base_ends, mask_ends}
use Rattle.path_names.proofs.address.same_under.Goals as goal

pub returns-in_default : goal.returns-in_default
returns-in_default c =
    sym (base_ends c.args.address.now c.loop-a.bases.now c.loop-a.masks.now c.loop-a.a-index c.loop-a-test.true c.in_default.len_below) ∙ c.loop-a.invariant

pub returns-in_default-masks : goal.returns-in_default-masks
returns-in_default-masks c =
    sym (mask_ends c.args.address.now c.loop-a.bases.now c.loop-a.masks.now c.loop-a.a-index c.loop-a-test.true c.in_default-masks.len_below)
    ∙ c.loop-a.invariant
