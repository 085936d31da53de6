use Rattle.std.proofs.Common.{refl, sym, take, arith}
use Rattle.std.proofs.lemmas.List.{take_more}
use Rattle.certify_profile.proofs.Joined.{concat-one_more}
use Rattle.certify_profile.proofs.hex_input.joined.Goals as goal

pub loop-input-preserved : goal.loop-input-preserved
loop-input-preserved c =
    let whole = c.args.inputs.now in
    let at = c.loop-input.input-index in
    let more = take_more whole at c.input-item.result (omega arith) in
    rw (
      c.in_ok-extend_from_slice.ensures.items,
      c.as_slice.ensures,
      c.loop-input.invariant,
      more,
      sym c.input-item.is,
      concat-one_more (take at whole) c.input-item.result,
    ) refl
