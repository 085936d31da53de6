use Rattle.std.proofs.Common.{FitsSigned, refl, string_bytes, to_z-of_z, w64}
use Rattle.register_lines.proofs.order.after_space.Goals as goal

pub returns : goal.returns
returns c =
    let f : FitsSigned w64 c.args.seconds = c.ranges.seconds in
    let t = simp to_z-of_z at c.in_ok-time.ensures in (
      string_bytes c.in_ok-time.time,
      t,
      rw (c.in_ok-extend_from_slice.ensures.items, c.in_ok-push.ensures.items, c.new-text.ensures.items, c.as_bytes.ensures.value) refl,
    )
