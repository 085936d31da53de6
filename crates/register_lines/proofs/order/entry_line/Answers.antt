use Rattle.std.proofs.Common.{FitsSigned, refl, string_bytes, to_z-of_z, w64}
use Rattle.register_lines.proofs.order.entry_line.Goals as goal

pub returns : goal.returns
returns c =
    let f : FitsSigned w64 c.args.at = c.ranges.at in
    let t = simp to_z-of_z at c.in_ok-time.ensures in
    record {
      time = string_bytes c.in_ok-time.time;
      time_is = t;
      invalid = c.in_ok-invalid.invalid.items;
      invalid_is = c.in_ok-invalid.ensures;
      line_is = rw (
        c.in_ok-push-3.ensures.items,
        c.in_ok-extend_from_slice-3.ensures.items,
        c.in_ok-extend_from_slice-2.ensures.items,
        c.in_ok-push-2.ensures.items,
        c.in_ok-extend_from_slice.ensures.items,
        c.in_ok-push.ensures.items,
        c.in_ok-line.ensures.items,
        c.as_slice.ensures.value,
        c.as_bytes-4.ensures.value,
        c.as_bytes-3.ensures.value,
        c.as_bytes-2.ensures.value,
        c.in_ok-digits.ensures,
        c.as_bytes.ensures.bytes,
      ) refl;
    }
