use Rattle.std.proofs.Common.{FitsSigned, refl, rules, string_bytes, to_z-of_z, w64}
use Rattle.register_lines.proofs.order.order_text.Goals as goal

pub returns : goal.returns
returns c =
    let f : FitsSigned w64 c.args.list.now.this_update = search rules in
    let g : FitsSigned w64 c.args.list.now.next_update = search rules in
    let this = simp to_z-of_z at c.in_ok-this_update.ensures in
    let next = simp to_z-of_z at c.in_ok-next_update.ensures in
    record {
      number = string_bytes c.in_ok-number.number;
      number_is = c.in_ok-number.ensures;
      base = c.in_ok-base.base.items;
      base_is = c.in_ok-base.ensures;
      this_update = string_bytes c.in_ok-this_update.this_update;
      this_is = this;
      next_update = string_bytes c.in_ok-next_update.next_update;
      next_is = next;
      text_is = rw (
        c.in_ok-extend_from_slice-2.ensures.items,
        c.in_ok-push_key-4.ensures,
        c.in_ok-push_key-3.ensures,
        c.in_ok-extend_from_slice.ensures.items,
        c.in_ok-push_key-2.ensures,
        c.in_ok-push_key.ensures,
        c.new-text.ensures.items,
        c.as_slice.ensures.value,
        c.as_bytes-3.ensures.value,
        c.as_bytes-2.ensures.value,
        c.as_bytes.ensures.value,
      ) refl;
    }
