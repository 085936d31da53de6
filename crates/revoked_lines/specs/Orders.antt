-- The order of a revocation list with the entries of a file.
use Rattle.std.specs.Prelude.{ℕ, is_some, List, Option, Some, None, Result, Ok, Err}
use Rattle.shelf_profile.specs.declared.order.Order.{Order}
use Rattle.shelf_profile.specs.declared.order.Order.TheVariants as ordered
use Rattle.shelf_profile.specs.declared.revocation_list.ListOrder.{ListOrder}
use Rattle.shelf_fault.specs.Faults.{and_then}
use Rattle.shelf_fault.specs.declared.fault.Fault.{Fault}
use Rattle.shelf_fault.specs.declared.fault.Fault.TheVariants.{RevokedUnused}
use Rattle.revoked_lines.specs.Lines.{with_text}

-- the order of a list, whose entries are its own and then those of a text
unfoldable pub list_with : ListOrder → List ℕ → Result ListOrder Fault
list_with o text =
    and_then (with_text (is_some o.base) o.content.revoked text) (λ entries. Ok (record (o) { content = record (o.content) { revoked = entries } }))

-- the order with the entries of a file, where one is given; another order than that of a list takes none
unfoldable pub with_revoked : Order → Option (List ℕ) → Result Order Fault
with_revoked order None = Ok order
with_revoked (ordered.List o) (Some text) = and_then (list_with o text) (λ list. Ok (ordered.List list))
with_revoked (ordered.Certificate o preset) (Some text) = Err RevokedUnused
with_revoked (ordered.Request o) (Some text) = Err RevokedUnused
with_revoked (ordered.Attribute o) (Some text) = Err RevokedUnused
