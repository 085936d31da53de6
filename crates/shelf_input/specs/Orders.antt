-- An order.
use Rattle.std.specs.Prelude.{ℕ, List, Result, Ok, Err}
use Rattle.toml_format.specs.Document.{document_of}
use Rattle.toml_format.specs.declared.reason.Reason.{Reason}
use Rattle.shelf_fault.specs.declared.fault.Fault.{Fault}
use Rattle.shelf_fault.specs.declared.fault.Fault.TheVariants.{Order as NoOrder}
use Rattle.shelf_profile.specs.Order.{order}
use Rattle.shelf_profile.specs.declared.order.Order.{Order}

abbrev pub in_document : {A : Type 0} → Result A Reason → Result A Fault
in_document (Ok x) = Ok x
in_document (Err reason) = Err (NoOrder reason)

-- the order that a text is, as a whole
unfoldable pub order_in : List ℕ → Result Order Fault
order_in text = in_document (document_of order.read text)
