use Rattle.shelf_explain.proofs.ListShowing.{shows_list}
use Rattle.shelf_explain.proofs.shown_fields.list_is_shown.Goals as goal

pub returns : goal.returns
returns c = λ list octets form. shows_list list octets ((c.value_exactly.ensures octets list).1 form)
