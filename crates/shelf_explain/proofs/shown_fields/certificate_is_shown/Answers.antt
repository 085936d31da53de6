use Rattle.shelf_explain.proofs.Showing.{shows}
use Rattle.shelf_explain.proofs.shown_fields.certificate_is_shown.Goals as goal

pub returns : goal.returns
returns c = λ certificate octets form. shows certificate octets ((c.value_exactly.ensures octets certificate).1 form)
