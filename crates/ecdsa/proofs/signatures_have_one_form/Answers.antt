use Rattle.ecdsa.proofs.OneForm.{one_form}
use Rattle.ecdsa.proofs.signatures_have_one_form.Goals as goal

pub returns : goal.returns
returns c = one_form
