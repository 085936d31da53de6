use Rattle.ecdsa_form.proofs.Values.{read_is_value, value_is_read}
use Rattle.ecdsa_form.proofs.laws.signatures_are_values.Goals as goal

pub returns-clause-form : goal.returns-clause-form
returns-clause-form c = read_is_value

pub returns-clause-read : goal.returns-clause-read
returns-clause-read c = value_is_read c.signatures_are_der.ensures
