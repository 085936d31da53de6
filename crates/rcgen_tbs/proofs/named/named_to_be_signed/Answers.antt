use Rattle.rcgen_tbs.proofs.named.named_to_be_signed.Goals as goal

pub returns-clause-message : goal.returns-clause-message
returns-clause-message g c = (c.in_ok-value.value, c.in_ok-value.ensures.value, c.in_ok-message.ensures.form)
