use Rattle.rcgen_tbs.proofs.named.value_for.Goals as goal

pub returns-in-Known-clause-value : goal.returns-in-Known-clause-value
returns-in-Known-clause-value g c = rw c.in-Known.is c.to_be_signed.ensures.value

pub returns-in-Other-clause-value : goal.returns-in-Other-clause-value
returns-in-Other-clause-value g c = rw c.in-Other.is c.info_value.ensures.value
