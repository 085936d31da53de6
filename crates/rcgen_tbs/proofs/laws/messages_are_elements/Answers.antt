use Rattle.rcgen_tbs.proofs.Assembled.{attribute_is_one, certificate_is_one, crl_is_one, request_is_one}
use Rattle.rcgen_tbs.proofs.laws.messages_are_elements.Goals as goal

pub returns-clause-certificate : goal.returns-clause-certificate
returns-clause-certificate c = certificate_is_one

pub returns-clause-crl : goal.returns-clause-crl
returns-clause-crl c = crl_is_one

pub returns-clause-request : goal.returns-clause-request
returns-clause-request c = request_is_one

pub returns-clause-attribute : goal.returns-clause-attribute
returns-clause-attribute c = attribute_is_one
