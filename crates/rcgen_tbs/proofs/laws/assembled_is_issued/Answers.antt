use Rattle.rcgen_tbs.proofs.Assembled.{attribute_assembled, certificate_assembled, crl_assembled, request_assembled}
use Rattle.rcgen_tbs.proofs.laws.assembled_is_issued.Goals as goal

pub returns-clause-certificate : goal.returns-clause-certificate
returns-clause-certificate c = certificate_assembled

pub returns-clause-crl : goal.returns-clause-crl
returns-clause-crl c = crl_assembled c.list_to_be_signed_once.ensures

pub returns-clause-request : goal.returns-clause-request
returns-clause-request c = request_assembled c.request_info_once.ensures

pub returns-clause-attribute : goal.returns-clause-attribute
returns-clause-attribute c = attribute_assembled
