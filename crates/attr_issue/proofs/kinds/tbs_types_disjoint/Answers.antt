use Rattle.attr_issue.proofs.SignedKinds.{certificate_is_no_attribute, certificate_is_no_list, certificate_is_no_request}
use Rattle.attr_issue.proofs.SignedKinds.{list_is_no_attribute, request_is_no_attribute, request_is_no_list}
use Rattle.attr_issue.proofs.kinds.tbs_types_disjoint.Goals as goal

pub returns-clause-certificate_and_request : goal.returns-clause-certificate_and_request
returns-clause-certificate_and_request c = certificate_is_no_request

pub returns-clause-certificate_and_list : goal.returns-clause-certificate_and_list
returns-clause-certificate_and_list c = certificate_is_no_list

pub returns-clause-certificate_and_attribute : goal.returns-clause-certificate_and_attribute
returns-clause-certificate_and_attribute c = certificate_is_no_attribute

pub returns-clause-request_and_list : goal.returns-clause-request_and_list
returns-clause-request_and_list c = request_is_no_list

pub returns-clause-request_and_attribute : goal.returns-clause-request_and_attribute
returns-clause-request_and_attribute c = request_is_no_attribute

pub returns-clause-list_and_attribute : goal.returns-clause-list_and_attribute
returns-clause-list_and_attribute c = list_is_no_attribute
