use Rattle.pkix_cert.specs.Algorithms.{subject_public_key_info}
use Rattle.rcgen_tbs.proofs.Subjects.{formed}
use Rattle.rcgen_tbs.proofs.laws.info_tree_of_form.Goals as goal

pub returns : goal.returns
returns c = formed subject_public_key_info
