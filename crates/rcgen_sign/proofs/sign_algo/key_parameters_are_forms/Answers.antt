use Rattle.rcgen_sign.proofs.AlgorithmLemmas.{null_is, p256_is, p384_is, p521_is}
use Rattle.rcgen_sign.proofs.sign_algo.key_parameters_are_forms.Goals as goal

pub returns-clause-rsa : goal.returns-clause-rsa
returns-clause-rsa c = null_is

pub returns-clause-p256 : goal.returns-clause-p256
returns-clause-p256 c = p256_is

pub returns-clause-p384 : goal.returns-clause-p384
returns-clause-p384 c = p384_is

pub returns-clause-p521 : goal.returns-clause-p521
returns-clause-p521 c = p521_is
