use Rattle.ecdsa.proofs.Certificates.{field_is_prime, order_256_is_prime, order_384_is_prime}
use Rattle.ecdsa.proofs.parameters_are_prime.Goals as goal

pub returns-clause-field : goal.returns-clause-field
returns-clause-field c = field_is_prime

pub returns-clause-order_256 : goal.returns-clause-order_256
returns-clause-order_256 c = order_256_is_prime

pub returns-clause-order_384 : goal.returns-clause-order_384
returns-clause-order_384 c = order_384_is_prime
