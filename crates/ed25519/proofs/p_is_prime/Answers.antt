use Rattle.ed25519.proofs.Units.{p_prime, inverse_law}
use Rattle.ed25519.proofs.p_is_prime.Goals as goal

pub returns-clause-prime : goal.returns-clause-prime
returns-clause-prime c = p_prime

pub returns-clause-inverse : goal.returns-clause-inverse
returns-clause-inverse c = inverse_law
