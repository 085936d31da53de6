use Rattle.primes.proofs.Certificates.{certified, certified_generated}
use Rattle.primes.proofs.certified_are_primes.Goals as goal

pub returns-clause-prime : goal.returns-clause-prime
returns-clause-prime c = certified

pub returns-clause-fermat : goal.returns-clause-fermat
returns-clause-fermat c = λ rows n a t p l. (certified_generated rows n t).to_the_last a p l
