pub mod Primes
