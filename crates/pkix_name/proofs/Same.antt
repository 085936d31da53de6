-- When octets are the same.
use Rattle.std.proofs.Common.{◌≡◌, ℕ, true, List, bytes_eq}
use Rattle.std.proofs.lemmas.Slice.Eq.{bytes_eq-Decides}

pub same_octets : (a b : List ℕ) → bytes_eq a b ≡ true → a ≡ b
same_octets a b = (bytes_eq-Decides a b).0

pub octets_same : (a b : List ℕ) → a ≡ b → bytes_eq a b ≡ true
octets_same a b = (bytes_eq-Decides a b).1

pub ruleset comparing = (same_octets, octets_same)
