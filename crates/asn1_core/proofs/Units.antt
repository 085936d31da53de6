-- Characters of two and of four octets.
use Rattle.std.proofs.Common.{◌≡◌, ℕ, ◌/◌, ◌<◌, List, [], ◌∷◌, length, refl, arith}
use Rattle.std.proofs.lemmas.Str.{utf8_valid_len-IsUtf8, chars_from_encodes}
use Rattle.asn1_core.specs.StringTypes.{pairs, quads}

pub pairs_end : (octets : List ℕ) → length octets < 2 → pairs octets ≡ []
pairs_end [] h = refl
pairs_end (a ∷ []) h = refl
pairs_end (a ∷ b ∷ rest) h = absurd (omega arith)

pub quads_end : (octets : List ℕ) → length octets < 4 → quads octets ≡ []
quads_end [] h = refl
quads_end (a ∷ []) h = refl
quads_end (a ∷ b ∷ []) h = refl
quads_end (a ∷ b ∷ c ∷ []) h = refl
quads_end (a ∷ b ∷ c ∷ d ∷ rest) h = absurd (omega arith)

pub length-pairs : (octets : List ℕ) → length (pairs octets) ≡ length octets / 2
length-pairs [] = refl
length-pairs (a ∷ []) = refl
length-pairs (a ∷ b ∷ rest) = let h : length (pairs rest) ≡ length rest / 2 = length-pairs rest in omega arith

pub length-quads : (octets : List ℕ) → length (quads octets) ≡ length octets / 4
length-quads [] = refl
length-quads (a ∷ []) = refl
length-quads (a ∷ b ∷ []) = refl
length-quads (a ∷ b ∷ c ∷ []) = refl
length-quads (a ∷ b ∷ c ∷ d ∷ rest) = let h : length (quads rest) ≡ length rest / 4 = length-quads rest in omega arith

pub ruleset counting = (length-pairs, length-quads)

pub ruleset ending = (pairs_end, quads_end)

pub ruleset utf8 = (utf8_valid_len-IsUtf8, chars_from_encodes)
