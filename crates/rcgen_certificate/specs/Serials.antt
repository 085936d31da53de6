-- Serial numbers (RFC 5280, 4.1.2.2).
use Rattle.std.specs.Prelude.{ℕ, ◌%◌, List, [], ◌∷◌, take, Option, Some, None}
use Rattle.sha2.specs.Sha256.{sha256}
use Rattle.asn1_core.specs.Twos.{unsigned}

abbrev pub without_top_bit : List ℕ → List ℕ
without_top_bit [] = []
without_top_bit (b ∷ rest) = (b % 128) ∷ rest

-- the first 160 bits of the SHA-256 of the key, the highest cleared
abbrev pub default_serial : List ℕ → List ℕ
default_serial key = without_top_bit (take 20 (sha256 key))

-- the number of the bytes that are given, or of those
abbrev pub serial_of : Option (List ℕ) → List ℕ → List ℕ
serial_of (Some serial) key = unsigned serial
serial_of None key = unsigned (default_serial key)
