-- Bits that have names.
use Rattle.std.specs.Prelude.{ℕ, ◌+◌, Bool, true, false, cond, length, List, [], ◌∷◌, ◌++◌, ◌==◌, codes, decimal, map, nat_le, unwrap_or}
use Rattle.std.specs.Borrow.{Bor}
use Rattle.std.specs.List.{slice_get}
use Rattle.asn1_core.specs.Bits.{Bits, has_bit}
use Rattle.shelf_explain.specs.Lines.{hex_text, labelled}

-- the names so far, and one more where its bit is set
unfoldable pub with_name : List ℕ → Bool → List ℕ → List ℕ
with_name names false name = names
with_name [] true name = name
with_name (c ∷ names) true name = (c ∷ names) ++ codes ", " ++ name

-- the name of a bit in a table from bit 0 on, or else its number
unfoldable pub bit_name : List (List ℕ) → ℕ → List ℕ → List ℕ
bit_name table i number = unwrap_or (slice_get table i) number

-- the names so far, and those of the bits from this one on that are set
unfoldable pub all_names : Bits → List (List ℕ) → List (List ℕ) → ℕ → List ℕ → List ℕ
all_names bits table [] i names = names
all_names bits table (number ∷ more) i names = all_names bits table more (i + 1) (with_name names (has_bit bits i) (bit_name table i number))

-- the names that a table holds
abbrev pub names_in : List (Bor (List ℕ)) → List (List ℕ)
names_in table = map (λ (name : Bor (List ℕ)). name.now) table

-- the bits of the first four octets by their numbers
unfoldable pub numbered_bits : List (List ℕ)
numbered_bits =
    codes "bit 0" ∷ codes "bit 1" ∷ codes "bit 2" ∷ codes "bit 3" ∷ codes "bit 4" ∷ codes "bit 5" ∷ codes "bit 6" ∷ codes "bit 7"
    ∷ codes "bit 8" ∷ codes "bit 9" ∷ codes "bit 10" ∷ codes "bit 11" ∷ codes "bit 12" ∷ codes "bit 13" ∷ codes "bit 14" ∷ codes "bit 15"
    ∷ codes "bit 16" ∷ codes "bit 17" ∷ codes "bit 18" ∷ codes "bit 19" ∷ codes "bit 20" ∷ codes "bit 21" ∷ codes "bit 22" ∷ codes "bit 23"
    ∷ codes "bit 24" ∷ codes "bit 25" ∷ codes "bit 26" ∷ codes "bit 27" ∷ codes "bit 28" ∷ codes "bit 29" ∷ codes "bit 30" ∷ codes "bit 31" ∷ []

-- from bit 0 on (RFC 5280, 4.2.1.3)
unfoldable pub key_usage_names : List (List ℕ)
key_usage_names =
    codes "digital signature" ∷ codes "content commitment" ∷ codes "key encipherment" ∷ codes "data encipherment" ∷ codes "key agreement"
    ∷ codes "certificate signing" ∷ codes "CRL signing" ∷ codes "encipher only" ∷ codes "decipher only" ∷ []

-- from bit 0 on (RFC 5280, 4.2.1.13)
unfoldable pub reason_names : List (List ℕ)
reason_names =
    codes "unused" ∷ codes "key compromise" ∷ codes "CA compromise" ∷ codes "affiliation changed" ∷ codes "superseded"
    ∷ codes "cessation of operation" ∷ codes "certificate hold" ∷ codes "privilege withdrawn" ∷ codes "AA compromise" ∷ []

unfoldable pub or_none : List ℕ → List ℕ
or_none [] = codes "none"
or_none (c ∷ names) = c ∷ names

-- the names so far, and of more than four octets all of them in hexadecimal digits
unfoldable pub with_octets : List ℕ → List ℕ → List ℕ
with_octets names octets = cond (nat_le (length octets) 4) names (with_name names true (codes "octets " ++ hex_text octets))

-- the names or the numbers of the bits that are set
unfoldable pub names_text : List (List ℕ) → Bits → List ℕ
names_text table bits = or_none (with_octets (all_names bits table numbered_bits 0 []) bits.bytes)

-- of the last octet
unfoldable pub unused_text : ℕ → List ℕ
unused_text unused = cond (unused == 0) [] (labelled (codes ", unused bits ") (decimal unused))

-- the octets
unfoldable pub bits_text : Bits → List ℕ
bits_text bits = hex_text bits.bytes ++ unused_text bits.unused
