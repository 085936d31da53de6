-- Key usage: a bit string of named bits, without zero bits at its end (RFC 5280, 4.2.1.3; X.690, 11.2.2).
use Rattle.std.specs.Prelude.{◌≡◌, ℕ, ◌+◌, ◌-◌, Bool, true, ◌||◌, cond, List, [], ◌∷◌, length, Option, ◌==◌}
use Rattle.std.specs.Int.{trailing_zeros, w8}
use Rattle.std.specs.List.{list_any}
use Rattle.std.specs.Option.{option_map}
use Rattle.asn1_core.specs.Bits.{Bits, bits, bit_count, has_bit}
use Rattle.der_tree.specs.PrimitiveTypes.{bit_string}
use Rattle.pkix_cert.specs.ExtensionIds.{ce_key_usage, id_ce}
use Rattle.rcgen_certificate.specs.ExtensionRows.{unless_empty, ExtensionRow, extension_row}
use Rattle.rcgen_text.specs.declared.key_usage.KeyUsagePurpose.{KeyUsagePurpose}
use Rattle.rcgen_text.specs.declared.key_usage.KeyUsagePurpose.TheVariants as purpose

-- the bit that says that a key is for the purpose
abbrev pub bit_of : KeyUsagePurpose → ℕ
bit_of purpose.DigitalSignature = 0
bit_of purpose.ContentCommitment = 1
bit_of purpose.KeyEncipherment = 2
bit_of purpose.DataEncipherment = 3
bit_of purpose.KeyAgreement = 4
bit_of purpose.KeyCertSign = 5
bit_of purpose.CrlSign = 6
bit_of purpose.EncipherOnly = 7
bit_of purpose.DecipherOnly = 8

-- one of the purposes has bit i
abbrev pub is_listed : List KeyUsagePurpose → ℕ → Bool
is_listed us i = list_any (λ u. bit_of u == i) us

-- bit i of the string is set where one of the purposes has it, and the last bit is set
pub record AreBitsOf (us : List KeyUsagePurpose) (b : Bits) : Type 0 where
  pub set : (i : ℕ) → has_bit b i ≡ is_listed us i
  pub last : has_bit b (bit_count b - 1) ≡ true

-- ---- the value, of which the law `key_usage_bits` says this

-- what bit i counts in its byte, where one of the purposes has it
abbrev pub weight : List KeyUsagePurpose → ℕ → ℕ → ℕ
weight us i n = cond (is_listed us i) n 0

abbrev pub first_byte : List KeyUsagePurpose → ℕ
first_byte us = weight us 0 128 + weight us 1 64 + weight us 2 32 + weight us 3 16 + weight us 4 8 + weight us 5 4 + weight us 6 2 + weight us 7 1

-- bit 8 is the first of a second byte
abbrev pub named_bits : List KeyUsagePurpose → Bits
named_bits us =
    cond (is_listed us 8)
    (bits 7 (first_byte us ∷ 128 ∷ []))
    (bits (trailing_zeros w8 (first_byte us)) (first_byte us ∷ []))

-- the value of the extension, which is present where there is a purpose
abbrev pub key_usage : List KeyUsagePurpose → Option Bits
key_usage us = option_map named_bits (unless_empty us)

-- ---- an issuer with these purposes may sign revocation lists (RFC 5280, 4.2.1.3)

abbrev pub signs_lists : List KeyUsagePurpose → Bool
signs_lists us = length us == 0 || is_listed us (bit_of purpose.CrlSign)

-- the extension on them
abbrev pub key_usage_row : List KeyUsagePurpose → List ExtensionRow
key_usage_row purposes = extension_row (id_ce ce_key_usage) true bit_string (key_usage purposes)
