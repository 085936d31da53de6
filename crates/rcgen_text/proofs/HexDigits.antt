-- Hex digits are ASCII.
use Rattle.std.specs.Prelude.{◌≡◌, ℕ, ◌+◌, ◌<◌, Bool, true, false, cond, nat_lt, [], ◌∷◌, encode_utf8, refl}
use Rattle.std.specs.Char.{digit_char}
use Rattle.std.proofs.Common.{arith}
use Rattle.std.proofs.lemmas.Str.{encode_ascii}

digit_low : (d : ℕ) (b : Bool) → d < 16 → nat_lt d 10 ≡ b → cond b (48 + d) (87 + d) < 128
digit_low d true h e = omega (arith, h)
digit_low d false h e = omega (arith, h)

pub digit_written : (d : ℕ) → d < 16 → encode_utf8 (digit_char d) ≡ digit_char d ∷ []
digit_written d h = encode_ascii (digit_char d) (digit_low d (nat_lt d 10) h refl)

pub ruleset writing = (digit_written)
