-- How the DER of a public key is read, and why it isn't.
use Rattle.std.specs.Prelude.{◌≡◌, ℕ, List, [], ◌∷◌, ◌++◌, ◌==◌, length, not, Option, Some, None, is_none, codes}
use Rattle.asn1_core.specs.Binds.{◌>>=◌}
use Rattle.der_tree.specs.Element.{element_at}
use Rattle.der_tree.specs.Form.{IsDerOf}
use Rattle.rcgen_text.specs.Causes.{Cause, first, unsupported_algorithm, when, x509}
use Rattle.rcgen_sign.specs.declared.key_info.KeyInfo.{KeyInfo}
use Rattle.rcgen_sign.specs.KeyInfos.{key_info}
use Rattle.rcgen_sign.specs.Keys.{Key, key_info_value}
use Rattle.rcgen_sign.specs.Algorithms.{key_algorithm_value}
use Rattle.rcgen_sign.specs.Listed.{keyed_with}

-- the bytes begin with the form of the info, and the rest follows it
abbrev pub BeginsWithInfo : List ℕ → KeyInfo → List ℕ → Type 0
BeginsWithInfo input info rest = (b : List ℕ) × IsDerOf key_info info b × (input ≡ b ++ rest)

-- the info whose form is a front of the bytes, and the rest
unfoldable pub info_at : List ℕ → Option (KeyInfo × List ℕ)
info_at input = do
  x ← element_at input
  info ← key_info.read_of x.0
  Some (info, x.1)

abbrev pub no_info : Cause
no_info = x509 (codes "not a SubjectPublicKeyInfo")

abbrev pub trailing_bytes : Cause
trailing_bytes = x509 (codes "trailing bytes in SubjectPublicKeyInfo")

abbrev pub unused_bits : Cause
unused_bits = x509 (codes "unused bits in SubjectPublicKeyInfo")

-- the first fault of what is read
abbrev pub fault_of : Option (KeyInfo × List ℕ) → Option Cause
fault_of None = Some no_info
fault_of (Some (info, rest)) = first (
    when (not (length rest == 0)) trailing_bytes
    ∷ when (not (info.subject_public_key.unused == 0)) unused_bits
    ∷ when (is_none (keyed_with info.algorithm)) unsupported_algorithm
    ∷ [])

-- why these bytes aren't a public key: no front is an info, bytes follow it, bits are unused, no listed algorithm has
-- such keys
abbrev pub first_key_fault : List ℕ → Option Cause
first_key_fault der = fault_of (info_at der)

-- the bytes are the form of the key's info, and its algorithm is the first listed one that has such keys
abbrev pub IsKeyOf : List ℕ → Key → Type 0
IsKeyOf der k = IsDerOf key_info (key_info_value k) der × (keyed_with (key_algorithm_value k.algorithm) ≡ Some k.algorithm)
