-- How public keys are read from the DER of a SubjectPublicKeyInfo.
use Rattle.std.specs.Prelude.{ℕ, ◌==◌, cond, List, [], ◌∷◌, Option, Some, None, refl}
use Rattle.asn1_core.specs.Binds.{◌>>=◌}
use Rattle.asn1_core.specs.Bits.{Bits}
use Rattle.asn1_core.specs.Twos.{is_negative, without_zeros}
use Rattle.der_tree.specs.Codec.{Codec, struct_of}
use Rattle.der_tree.specs.Element.{Element}
use Rattle.der_tree.specs.Form.{value_of}
use Rattle.der_tree.specs.Grammar.{required, sequence, ◌&◌}
use Rattle.der_tree.specs.PrimitiveTypes.{bit_string, integer}
use Rattle.der_tree.specs.Tags.{universal}
use Rattle.rcgen_sign.specs.KeyInfos.{key_info}
use Rattle.rcgen_sign.specs.declared.key_info.KeyInfo.{KeyInfo}
use Rattle.signature_verifier.specs.Keys.{Key, key}
use Rattle.signature_verifier.specs.Schemes.{kind_of}

-- ---- SubjectPublicKeyInfo (RFC 5280, 4.1.2.7)

-- the octets of a BIT STRING that has no bits unused
abbrev pub whole_octets : Bits → Option (List ℕ)
whole_octets b = cond (b.unused == 0) (Some b.bytes) None

-- those of the BIT STRING that an element shows
unfoldable pub octets_in : Element → Option (List ℕ)
octets_in s = bit_string.read_of s >>= whole_octets

-- the key that an info holds, where it is of a kind that is known
unfoldable pub key_of : KeyInfo → Option Key
key_of info = kind_of info.algorithm >>= λ kind. whole_octets info.subject_public_key >>= λ octets. Some (key kind octets)

-- the key whose info the octets are
unfoldable pub key_in : List ℕ → Option Key
key_in octets = value_of key_info octets >>= key_of

-- ---- RSAPublicKey (RFC 8017, A.1.1)

-- SEQUENCE { modulus INTEGER, publicExponent INTEGER }
abbrev pub rsa_public_key : Codec (List ℕ × List ℕ)
rsa_public_key = sequence (universal 16) (struct_of (required integer & required integer) refl)

-- the octets of a number, the highest first, where it isn't zero
abbrev pub nonzero : List ℕ → Option (List ℕ)
nonzero [] = None
nonzero (b ∷ bytes) = Some (b ∷ bytes)

-- the octets of the number that a two's complement is of, where that is positive: without leading zero octets
-- (X.690, 8.3.3)
abbrev pub positive : List ℕ → Option (List ℕ)
positive twos = cond (is_negative twos) None (nonzero (without_zeros twos))

-- that of the INTEGER that an element shows
unfoldable pub positive_in : Element → Option (List ℕ)
positive_in s = integer.read_of s >>= positive

-- the modulus and the exponent, both positive (3.1)
unfoldable pub rsa_key : List ℕ → Option (List ℕ × List ℕ)
rsa_key octets = value_of rsa_public_key octets >>= λ k. positive k.0 >>= λ modulus. positive k.1 >>= λ exponent. Some (modulus, exponent)
