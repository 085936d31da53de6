-- The octets of a signature by the rules of DER: SEQUENCE { r INTEGER, s INTEGER } (RFC 3279, 2.2.3).
-- Section numbers are those of X.690.
use Rattle.std.specs.Prelude.{◌≡◌, ℕ, ◌/◌, ◌%◌, true, if◌then◌else◌, nat_lt, List, [], ◌∷◌, ◌++◌, length}
use Rattle.ecdsa.specs.Signature.{number_of_octets, is_natural}

-- the octets of a length below 65,536 (8.1.3), as few as they can be (10.1)
unfoldable pub length_octets : ℕ → List ℕ
length_octets count =
    if nat_lt count 128
    then count ∷ []
    else (if nat_lt count 256 then 0x81 ∷ count ∷ [] else 0x82 ∷ count / 256 ∷ count % 256 ∷ [])

-- an element with an identifier of one octet: identifier, length, contents (8.1.1)
abbrev pub element : ℕ → List ℕ → List ℕ
element identifier contents = identifier ∷ (length_octets (length contents) ++ contents)

-- the contents octets of an INTEGER that isn't negative (8.3)
pub record IsInteger (x : ℕ) (contents : List ℕ) : Type 0 where
  pub shortest : is_natural contents ≡ true
  pub number : number_of_octets contents ≡ x

-- the octets of the SEQUENCE of r and s
pub record IsSignature (r s : ℕ) (octets : List ℕ) : Type 0 where
  pub r_contents : List ℕ
  pub s_contents : List ℕ
  pub r_is : IsInteger r r_contents
  pub s_is : IsInteger s s_contents
  pub form : octets ≡ element 0x30 (element 0x02 r_contents ++ element 0x02 s_contents)
