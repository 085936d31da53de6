-- An element: its tag, its constructed bit and its contents, and the bytes of it (X.690, 8.1).
use Rattle.std.specs.Prelude.{Bool, List, None, Option, Some, drop, length, nat_lt, not, suc, take, true, unwrap_or, zero, ℕ, [], if◌then◌else◌, ◌%◌, ◌&&◌}
use Rattle.std.specs.Prelude.{◌*◌, ◌++◌, ◌+◌, ◌-◌, ◌/◌, ◌==◌, ◌^◌, ◌∷◌}
use Rattle.asn1_core.specs.Base128.{base128, base128_at, digits}
use Rattle.asn1_core.specs.Binds.{◌>>=◌}
use Rattle.asn1_core.specs.declared.tag.Class.{Class}
use Rattle.asn1_core.specs.declared.tag.Class.TheVariants as class
use Rattle.asn1_core.specs.declared.tag.Tag.{Tag}

pub record Element : Type 0 where
  pub tag : Tag
  pub constructed : Bool
  pub content : List ℕ

abbrev pub class_bits : Class → ℕ
class_bits class.Universal = 0
class_bits class.Application = 64
class_bits class.Context = 128
class_bits class.Private = 192

abbrev pub constructed_bit : Bool → ℕ
constructed_bit b = if b then 32 else 0

unfoldable pub identifier_octets : Tag → Bool → List ℕ
identifier_octets t c =
    if nat_lt t.number 31 then (class_bits t.class + constructed_bit c + t.number) ∷ [] else (class_bits t.class + constructed_bit c + 31) ∷ base128
    t.number

abbrev pub number_octets : ℕ → List ℕ
number_octets n = digits 256 0 8 n

unfoldable pub length_octets : ℕ → List ℕ
length_octets n = if nat_lt n 128 then n ∷ [] else (128 + length (number_octets n)) ∷ number_octets n

unfoldable pub element_octets : Element → List ℕ
element_octets s = identifier_octets s.tag s.constructed ++ (length_octets (length s.content) ++ s.content)

-- what has bytes
abbrev pub is_encodable : Element → Bool
is_encodable s = nat_lt s.tag.number (2 ^ 32) && nat_lt (length s.content) (2 ^ 64)

abbrev pub all_encodable : List Element → Bool
all_encodable [] = true
all_encodable (s ∷ ss) = is_encodable s && all_encodable ss

abbrev pub class_at : ℕ → Option Class
class_at b =
    if nat_lt b 64 then Some class.Universal else if nat_lt b 128 then Some class.Application else if nat_lt b 192 then Some class.Context else if nat_lt b
    256 then Some class.Private else None

unfoldable pub identifier_at : List ℕ → Option ((Tag × Bool) × List ℕ)
identifier_at [] = None
identifier_at (b ∷ bytes) = do
  c ← class_at b
  if b % 32 == 31
      then base128_at (2 ^ 25) bytes >>= (λ n. if nat_lt n.0 31 then None else Some ((record { class = c; number = n.0 }, not (b / 32 % 2 == 0)), n.1))
      else Some ((record { class = c; number = b % 32 }, not (b / 32 % 2 == 0)), bytes)

-- the number of these bytes, after those that were read; below 2 ^ 64
unfoldable pub number_of : ℕ → List ℕ → Option ℕ
number_of high [] = Some high
number_of high (b ∷ bytes) = if nat_lt high (2 ^ 56) then (if nat_lt b 256 then number_of (high * 256 + b) bytes else None) else None

-- a length of the long form: no leading zero octet, and none that the short form holds (X.690, 8.1.3.5, 10.1)
unfoldable pub length_of : List ℕ → Option ℕ
length_of [] = None
length_of (b ∷ bytes) = if b == 0 then None else number_of 0 (b ∷ bytes) >>= (λ n. if nat_lt n 128 then None else Some n)

unfoldable pub length_at : List ℕ → Option (ℕ × List ℕ)
length_at [] = None
length_at (b ∷ bytes) =
    if nat_lt b 128 then Some (b, bytes)
    else if nat_lt (length bytes) (b - 128) then None
    else length_of (take (b - 128) bytes) >>= (λ n. Some (n, drop (b - 128) bytes))

unfoldable pub element_at : List ℕ → Option (Element × List ℕ)
element_at bytes = do
  i ← identifier_at bytes
  n ← length_at i.1
  if nat_lt (length n.1) n.0 then None else Some (record { tag = i.0.0; constructed = i.0.1; content = take n.0 n.1 }, drop n.0 n.1)

unfoldable pub split_in : ℕ → List ℕ → Option (List Element)
split_in k [] = Some []
split_in zero (b ∷ bytes) = None
split_in (suc k) (b ∷ bytes) = do
  x ← element_at (b ∷ bytes)
  ss ← split_in k x.1
  Some (x.0 ∷ ss)

-- the bytes as a list of elements
unfoldable pub split : List ℕ → Option (List Element)
split bytes = split_in (length bytes) bytes

-- the same of bytes that are known to be such a list
abbrev pub left : List ℕ → List Element
left bytes = unwrap_or (split bytes) []

-- the elements within a constructed one
abbrev pub children_of : Element → Option (List Element)
children_of s = if s.constructed then split s.content else None

-- the bytes as one element
abbrev pub one_element : List ℕ → Option Element
one_element bytes = element_at bytes >>= (λ x. if length x.1 == 0 then Some x.0 else None)
