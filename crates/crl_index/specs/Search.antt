-- Plain search for a serial in a list of revoked certificates.
use Rattle.std.specs.Prelude.{◌+◌, ℕ, Bool, cond, List, [], ◌∷◌, Option, Some, None}
use Rattle.std.specs.Map.{lookup}
use Rattle.std.specs.Option.{option_map}
use Rattle.std.specs.Ordering.{int_cmp, int_eq, on}
use Rattle.std.specs.declared.cmp.Ordering.{Ordering}
use Rattle.asn1_core.specs.Twos.{signed}
use Rattle.pkix_cert.specs.declared.revocation.RevokedCertificate.{RevokedCertificate}

-- the octets are of one number, in two's complement (X.690, 8.3.3)
abbrev pub same_number : List ℕ → List ℕ → Bool
same_number a b = int_eq (signed a) (signed b)

-- by the number
abbrev pub number_cmp : List ℕ → List ℕ → Ordering
number_cmp = on signed int_cmp

-- the place, from 1, of the first entry with this serial, in the order of the list
abbrev pub first_place : List ℕ → List RevokedCertificate → Option ℕ
first_place serial [] = None
first_place serial (entry ∷ entries) = cond (same_number entry.user_certificate serial) (Some 1) (option_map (λ place. place + 1) (first_place serial entries))

-- the place of the first pair with this serial
abbrev pub found_in : List ℕ → List (List ℕ × ℕ) → Option ℕ
found_in serial pairs = lookup (λ s. same_number s serial) pairs

-- the serial of each of these entries beside its place, the first of which is this one
abbrev pub numbered : ℕ → List RevokedCertificate → List (List ℕ × ℕ)
numbered place [] = []
numbered place (entry ∷ entries) = (entry.user_certificate, place) ∷ numbered (place + 1) entries
