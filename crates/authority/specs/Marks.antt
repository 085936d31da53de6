-- Which serial numbers are revoked, by the entries and by a mark for each certificate.
use Rattle.std.specs.Prelude.{◌≡◌, ℕ, suc, Bool, false, ◌==◌, nat_eq, List, get_or, map}
use Rattle.std.specs.Cmp.Lexicographic.{pointwise}
use Rattle.std.specs.List.{IsDistinct, list_any}
use Rattle.std.specs.Int.{w64, from_be_bytes, to_be_bytes}
use Rattle.rcgen_issue.specs.CrlView.{RevokedView}

-- the serial number that an entry is of
abbrev pub serial_of : RevokedView → ℕ
serial_of e = from_be_bytes w64 e.serial_number

-- those that the entries are of, in order
abbrev pub serials_of : List RevokedView → List ℕ
serials_of entries = map serial_of entries

-- it has all eight octets of that number
abbrev pub is_numbered : RevokedView → Bool
is_numbered e = pointwise nat_eq e.serial_number (to_be_bytes w64 (serial_of e))

-- the entries are of different serial numbers, and each has all eight octets of its number
pub record AreOfDistinctSerials (entries : List RevokedView) : Type 0 where
  pub written : map (λ e. e.serial_number) entries ≡ map (to_be_bytes w64) (serials_of entries)
  pub distinct : IsDistinct nat_eq (serials_of entries)

-- an entry is of that serial number
abbrev pub is_revoked : ℕ → List RevokedView → Bool
is_revoked serial entries = list_any (λ e. serial_of e == serial) entries

-- the mark at each place is of the serial number that is one more
abbrev pub AreMarksOf : List RevokedView → List Bool → Type 0
AreMarksOf entries marks = (n : ℕ) → get_or marks n false ≡ is_revoked (suc n) entries
