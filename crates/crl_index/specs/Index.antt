-- An index of a list of revoked certificates: a finite map from a serial to a place, and a length.
use Rattle.std.specs.Prelude.{◌≡◌, ◌≤◌, ℕ, cond, List, [], ◌∷◌, length, Option, Some, None}
use Rattle.std.specs.List.Sorted.{IsStrictlySortedBy}
use Rattle.pkix_cert.specs.declared.revocation.RevokedCertificate.{RevokedCertificate}
use Rattle.crl_index.specs.Search.{first_place, number_cmp, same_number}

-- the place beside this serial, if the serial is there
abbrev pub place_beside : List ℕ → List (List ℕ) → List ℕ → Option ℕ
place_beside serial [] places = None
place_beside serial (s ∷ serials) [] = None
place_beside serial (s ∷ serials) (place ∷ places) = cond (same_number s serial) (Some place) (place_beside serial serials places)

-- the different serials, ascending by number, each beside its place; and how many entries the list has
pub record Index : Type 0 where
  pub serials : List (List ℕ)
  pub places : List ℕ
  pub count : ℕ

-- the index as a map
abbrev pub place_of : Index → List ℕ → Option ℕ
place_of index serial = place_beside serial index.serials index.places

-- the serials ascend, each has a place, and there are no more of them than entries
pub record IsIndex (serials : List (List ℕ)) (places : List ℕ) (count : ℕ) : Type 0 where
  pub ascending : IsStrictlySortedBy number_cmp serials
  pub beside : length places ≡ length serials
  pub fewer : length serials ≤ count

-- each serial of the list has the place of its first entry
abbrev pub HasFirstPlaces : List (List ℕ) → List ℕ → List RevokedCertificate → Type 0
HasFirstPlaces serials places entries = (serial : List ℕ) → place_beside serial serials places ≡ first_place serial entries
