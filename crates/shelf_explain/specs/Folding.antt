-- Lines of at most 98 characters. The rest of a longer line continues in the column of values, after a bar that no other line has there.
use Rattle.std.specs.Prelude.{ℕ, ◌+◌, Bool, true, not, cond, List, [], ◌∷◌, ◌++◌, ◌&&◌, ◌==◌, codes, nat_le, nat_lt}

unfoldable pub fold_mark : List ℕ
fold_mark = codes "\n                                | "

-- the octet continues a character (RFC 3629, 3)
unfoldable pub goes_on : ℕ → Bool
goes_on octet = nat_le 128 octet && nat_lt octet 192

-- a character begins past the last column of a line
unfoldable pub is_wide : ℕ → ℕ → Bool
is_wide column octet = nat_le 98 column && not (octet == 10) && not (goes_on octet)

unfoldable pub piece : ℕ → ℕ → List ℕ
piece column octet = cond (is_wide column octet) (fold_mark ++ octet ∷ []) (octet ∷ [])

-- the column after the octet
unfoldable pub next_column : ℕ → ℕ → ℕ
next_column column octet =
    cond (octet == 10) 0 (cond (goes_on octet) column (cond (nat_lt column 98) (column + 1) 35))

-- the octets from a column on
unfoldable pub folded_from : ℕ → List ℕ → List ℕ
folded_from column [] = []
folded_from column (octet ∷ octets) = piece column octet ++ folded_from (next_column column octet) octets

unfoldable pub folded : List ℕ → List ℕ
folded text = folded_from 0 text

-- no line has more than 98 characters; the first begins at the column
unfoldable pub fits_from : ℕ → List ℕ → Bool
fits_from column [] = true
fits_from column (octet ∷ octets) =
    cond (octet == 10) (fits_from 0 octets)
    (cond (goes_on octet) (fits_from column octets) (nat_lt column 98 && fits_from (column + 1) octets))
