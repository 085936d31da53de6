-- Which lists of arcs are identifiers.
use Rattle.std.specs.Prelude.{ℕ, ◌^◌, Bool, true, false, ◌&&◌, ◌||◌, nat_lt, List, [], ◌∷◌}

-- the second arc is at most 39 under 0 or 1
abbrev pub is_root : ℕ → ℕ → Bool
is_root a b = nat_lt a 3 && (nat_lt 1 a || nat_lt b 40)

abbrev pub are_below : ℕ → List ℕ → Bool
are_below limit [] = true
are_below limit (x ∷ xs) = nat_lt x limit && are_below limit xs

abbrev pub has_root : List ℕ → Bool
has_root (a ∷ b ∷ rest) = is_root a b
has_root (a ∷ []) = false
has_root [] = false

abbrev pub is_oid : List ℕ → Bool
is_oid arcs = has_root arcs && are_below (2 ^ 32) arcs
