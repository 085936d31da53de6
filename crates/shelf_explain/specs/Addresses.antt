-- Addresses, and subnets of them (RFC 5280, 4.2.1.6, 4.2.1.10).
use Rattle.std.specs.Prelude.{ℕ, cond, List, ◌++◌, ◌==◌, codes, decimal, drop, take, length}
use Rattle.std.specs.List.{join_by}
use Rattle.shelf_explain.specs.Lines.{hex_text}
use Rattle.shelf_explain.specs.Names.{hex_value}

unfoldable pub two_groups : List ℕ → List ℕ
two_groups octets = hex_text (take 2 octets) ++ codes ":" ++ hex_text (drop 2 octets)

unfoldable pub four_groups : List ℕ → List ℕ
four_groups octets = two_groups (take 4 octets) ++ codes ":" ++ two_groups (drop 4 octets)

-- sixteen octets
unfoldable pub eight_groups : List ℕ → List ℕ
eight_groups octets = four_groups (take 8 octets) ++ codes ":" ++ four_groups (drop 8 octets)

-- four octets
unfoldable pub four_numbers : List ℕ → List ℕ
four_numbers octets = join_by decimal (codes ".") octets

-- an address and its mask
unfoldable pub subnet_4 : List ℕ → List ℕ
subnet_4 octets = four_numbers (take 4 octets) ++ codes "/" ++ four_numbers (drop 4 octets)

unfoldable pub subnet_6 : List ℕ → List ℕ
subnet_6 octets = eight_groups (take 16 octets) ++ codes "/" ++ eight_groups (drop 16 octets)

-- by how many octets there are
unfoldable pub address_text : List ℕ → List ℕ
address_text octets =
    cond (length octets == 4) (four_numbers octets)
    (cond (length octets == 8) (subnet_4 octets)
    (cond (length octets == 16) (eight_groups octets)
    (cond (length octets == 32) (subnet_6 octets) (hex_value octets))))
