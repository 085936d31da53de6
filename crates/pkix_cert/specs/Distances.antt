-- Levels below the base of a subtree (RFC 5280, 4.2.1.10).
use Rattle.std.specs.Prelude.{◌≡◌, ℕ, true, List, [], ◌∷◌, ◌↔◌}
use Rattle.std.specs.Cmp.Lexicographic.{bytes_decides}
pub use Rattle.asn1_core.specs.IntegerOrder.{same_integer}

-- the integer 0
abbrev pub zero : List ℕ
zero = 0 ∷ []

pub same_integer_exact : (a b : List ℕ) → (same_integer a b ≡ true) ↔ (a ≡ b)
same_integer_exact a b = bytes_decides a b
