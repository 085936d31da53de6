-- Control characters of ASCII (RFC 20, 4).
use Rattle.std.specs.Prelude.{Bool, List, nat_lt, ℕ, ◌==◌, ◌||◌}
use Rattle.std.specs.List.{list_any}

abbrev pub is_control : ℕ → Bool
is_control c = nat_lt c 32 || (c == 127)

unfoldable pub has_control : List ℕ → Bool
has_control text = list_any is_control text
