-- Times of lists and of their entries (RFC 5280, 5.1.2.4 to 5.1.2.6).
use Rattle.std.specs.Prelude.{Bool, int_lt}
use Rattle.jiff.specs.Types.{DateTime}
use Rattle.jiff.specs.Words.{civil_nanos}

abbrev pub is_earlier : DateTime → DateTime → Bool
is_earlier a b = int_lt (civil_nanos a) (civil_nanos b)
