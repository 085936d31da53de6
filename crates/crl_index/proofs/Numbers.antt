-- The order of numbers.
use Rattle.std.specs.Prelude.{◌≡◌, ℕ, List, refl}
use Rattle.std.specs.Cmp.{IsTotalOrder, int_cmp_total, on_total}
use Rattle.std.specs.Ordering.{eq_by_cmp}
use Rattle.asn1_core.specs.Twos.{signed}
use Rattle.crl_index.specs.Search.{number_cmp, same_number}

pub number_total : IsTotalOrder number_cmp
number_total = on_total signed int_cmp_total

pub number_ties : (a b : List ℕ) → same_number a b ≡ eq_by_cmp number_cmp a b
number_ties a b = refl
