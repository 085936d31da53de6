-- Where an octet is in a text.
use Rattle.std.proofs.Common.{◌≤◌, length, not, ℕ, Bool, List}
use Rattle.std.specs.List.{position_or_len}
use Rattle.std.proofs.lemmas.List.Sums.{prefix_len-le-length}

pub place_fits : (p : ℕ → Bool) (text : List ℕ) → position_or_len p text ≤ length text
place_fits p text = prefix_len-le-length (λ c. not (p c)) text
