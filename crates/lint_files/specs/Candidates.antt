-- A certificate that may be an issuer's.
use Rattle.std.specs.Prelude.{List, Option, ℕ}

pub record CandidateView : Type 0 where
  -- the octets of its subject
  pub subject : List ℕ
  -- the identifier of its key, where that is there
  pub key : Option (List ℕ)
  -- its octets
  pub octets : List ℕ
