-- What is looked at of a certificate, a request, a CRL or an attribute certificate.
use Rattle.std.specs.Prelude.{Bool, List, Option, ℕ}

-- who issued it
pub record NamingView : Type 0 where
  -- the octets of the name
  pub name : List ℕ
  -- the identifier of the key, where that is there
  pub key : Option (List ℕ)
  -- a certificate of the name with another key is taken too, where no other is there
  pub by_name : Bool

pub record ArtefactView : Type 0 where
  -- the octets that are signed
  pub signed : List ℕ
  -- the algorithm beside them isn't the one within them
  pub differs : Bool
  -- who issued it; none where it issues itself, or nobody is named
  pub issuer : Option NamingView
