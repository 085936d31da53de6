-- The reasons against a profile, in the order of their numbers.
use Rattle.std.specs.Prelude.{ℕ, if◌then◌else◌, nat_le, List, [], ◌∷◌, Option, Some, None}
use Rattle.toml_format.specs.declared.reason.Reason.{Reason}
use Rattle.toml_format.specs.declared.reason.Reason.TheVariants.{NotToml, UnknownKey, MissingKey, WrongType, WrongValue, NotHex, NotOneValue}

abbrev pub reason_number : Reason → ℕ
reason_number NotToml = 1
reason_number UnknownKey = 2
reason_number MissingKey = 3
reason_number WrongType = 4
reason_number WrongValue = 5
reason_number NotHex = 6
reason_number NotOneValue = 7

-- the reason with the smaller number
unfoldable pub least : Reason → Reason → Reason
least d e = if nat_le (reason_number d) (reason_number e) then d else e

-- the same of reasons of which each may not be there
abbrev pub least_there : Option Reason → Option Reason → Option Reason
least_there None other = other
least_there (Some d) None = Some d
least_there (Some d) (Some e) = Some (least d e)

-- the smallest of all these reasons, where there is one
abbrev pub least_of : List Reason → Option Reason
least_of [] = None
least_of (e ∷ es) = least_there (Some e) (least_of es)
