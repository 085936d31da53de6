-- That instants have civil times.
use Rattle.std.specs.Prelude.{ℤ}
use Rattle.rcgen_issue.specs.ListTable.{HasCivilTime}

-- each instant that has a form in UTC has a civil time there
abbrev pub EachInstantIsCivil : Type 0
EachInstantIsCivil = (z : ℤ) → HasCivilTime z
