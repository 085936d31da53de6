-- Values of an array, one after another.
use Rattle.std.specs.Prelude.{List, ◌++◌, Result}
use Rattle.toml_format.specs.Outcome.{both, mapped}
use Rattle.toml_format.specs.declared.reason.Reason.{Reason}

-- the values and more after them, or the least reason
abbrev pub with_more : {A : Type 0} → Result (List A) Reason → Result (List A) Reason → Result (List A) Reason
with_more list more = mapped (both list more) (λ x. x.0 ++ x.1)
