-- Whether the subject of an order is an authority: "false" means that it isn't, and that basic constraints say so; any other value means what it means in profiles.
use Rattle.std.specs.Prelude.{ℕ, Bool, false, cond, List, codes, Option, Some, None, Result, Ok}
use Rattle.std.specs.Str.{bytes_eq}
use Rattle.toml.specs.Data.{Data, as_str}
use Rattle.toml_format.specs.Ca.{ca as profile_ca}
use Rattle.toml_format.specs.declared.reason.Reason.{Reason}
use Rattle.rcgen_text.specs.declared.basic_constraints.IsCa.{IsCa}
use Rattle.rcgen_text.specs.declared.basic_constraints.IsCa.TheVariants.{ExplicitNoCa}

abbrev pub is_false : Option (List ℕ) → Bool
is_false (Some text) = bytes_eq text (codes "false")
is_false None = false

unfoldable pub ca : Data → Result IsCa Reason
ca d = cond (is_false (as_str d)) (Ok ExplicitNoCa) (profile_ca d)
