-- Tags by their numbers (X.680, 8.1).
use Rattle.std.specs.Prelude.{ℕ}
use Rattle.asn1_core.specs.declared.tag.Class.TheVariants.{Universal, Application, Context}
use Rattle.asn1_core.specs.declared.tag.Tag.{Tag}

abbrev pub universal : ℕ → Tag
universal n = record { class = Universal; number = n }

abbrev pub application : ℕ → Tag
application n = record { class = Application; number = n }

abbrev pub context : ℕ → Tag
context n = record { class = Context; number = n }
