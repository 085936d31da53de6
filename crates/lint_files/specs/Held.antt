-- Who issued what is asked about, by a map.
use Rattle.std.specs.Prelude.{List, Option, ℕ}
use Rattle.lint_files.specs.Firsts.{by_index, first_at}
use Rattle.lint_files.specs.Namings.{NamingView}
use Rattle.lint_files.specs.declared.issuers.Issuers.{Issuers}

abbrev pub issuer_by : Issuers → NamingView → Option (List ℕ)
issuer_by s = by_index (first_at s.firsts)
