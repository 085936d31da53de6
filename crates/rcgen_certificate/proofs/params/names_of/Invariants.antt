use Rattle.std.specs.Prelude.{map, string_bytes}
use Rattle.rcgen_certificate.specs.Params.{AreNamesOfTexts}
use Rattle.rcgen_certificate.proofs.params.names_of.Given as goal

abbrev pub invariant-loop-text : goal.invariant-loop-text
invariant-loop-text l = AreNamesOfTexts (map string_bytes l.yielded) l.names.items
