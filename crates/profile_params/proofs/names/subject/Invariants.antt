use Rattle.std.specs.Prelude.{◌≡◌}
use Rattle.rcgen_text.specs.Names.{entries_of}
use Rattle.profile_params.proofs.names.subject.Given as goal

abbrev pub invariant-loop-attribute : goal.invariant-loop-attribute
invariant-loop-attribute l = entries_of l.entries.items ≡ l.yielded
