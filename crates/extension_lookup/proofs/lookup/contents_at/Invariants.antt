use Rattle.std.proofs.Common.{◌≡◌}
use Rattle.extension_lookup.specs.Lookup.{contents_at}
use Rattle.extension_lookup.proofs.lookup.contents_at.Given as goal

abbrev pub invariant-loop-extension : goal.invariant-loop-extension
invariant-loop-extension l = contents_at l.id l.extension-iterator ≡ contents_at l.id l.view.extensions
