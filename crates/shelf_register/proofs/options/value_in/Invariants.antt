use Rattle.std.proofs.Common.{◌≡◌, drop}
use Rattle.shelf_register.specs.Options.{value_of}
use Rattle.shelf_register.proofs.options.value_in.Given as goal

abbrev pub invariant-loop-one : goal.invariant-loop-one
invariant-loop-one l = value_of l.option (drop l.one-index l.given) ≡ value_of l.option l.given
