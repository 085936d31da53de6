use Rattle.std.proofs.Common.{◌≡◌}
use Rattle.std.specs.Map.{keys_of, values_of}
use Rattle.crl_index.proofs.serials.split.Given as goal

abbrev pub invariant-loop-serial : goal.invariant-loop-serial
invariant-loop-serial l = record {
  serials : l.serials.items ≡ keys_of l.yielded;
  places : l.places.items ≡ values_of l.yielded;
}
