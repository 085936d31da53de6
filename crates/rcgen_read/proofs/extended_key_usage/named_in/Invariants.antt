use Rattle.std.proofs.Common.{◌≡◌, filter, map}
use Rattle.rcgen_certificate.specs.ExtendedKeyUsages.{purpose_of}
use Rattle.rcgen_read.specs.ExtensionReading.{lists, named_of}
use Rattle.rcgen_read.proofs.extended_key_usage.named_in.Given as goal

-- those listed so far
abbrev pub invariant-loop-named : goal.invariant-loop-named
invariant-loop-named l = map purpose_of l.purposes.items ≡ filter (lists l.ids) (map named_of l.yielded)
