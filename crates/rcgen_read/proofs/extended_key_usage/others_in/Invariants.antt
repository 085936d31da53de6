use Rattle.std.proofs.Common.{◌≡◌, filter, map, not, take}
use Rattle.rcgen_certificate.specs.ExtendedKeyUsages.{other, purpose_of}
use Rattle.rcgen_read.specs.ExtensionReading.{has_name}
use Rattle.rcgen_read.proofs.extended_key_usage.others_in.Given as goal

-- those listed so far
abbrev pub invariant-loop-id : goal.invariant-loop-id
invariant-loop-id l = map purpose_of l.purposes.items ≡ map other (filter (λ id. not (has_name id)) (take l.id-index l.ids))
