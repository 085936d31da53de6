use Rattle.std.specs.Prelude.{◌≡◌, [], map}
use Rattle.std.specs.BTreeSet as set
use Rattle.rcgen_certificate.specs.ExtendedKeyUsages.{purpose_of}
use Rattle.rcgen_certificate.specs.contracts.extended_key_usage.ExtendedKeyUsagePurposeOrd.TheImpl.{ghosts as order}
use Rattle.rcgen_certificate.specs.declared.extended_key_usage.ExtendedKeyUsagePurpose.{ExtendedKeyUsagePurpose}
use Rattle.rcgen_read.specs.ExtensionReading.{holds, inserted}
use Rattle.rcgen_read.proofs.extended_key_usage.each_once.Given as goal

-- each so far occurs once, and the set has it
abbrev pub invariant-loop-purpose : goal.invariant-loop-purpose
invariant-loop-purpose l = record {
  once : map purpose_of l.once.items ≡ inserted [] (map purpose_of l.yielded);
  seen : (q : ExtendedKeyUsagePurpose) → set.contains order.cmp l.seen q ≡ holds (map purpose_of l.once.items) (purpose_of q);
}
