use Rattle.std.proofs.Common.{◌≡◌, true, take, map}
use Rattle.std.specs.List.{list_all}
use Rattle.pkix_name.specs.Names.{relative_distinguished_name}
use Rattle.rcgen_text.specs.Names.{entries_of}
use Rattle.rcgen_certificate.specs.NameValues.{relative_name}
use Rattle.rcgen_certificate.proofs.name_value.name_value.Given as goal

abbrev pub invariant-loop-entry : goal.invariant-loop-entry
invariant-loop-entry l = record {
  values : l.parts ≡ map relative_name (entries_of (take l.entry-index l.entry-items));
  formed : list_all relative_distinguished_name.has_tree l.parts ≡ true;
}
