use Rattle.std.proofs.Common.{◌≡◌, drop}
use Rattle.std.specs.List.{list_any}
use Rattle.pkix_rules.specs.Attributes.{is_odd_directory_name}
use Rattle.pkix_rules.proofs.attribute.has_odd_name.Given as goal

abbrev pub invariant-loop-name : goal.invariant-loop-name
invariant-loop-name l = list_any is_odd_directory_name (drop l.name-index l.names) ≡ list_any is_odd_directory_name l.names
