use Rattle.std.specs.Prelude.{◌≡◌, true, take, map}
use Rattle.std.specs.List.{list_all}
use Rattle.std.specs.List.Sorted.{IsPermutation}
use Rattle.rcgen_certificate.specs.Requests.{attribute_value, has_values}
use Rattle.rcgen_certificate.proofs.csr.given_attributes.Given as goal

abbrev pub invariant-loop-attribute : goal.invariant-loop-attribute
invariant-loop-attribute l = record {
  each : IsPermutation (map attribute_value (take l.attribute-index l.given)) l.set;
  passed : list_all has_values (take l.attribute-index l.given) ≡ true;
}
