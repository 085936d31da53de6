use Rattle.std.specs.Prelude.{◌≡◌, true, take, map}
use Rattle.std.specs.List.{list_all}
use Rattle.pkix_name.specs.Names.{attribute}
use Rattle.rcgen_certificate.specs.Requests.{attribute_value, has_values}
use Rattle.attr_issue.proofs.info.attributes.Given as goal

abbrev pub invariant-loop-attribute : goal.invariant-loop-attribute
invariant-loop-attribute l = record {
  values : l.list ≡ map attribute_value (take l.attribute-index l.given);
  formed : list_all attribute.has_tree l.list ≡ true;
  passed : list_all has_values (take l.attribute-index l.given) ≡ true;
}
