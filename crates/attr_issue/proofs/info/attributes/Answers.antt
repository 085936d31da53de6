use Rattle.der_tree.proofs.HasTreeLaws.{all_have_more}
use Rattle.pkix_name.specs.Names.{attribute}
use Rattle.rcgen_certificate.specs.Requests.{attribute_value, has_attribute_type, has_values}
use Rattle.rcgen_certificate.proofs.NameTrees.{item_passes}
use Rattle.rcgen_certificate.proofs.Requests.{passed_more}
use Rattle.rcgen_certificate.proofs.Rows.{map_more}
use Rattle.attr_issue.proofs.info.attributes.Goals as goal

pub attribute_value-requires : goal.attribute_value-requires
attribute_value-requires c =
    item_passes has_attribute_type c.args.given.now c.loop-attribute.attribute-index c.attribute-item.result c.loop-attribute-test.true
    c.attribute-item.is c.requires

pub loop-attribute-preserved : goal.loop-attribute-preserved
loop-attribute-preserved c = record {
  values = map_more attribute_value c.args.given.now c.loop-attribute.attribute-index c.attribute-item.result c.loop-attribute.list
      c.push.new.self c.in_ok-attribute_value.field-0 c.loop-attribute-test.true c.attribute-item.is c.loop-attribute.invariant.values
      c.in_ok-attribute_value.ensures.value c.in_ok-push.ensures.ok;
  formed = all_have_more attribute c.loop-attribute.list c.push.new.self c.in_ok-attribute_value.field-0 c.loop-attribute.invariant.formed
      c.in_ok-attribute_value.ensures.formed c.in_ok-push.ensures.ok;
  passed = passed_more has_values c.args.given.now c.loop-attribute.attribute-index c.attribute-item.result c.loop-attribute-test.true
      c.attribute-item.is c.loop-attribute.invariant.passed c.in_ok-attribute_value.ensures.ok;
}
