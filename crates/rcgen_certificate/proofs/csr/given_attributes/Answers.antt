use Rattle.rcgen_certificate.proofs.Requests.{given_more, passed_more}
use Rattle.rcgen_certificate.specs.Requests.{has_values}
use Rattle.rcgen_certificate.proofs.csr.given_attributes.Goals as goal

pub loop-attribute-preserved : goal.loop-attribute-preserved
loop-attribute-preserved c = record {
  each = given_more c.args.given.now c.loop-attribute.attribute-index c.attribute-item.result c.loop-attribute.set c.insert.new.self
      c.in_ok-attribute_value.field-0 c.loop-attribute-test.true c.attribute-item.is c.loop-attribute.invariant.each
      c.in_ok-attribute_value.ensures.value (rw c.in_ok-memory_only.ensures.value at c.insert.ensures.formed)
      (rw c.in_ok-memory_only.ensures.value at c.insert.ensures.ok);
  passed = passed_more has_values c.args.given.now c.loop-attribute.attribute-index c.attribute-item.result c.loop-attribute-test.true
      c.attribute-item.is c.loop-attribute.invariant.passed c.in_ok-attribute_value.ensures.ok;
}
