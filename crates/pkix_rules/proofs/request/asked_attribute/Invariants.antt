use Rattle.std.proofs.Common.{◌≡◌, drop}
use Rattle.pkix_rules.specs.Requests.{asked_attribute}
use Rattle.pkix_rules.proofs.request.asked_attribute.Given as goal

abbrev pub invariant-loop-attribute : goal.invariant-loop-attribute
invariant-loop-attribute l = asked_attribute (drop l.attribute-index l.attributes) ≡ asked_attribute l.attributes
