use Rattle.std.proofs.Common.{◌≡◌, drop}
use Rattle.pkix_rules.specs.Extensions.{ids_in}
use Rattle.pkix_rules.specs.Names.{attributes_fit}
use Rattle.pkix_rules.proofs.name.attributes_fit.Given as goal

abbrev pub invariant-loop-attribute : goal.invariant-loop-attribute
invariant-loop-attribute g l = attributes_fit g.T.Form.codec (ids_in l.ids) (drop l.attribute-index l.attributes) ≡ attributes_fit g.T.Form.codec (ids_in l.ids) l.attributes
