use Rattle.std.proofs.Common.{◌≡◌, drop}
use Rattle.std.specs.List.{list_all}
use Rattle.pkix_name.specs.declared.name.RelativeDistinguishedName.{RelativeDistinguishedName}
use Rattle.pkix_rules.specs.Extensions.{ids_in}
use Rattle.pkix_rules.specs.Names.{attributes_fit, name_fits}
use Rattle.pkix_rules.proofs.name.name_fits.Given as goal

abbrev pub invariant-loop-part : goal.invariant-loop-part
invariant-loop-part g l =
    list_all (λ (part : RelativeDistinguishedName). attributes_fit g.T.Form.codec (ids_in l.ids) part.0) (drop l.part-index l.part-items)
    ≡ name_fits g.T.Form.codec (ids_in l.ids) l.name
