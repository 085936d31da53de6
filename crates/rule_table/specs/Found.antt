-- Rules that are broken, in order.
use Rattle.std.specs.Prelude.{Bool, List, cond, [], ◌∷◌}
use Rattle.rule_table.specs.declared.rule.Rule.{Rule}

-- the rule, where it is broken
unfoldable pub when : Bool → Rule → List Rule
when broken rule = cond broken (rule ∷ []) []
