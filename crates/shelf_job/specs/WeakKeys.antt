-- Weak keys of subjects, which an order has to accept.
use Rattle.std.specs.Prelude.{Bool, List, false, not, true, ◌&&◌, ◌++◌}
use Rattle.std.specs.List.{list_any}
use Rattle.rule_table.specs.Found.{when}
use Rattle.rule_table.specs.declared.rule.Rule.{Rule}
use Rattle.rule_table.specs.declared.rule.Rule.TheVariants.{KeyOfIssuer, PointOffCurve, RsaExponent, RsaExponentSize, ShortRsaKey, UnreadableKey, WeakKey}

-- a key that breaks the rule is weak, isn't one, or is the issuer's
unfoldable pub is_weak : Rule → Bool
is_weak UnreadableKey = true
is_weak ShortRsaKey = true
is_weak RsaExponent = true
is_weak RsaExponentSize = true
is_weak PointOffCurve = true
is_weak KeyOfIssuer = true
is_weak _ = false

-- the rules that are broken, and after them that the key is weak where that isn't accepted
unfoldable pub with_weak_key : Bool → List Rule → List Rule
with_weak_key accepted rules = rules ++ when (not accepted && list_any is_weak rules) WeakKey
