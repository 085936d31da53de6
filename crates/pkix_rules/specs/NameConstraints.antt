-- Rules of name constraints (RFC 5280, 4.2.1.10).
use Rattle.std.specs.Prelude.{Bool, List, None, Option, Some, [], is_some, length, not, ◌&&◌, ◌++◌, ◌==◌, ◌||◌}
use Rattle.std.specs.List.{list_any}
use Rattle.pkix_cert.specs.declared.constraint.GeneralSubtree.{GeneralSubtree}
use Rattle.pkix_cert.specs.declared.constraint.NameConstraints.{NameConstraints}
use Rattle.pkix_rules.specs.Generals.{is_odd_host_base, is_odd_mail_base, is_odd_network}
use Rattle.pkix_rules.specs.Integers.{is_zero}
use Rattle.rule_table.specs.Found.{when}
use Rattle.rule_table.specs.declared.rule.Rule.{Rule}
use Rattle.rule_table.specs.declared.rule.Rule.TheVariants.{EmptyNameConstraints, SubtreeAddress, SubtreeDistance, SubtreeMailbox, SubtreePeriod}

abbrev pub subtrees_in : Option (List GeneralSubtree) → List GeneralSubtree
subtrees_in None = []
subtrees_in (Some subtrees) = subtrees

-- minimum is 0 and maximum absent in each
abbrev pub has_distance : GeneralSubtree → Bool
has_distance t = not (is_zero t.minimum) || is_some t.maximum

abbrev pub has_odd_network : GeneralSubtree → Bool
has_odd_network t = is_odd_network t.base

abbrev pub has_odd_mail_base : GeneralSubtree → Bool
has_odd_mail_base t = is_odd_mail_base t.base

abbrev pub has_odd_host_base : GeneralSubtree → Bool
has_odd_host_base t = is_odd_host_base t.base

unfoldable pub subtree_rules : List GeneralSubtree → List GeneralSubtree → List Rule
subtree_rules permitted excluded =
    when (list_any has_distance permitted || list_any has_distance excluded) SubtreeDistance
    ++ when (list_any has_odd_network permitted || list_any has_odd_network excluded) SubtreeAddress
    ++ when (list_any has_odd_mail_base permitted || list_any has_odd_mail_base excluded) SubtreeMailbox
    ++ when (list_any has_odd_host_base permitted || list_any has_odd_host_base excluded) SubtreePeriod

-- there are none, also where both lists are there and empty
abbrev pub have_none : List GeneralSubtree → List GeneralSubtree → Bool
have_none permitted excluded = (length permitted == 0) && (length excluded == 0)

unfoldable pub name_constraint_rules : Option NameConstraints → List Rule
name_constraint_rules None = []
name_constraint_rules (Some c) =
    when (have_none (subtrees_in c.permitted_subtrees) (subtrees_in c.excluded_subtrees)) EmptyNameConstraints
    ++ subtree_rules (subtrees_in c.permitted_subtrees) (subtrees_in c.excluded_subtrees)
