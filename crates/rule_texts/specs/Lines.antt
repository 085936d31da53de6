-- Lines on rules that are broken.
use Rattle.std.specs.Prelude.{Bool, List, codes, if◌then◌else◌, ℕ, ◌++◌}
use Rattle.std.specs.List.{flat_map}
use Rattle.rule_table.specs.declared.rule.Rule.{Rule}
use Rattle.rule_texts.specs.Errors.{is_error}
use Rattle.rule_texts.specs.Texts.{text}

abbrev pub severity : Bool → List ℕ
severity error = if error then codes "error: " else codes "warning: "

unfoldable pub finding_line : Rule → List ℕ
finding_line r = severity (is_error r) ++ text r ++ codes "\n"

unfoldable pub finding_lines : List Rule → List ℕ
finding_lines rules = flat_map finding_line rules
