use Rattle.std.proofs.Common.{◌≡◌, ◌++◌}
use Rattle.pkix_name.specs.Characters.{codes_of}
use Rattle.shelf_explain.specs.Values.{value_text, value_from}
use Rattle.shelf_explain.proofs.value.push_value.Given as goal

-- the text so far, the character that is held, and those that are left
abbrev pub invariant-loop-code : goal.invariant-loop-code
invariant-loop-code l =
    l.lines.items ++ value_from l.is_first l.held (codes_of l.code-iterator) ≡ l.initial.lines.items ++ value_text (codes_of l.fn.text)
