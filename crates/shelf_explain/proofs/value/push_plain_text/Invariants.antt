use Rattle.std.proofs.Common.{◌≡◌, ◌++◌}
use Rattle.std.specs.List.{flat_map}
use Rattle.pkix_name.specs.Characters.{codes_of}
use Rattle.shelf_explain.specs.Characters.{plain}
use Rattle.shelf_explain.proofs.value.push_plain_text.Given as goal

-- the text so far, and the characters that are left
abbrev pub invariant-loop-code : goal.invariant-loop-code
invariant-loop-code l = l.lines.items ++ flat_map plain (codes_of l.code-iterator) ≡ l.initial.lines.items ++ flat_map plain (codes_of l.fn.text)
