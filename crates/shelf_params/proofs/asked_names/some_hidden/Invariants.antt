use Rattle.std.proofs.Common.{◌≡◌}
use Rattle.std.specs.List.{list_any}
use Rattle.pkix_name.specs.Characters.{codes_of}
use Rattle.shown_text.specs.Hidden.{is_hidden}
use Rattle.shelf_params.proofs.asked_names.some_hidden.Given as goal

-- none of those before is one
abbrev pub invariant-loop-character : goal.invariant-loop-character
invariant-loop-character l = list_any is_hidden (codes_of l.fn.characters) ≡ list_any is_hidden (codes_of l.character-iterator)
