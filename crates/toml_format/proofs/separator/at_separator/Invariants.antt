use Rattle.std.proofs.Common.{◌≡◌, [], take, drop}
use Rattle.toml_format.specs.Separator.{at_separator_from}
use Rattle.toml_format.proofs.separator.at_separator.Given as goal

-- what is found on from here is found in the whole
abbrev pub invariant-loop-index : goal.invariant-loop-index
invariant-loop-index l = at_separator_from (take l.index l.text) (drop l.index l.text) ≡ at_separator_from [] l.text
