use Rattle.std.proofs.Common.{◌≡◌, [], drop}
use Rattle.shelf_explain.specs.BitNames.{all_names, names_in}
use Rattle.shelf_explain.proofs.bits.names_of.Given as goal

-- what is left gives the whole
abbrev pub invariant-loop-i : goal.invariant-loop-i
invariant-loop-i l =
    all_names l.bits (names_in l.table) (names_in (drop l.i l.numbers)) l.i l.names.items ≡ all_names l.bits (names_in l.table) (names_in l.numbers) 0 []
