use Rattle.std.proofs.Common.{◌≡◌, ◌+◌, drop}
use Rattle.der_tree.specs.SetOf.{octets_of_form, place_of}
use Rattle.der_tree.proofs.set.place_of.Given as goal

abbrev pub invariant-loop-place : goal.invariant-loop-place
invariant-loop-place g l =
    place_of (octets_of_form g.T.Form.codec) l.octets (drop l.place l.list) + l.place ≡ place_of (octets_of_form g.T.Form.codec) l.octets l.list
