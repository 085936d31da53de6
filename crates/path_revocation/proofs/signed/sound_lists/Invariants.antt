use Rattle.std.proofs.Common.{◌≡◌, Bor, filter, map, take}
use Rattle.path_revocation.specs.Lists.{is_sound}
use Rattle.path_revocation.specs.declared.given.GivenList.{GivenList}
use Rattle.path_revocation.proofs.signed.sound_lists.Given as goal

abbrev pub invariant-loop-given : goal.invariant-loop-given
invariant-loop-given g l =
    (map (λ (b : Bor GivenList). b.now) l.sound.items ≡ filter (is_sound (g.V.Verifier.accepts l.verifier) l.inputs.at) (take l.given-index l.given-items))
    × (l.given-items ≡ l.inputs.lists)
