use Rattle.std.proofs.Common.{◌≡◌, ◌≤◌, ◌+◌, ◌∷◌, IfSome, None, drop}
use Rattle.chain_check.specs.ViewChecks.{walk}
use Rattle.chain_check.proofs.chain.check_places.Given as goal

-- from here on the walk comes to what it comes to as a whole
abbrev pub invariant-loop-issuer : goal.invariant-loop-issuer
invariant-loop-issuer g l =
    (walk (g.V.Verifier.accepts l.verifier) l.at l.place l.others (l.view ∷ drop l.issuer-index l.issuers)
    ≡ walk (g.V.Verifier.accepts l.verifier) l.at 0 None l.views)
    × (l.place ≡ l.issuer-index)
    × IfSome l.others (λ n. n + 1 ≤ l.place)
