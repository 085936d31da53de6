-- A text that is read octet by octet.
use Rattle.std.proofs.Common.{◌≡◌, ◌++◌, ℕ, List, [], ◌∷◌, ap, refl}
use Rattle.std.proofs.lemmas.List.{append_assoc, drop_more, drop_all}
use Rattle.explain_json.specs.declared.State.{State}
use Rattle.explain_json.specs.Json.{after_at, ending, json_from, piece_at}

pub at_octet : (s : State) (octet : ℕ) (octets : List ℕ)
    → json_from s (octet ∷ octets) ≡ piece_at s.place s octet ++ json_from (after_at s.place s octet) octets
unfolding json_from
at_octet s octet octets = refl

pub at_end : (s : State) (octets : List ℕ) → octets ≡ [] → json_from s octets ≡ ending s
unfolding json_from
at_end s octets e = ap (json_from s) e

pub ruleset stepping = (at_octet, at_end, drop_more, drop_all, append_assoc)
