-- Nodes of named policies, one policy more.
use Rattle.std.proofs.Common.{◌≡◌, List, None, Option, Some, ap, get_or, length, refl, sym, take, ℕ, [], ◌++◌, ◌+◌, ◌<◌, ◌∙◌, ◌∷◌}
use Rattle.std.specs.Option.{option_to_list}
use Rattle.std.proofs.lemmas.List.{take_more}
use Rattle.std.proofs.lemmas.List.Elements.{filter_map-append}
use Rattle.path_policies.specs.Levels.{Level, Node, named_node, named_nodes}
use Rattle.path_policies.specs.Policies.{Policy}

one : (o : Option Node) (above : Level) (p : Policy) → o ≡ named_node above p → named_nodes above (p ∷ []) ≡ option_to_list o
one None above p e = rw (sym e) refl
one (Some v) above p e = rw (sym e) refl

pub named_more : (above : Level) (ps : List Policy) (i : ℕ) (p : Policy) → i < length ps → p ≡ get_or ps i p
    → named_nodes above (take (i + 1) ps) ≡ named_nodes above (take i ps) ++ option_to_list (named_node above p)
named_more above ps i p within is =
    ap (named_nodes above) (take_more ps i p within)
    ∙ ap (λ (q : Policy). named_nodes above (take i ps ++ q ∷ [])) (sym is)
    ∙ filter_map-append (named_node above) (take i ps) (p ∷ [])
    ∙ ap (λ (vs : Level). named_nodes above (take i ps) ++ vs) (one (named_node above p) above p refl)
