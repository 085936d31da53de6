-- Each policy once, one policy more.
use Rattle.std.proofs.Common.{◌≡◌, Bool, List, ap, append-nil, cond, false, filter, not, refl, sym, true, [], ◌++◌, ◌∙◌, ◌∷◌, ◌||◌}
use Rattle.std.proofs.lemmas.List.Elements.{filter-append}
use Rattle.std.specs.Cmp.Lexicographic.{nat_list_eq_equiv}
use Rattle.path_policies.specs.Policies.{Policy, each_once, is_among, same_policy}

among_step : (b : Bool) (q r : Policy) (kept ps : List Policy) → (b ≡ true → same_policy r q ≡ false) → is_among q kept ≡ is_among q ps
    → is_among q (cond (not b) (r ∷ kept) kept) ≡ (same_policy r q || is_among q ps)
among_step true q r kept ps differ e = e ∙ ap (λ (c : Bool). c || is_among q ps) (sym (differ refl))
among_step false q r kept ps differ e = ap (λ (c : Bool). same_policy r q || c) e

-- what differs from p stays
pub among_others : (p q : Policy) (ps : List Policy) → same_policy p q ≡ false → is_among q (filter (λ r. not (same_policy p r)) ps) ≡ is_among q ps
among_others p q [] differ = refl
among_others p q (r ∷ ps) differ =
    among_step (same_policy p r) q r (filter (λ r. not (same_policy p r)) ps) ps
    (λ e. sym (nat_list_eq_equiv.congr p r q e) ∙ differ) (among_others p q ps differ)

kept_or_not : (a : Bool) (p q : Policy) (kept : List Policy) → is_among q kept ≡ a
    → p ∷ cond a kept (kept ++ q ∷ []) ≡ cond (is_among q kept) (p ∷ kept) ((p ∷ kept) ++ q ∷ [])
kept_or_not true p q kept e = rw e refl
kept_or_not false p q kept e = rw e refl

filter_cond : (a : Bool) (p q : Policy) (ps : List Policy) → same_policy p q ≡ false
    → filter (λ r. not (same_policy p r)) (cond a ps (ps ++ q ∷ [])) ≡ cond a (filter (λ r. not (same_policy p r)) ps) (filter (λ r. not (same_policy p r)) ps ++ q ∷ [])
filter_cond true p q ps e = refl
filter_cond false p q ps e =
    filter-append (λ r. not (same_policy p r)) ps (q ∷ [])
    ∙ ap (λ (c : Bool). filter (λ r. not (same_policy p r)) ps ++ cond (not c) (q ∷ []) []) e

once_step : (b a : Bool) (p q : Policy) (ps : List Policy) → same_policy p q ≡ b → is_among q ps ≡ a
    → p ∷ filter (λ r. not (same_policy p r)) (cond a ps (ps ++ q ∷ []))
    ≡ cond (b || is_among q (filter (λ r. not (same_policy p r)) ps)) (p ∷ filter (λ r. not (same_policy p r)) ps) ((p ∷ filter (λ r. not (same_policy p r)) ps) ++ q ∷ [])
once_step true true p q ps e h = refl
once_step true false p q ps e h =
    ap (λ (qs : List Policy). p ∷ qs) (filter-append (λ r. not (same_policy p r)) ps (q ∷ [])
    ∙ ap (λ (c : Bool). filter (λ r. not (same_policy p r)) ps ++ cond (not c) (q ∷ []) []) e
    ∙ append-nil (filter (λ r. not (same_policy p r)) ps))
once_step false a p q ps e h =
    ap (λ (qs : List Policy). p ∷ qs) (filter_cond a p q ps e)
    ∙ kept_or_not a p q (filter (λ r. not (same_policy p r)) ps) (among_others p q ps e ∙ h)

pub once_more : (ps : List Policy) (q : Policy) → each_once (ps ++ q ∷ []) ≡ cond (is_among q (each_once ps)) (each_once ps) (each_once ps ++ q ∷ [])
once_more [] q = refl
once_more (p ∷ ps) q =
    ap (λ (qs : List Policy). p ∷ filter (λ r. not (same_policy p r)) qs) (once_more ps q)
    ∙ once_step (same_policy p q) (is_among q (each_once ps)) p q (each_once ps) refl refl
