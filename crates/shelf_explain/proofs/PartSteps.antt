-- Parts that are pushed one after another.
use Rattle.std.proofs.Common.{◌≡◌, ◌++◌, List, [], ◌∷◌, ℕ, ap, sym, ◌∙◌}
use Rattle.std.specs.List.{flat_map}
use Rattle.std.proofs.lemmas.List.{append_assoc, append-nil}
use Rattle.shelf_explain.specs.Parts.{Place}

-- what a loop over parts has pushed, and what is left to push
abbrev pub after_parts : List ℕ → List ℕ → (Place → List ℕ) → List Place → List ℕ
after_parts lines before text ps = lines ++ flat_map (λ (p : Place). before ++ text p) ps

pub one_more_part : (text : Place → List ℕ) (before old mid new all : List ℕ) (left rest : List Place) (p : Place)
    → left ≡ p ∷ rest → mid ≡ old ++ before → new ≡ mid ++ text p → after_parts old before text left ≡ all → after_parts new before text rest ≡ all
one_more_part text before old mid new all left rest p e m n h =
    let others : List ℕ = flat_map (λ (q : Place). before ++ text q) rest in
    ap (λ (t : List ℕ). t ++ others) (n ∙ ap (λ (t : List ℕ). t ++ text p) m ∙ append_assoc old before (text p))
    ∙ append_assoc old (before ++ text p) others
    ∙ sym (ap (after_parts old before text) e)
    ∙ h

pub no_more_parts : (text : Place → List ℕ) (before lines all : List ℕ) (left : List Place) → left ≡ [] → after_parts lines before text left ≡ all → lines ≡ all
no_more_parts text before lines all left e h = sym (append-nil lines) ∙ sym (ap (after_parts lines before text) e) ∙ h

pub ruleset pushing = (one_more_part, no_more_parts)
