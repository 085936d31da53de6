-- Texts that have to be ASCII.
use Rattle.std.specs.Prelude.{◌≡◌, ℕ, Bool, true, false, not, cond, List, [], ◌∷◌, ◌++◌, Option, Some, None, flat_map, refl}
use Rattle.std.specs.List.{list_all}
use Rattle.std.specs.Option.{option_or}
use Rattle.std.proofs.Common.{sym, ◌∙◌}
use Rattle.std.proofs.lemmas.List.Folds.{list_all-append, find-append}
use Rattle.asn1_core.specs.Binds.{and_true, true_and}
use Rattle.rcgen_certificate.specs.AsciiTexts.{is_ascii, first_not_ascii}

-- the first of two lists' texts
pub first_of_both : (xs ys : List (List ℕ)) → first_not_ascii (xs ++ ys) ≡ option_or (first_not_ascii xs) (first_not_ascii ys)
first_of_both xs ys = find-append (λ text. not (is_ascii text)) xs ys

pub ruleset texts = (first_of_both)

at_front : (b : Bool) (t : List ℕ) (o : Option (List ℕ)) → cond (not b) (Some t) o ≡ None → (b ≡ true) × (o ≡ None)
at_front true t o h = (refl, h)
at_front false t o h = absurd cc

-- where none is found, all are ASCII
pub all_ascii : (texts : List (List ℕ)) → first_not_ascii texts ≡ None → list_all is_ascii texts ≡ true
all_ascii [] h = refl
all_ascii (t ∷ ts) h =
    let k = at_front (is_ascii t) t (first_not_ascii ts) h in
    true_and _ _ k.0 (all_ascii ts k.1)

-- so are those of each part
pub parts_ascii : (xs ys : List (List ℕ)) → first_not_ascii (xs ++ ys) ≡ None → (list_all is_ascii xs ≡ true) × (list_all is_ascii ys ≡ true)
parts_ascii xs ys h = and_true _ _ (sym (list_all-append is_ascii xs ys) ∙ all_ascii (xs ++ ys) h)

-- where all of the texts are ASCII, those of each item are
pub each_ascii : {X : Type 0} (f : X → List (List ℕ)) (xs : List X) → list_all is_ascii (flat_map f xs) ≡ true
    → list_all (λ x. list_all is_ascii (f x)) xs ≡ true
each_ascii f [] h = refl
each_ascii f (x ∷ xs) h =
    let k = and_true _ _ (sym (list_all-append is_ascii (f x) (flat_map f xs)) ∙ h) in
    true_and _ _ k.0 (each_ascii f xs k.1)
