-- Texts that are pushed one after another.
use Rattle.std.proofs.Common.{◌≡◌, ◌++◌, ℕ, ◌+◌, ◌-◌, arith, ◌≤◌, ◌<◌, List, [], ◌∷◌, drop, length, reverse, ap, sym, ◌∙◌}
use Rattle.std.specs.List.{flat_map}
use Rattle.std.proofs.lemmas.List.{take_more, take_all, flat_map_more, reverse-append, drop_more, drop_all, append_assoc, append-nil}
use Rattle.std.proofs.lemmas.Grind.{flat_map-append}
use Rattle.std.proofs.Math.ListN.{get_or}

pub ruleset pushing = (take_more, take_all, flat_map_more)

-- what is left, from the last on, and the one before
pub one_before : {X : Type 0} (f : X → List ℕ) (xs : List X) (i : ℕ) (d : X) → i < length xs
    → flat_map f (reverse (drop i xs)) ≡ flat_map f (reverse (drop (i + 1) xs)) ++ f (get_or xs i d)
one_before f xs i d h =
    let x = get_or xs i d in
    let ys = drop (i + 1) xs in
    ap (λ zs. flat_map f (reverse zs)) (drop_more xs i d h)
    ∙ ap (flat_map f) (reverse-append (x ∷ []) ys)
    ∙ flat_map-append f (reverse ys) (x ∷ [])
    ∙ ap (λ t. flat_map f (reverse ys) ++ t) (append-nil (f x))

pub ruleset from_last = (one_before, drop_all, reverse-append, append_assoc)

-- the same of a text so far, when a separator and one more text are pushed
pub more_before : {X : Type 0} (text : X → List ℕ) (separator start so_far between after : List ℕ) (xs : List X) (i : ℕ) (x : X)
    → 0 < i → i ≤ length xs
    → so_far ≡ start ++ flat_map (λ (y : X). separator ++ text y) (reverse (drop i xs))
    → between ≡ so_far ++ separator → after ≡ between ++ text x → x ≡ get_or xs (i - 1) x
    → after ≡ start ++ flat_map (λ (y : X). separator ++ text y) (reverse (drop (i - 1) xs))
more_before {X} text separator start so_far between after xs i x some inside e b a is =
    let f : X → List ℕ = λ (y : X). separator ++ text y in
    let here : i - 1 < length xs = omega arith in
    let on : i - 1 + 1 ≡ i = omega arith in
    let left : List ℕ = flat_map f (reverse (drop i xs)) in
    let more : flat_map f (reverse (drop (i - 1) xs)) ≡ left ++ (separator ++ text x) =
    one_before f xs (i - 1) x here
    ∙ ap (λ (k : ℕ). flat_map f (reverse (drop k xs)) ++ f (get_or xs (i - 1) x)) on
    ∙ ap (λ (y : X). left ++ f y) (sym is) in
    a ∙ ap (λ (t : List ℕ). t ++ text x) (b ∙ ap (λ (t : List ℕ). t ++ separator) e)
    ∙ ap (λ (t : List ℕ). t ++ text x) (append_assoc start left separator)
    ∙ append_assoc start (left ++ separator) (text x)
    ∙ ap (λ (t : List ℕ). start ++ t) (append_assoc left separator (text x) ∙ sym more)
