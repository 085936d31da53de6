-- Texts of several lines: each line after the first begins with spaces.
use Rattle.std.proofs.Common.{◌≡◌, ℕ, zero, suc, ◌==◌, Bool, true, false, cond, ◌&&◌, ◌||◌, List, [], ◌∷◌, ◌++◌, refl, ap, sym, ◌∙◌}
use Rattle.std.specs.List.{flat_map, join_by, list_all}
use Rattle.std.proofs.lemmas.Bool.{or_left}
use Rattle.asn1_core.specs.Binds.{and_true, true_and}
use Rattle.explained_whole.proofs.Breaks.{no_break, unbroken}
use Rattle.explained_whole.proofs.Texts.{cons_is, head_is, tail_is}

-- it begins with so many spaces
abbrev pub spaces : ℕ → List ℕ → Bool
spaces zero x = true
spaces (suc n) [] = false
spaces (suc n) (c ∷ x) = (c == 32) && spaces n x

pub spaces_more : (n : ℕ) (x y : List ℕ) → spaces n x ≡ true → spaces n (x ++ y) ≡ true
spaces_more zero x y h = refl
spaces_more (suc n) [] y h = absurd cc
spaces_more (suc n) (c ∷ x) y h =
    let q = and_true (c == 32) (spaces n x) h in
    true_and (c == 32) (spaces n (x ++ y)) q.0 (spaces_more n x y q.1)

-- six spaces follow each break
abbrev pub is_indented : List ℕ → Bool
is_indented [] = true
is_indented (c ∷ x) = (no_break c || spaces 6 x) && is_indented x

abbrev pub indented : List ℕ → Type 0
indented x = is_indented x ≡ true

or_more : (a b c : Bool) → (b ≡ true → c ≡ true) → (a || b) ≡ true → (a || c) ≡ true
or_more true b c f h = refl
or_more false b c f h = f h

pub both : (x y : List ℕ) → indented x → indented y → indented (x ++ y)
both [] y h k = k
both (c ∷ x) y h k =
    let q = and_true (no_break c || spaces 6 x) (is_indented x) h in
    true_and (no_break c || spaces 6 (x ++ y)) (is_indented (x ++ y))
    (or_more (no_break c) (spaces 6 x) (spaces 6 (x ++ y)) (λ (s : spaces 6 x ≡ true). spaces_more 6 x y s) q.0) (both x y q.1 k)

pub of_unbroken : (x : List ℕ) → unbroken x → indented x
of_unbroken [] h = refl
of_unbroken (c ∷ x) h =
    let q = and_true (no_break c) (list_all no_break x) h in
    true_and (no_break c || spaces 6 x) (is_indented x) (or_left (no_break c) (spaces 6 x) q.0) (of_unbroken x q.1)

pub each : {X : Type 0} (f : X → List ℕ) → ((x : X) → indented (f x)) → (xs : List X) → indented (flat_map f xs)
each f h [] = refl
each f h (x ∷ xs) = both (f x) (flat_map f xs) (h x) (each f h xs)

pub joined : {X : Type 0} (f : X → List ℕ) (sep : List ℕ) → ((x : X) → indented (f x)) → indented sep → (xs : List X) → indented (join_by f sep xs)
joined f sep h k [] = refl
joined {X} f sep h k (x ∷ xs) =
    both (f x) (flat_map (λ (y : X). sep ++ f y) xs) (h x) (each (λ (y : X). sep ++ f y) (λ (y : X). both sep (f y) k (h y)) xs)

pub either : (b : Bool) (x y : List ℕ) → indented x → indented y → indented (cond b x y)
either true x y h k = h
either false x y h k = k

-- ---- where such a text ends

-- the text goes on at a break, since what follows the other isn't so far indented
on : (d : ℕ) (y r s : List ℕ) → indented (d ∷ y) → 10 ∷ r ≡ d ∷ (y ++ s) → spaces 6 r ≡ true
on d y r s k e =
    let q = and_true (no_break d || spaces 6 y) (is_indented y) k in
    let g : spaces 6 y ≡ true = ap (λ (n : ℕ). no_break n || spaces 6 y) (head_is 10 d r (y ++ s) e) ∙ q.0 in
    ap (spaces 6) (tail_is 10 d r (y ++ s) e) ∙ spaces_more 6 y s g

pub ends_there : (x y r s : List ℕ) → indented x → indented y → (spaces 6 r ≡ true → ⊥) → (spaces 6 s ≡ true → ⊥)
    → x ++ 10 ∷ r ≡ y ++ 10 ∷ s → (x ≡ y) × (r ≡ s)
ends_there [] [] r s h k f g e = (refl, tail_is 10 10 r s e)
ends_there [] (d ∷ y) r s h k f g e = absurd (f (on d y r (10 ∷ s) k e))
ends_there (c ∷ x) [] r s h k f g e = absurd (g (on c x s (10 ∷ r) h (sym e)))
ends_there (c ∷ x) (d ∷ y) r s h k f g e =
    let rest = ends_there x y r s (and_true (no_break c || spaces 6 x) (is_indented x) h).1 (and_true (no_break d || spaces 6 y) (is_indented y) k).1 f g
    (tail_is c d (x ++ 10 ∷ r) (y ++ 10 ∷ s) e) in
    (cons_is c d x y (head_is c d (x ++ 10 ∷ r) (y ++ 10 ∷ s) e) rest.0, rest.1)
