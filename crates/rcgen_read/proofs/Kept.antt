-- Lists that a test leaves, and values that are present where a list isn't empty.
use Rattle.std.specs.Prelude.{◌≡◌, Bool, true, false, ◌||◌, ◌&&◌, cond, ◌==◌, List, [], ◌∷◌, length, filter, Some, None, refl}
use Rattle.std.specs.List.{list_any}
use Rattle.std.specs.Option.{option_map}
use Rattle.std.proofs.Common.{ap, arith, sym, ◌∙◌}
use Rattle.std.proofs.lemmas.Bool.{ne_eqb}
use Rattle.rcgen_certificate.specs.ExtensionRows.{unless_empty}

pub or_nothing : (b : Bool) → (b || false) ≡ b
or_nothing true = refl
or_nothing false = refl

and_yes : (a r : Bool) → (a || r) ≡ ((a && true) || r)
and_yes true r = refl
and_yes false r = refl

and_no : (a r : Bool) → r ≡ ((a && false) || r)
and_no true r = refl
and_no false r = refl

any_kept_step : {A : Type 0} (p q : A → Bool) (x : A) (xs : List A) (b : Bool) → list_any q (filter p xs) ≡ list_any (λ y. q y && p y) xs
    → list_any q (cond b (x ∷ filter p xs) (filter p xs)) ≡ ((q x && b) || list_any (λ y. q y && p y) xs)
any_kept_step p q x xs true h = rw h (and_yes (q x) (list_any (λ y. q y && p y) xs))
any_kept_step p q x xs false h = h ∙ and_no (q x) (list_any (λ y. q y && p y) xs)

-- what passes one test among those that pass another passes both
pub any_kept : {A : Type 0} (p q : A → Bool) (xs : List A) → list_any q (filter p xs) ≡ list_any (λ y. q y && p y) xs
any_kept p q [] = refl
any_kept p q (x ∷ xs) = any_kept_step p q x xs (p x) (any_kept p q xs)

pub any_same : {A : Type 0} (p q : A → Bool) (xs : List A) → ((x : A) → p x ≡ q x) → list_any p xs ≡ list_any q xs
any_same p q [] h = refl
any_same p q (x ∷ xs) h = rw (h x, any_same p q xs h) refl

pub filter_same : {A : Type 0} (p q : A → Bool) (xs : List A) → ((x : A) → p x ≡ q x) → filter p xs ≡ filter q xs
filter_same p q [] h = refl
filter_same p q (x ∷ xs) h = rw (h x, filter_same p q xs h) refl

-- what passes one test among what passes another passes both
pub filter_both : {A : Type 0} (p q : A → Bool) (xs : List A) → filter p (filter q xs) ≡ filter (λ x. q x && p x) xs
filter_both p q [] = refl
filter_both p q (x ∷ xs) =
    elim (q x) as (λ b. filter p (cond b (x ∷ filter q xs) (filter q xs)) ≡ cond (b && p x) (x ∷ filter (λ y. q y && p y) xs) (filter (λ y. q y && p y) xs)) [
      | true ↦ rw (filter_both p q xs) refl
      | false ↦ filter_both p q xs
    ]

-- ---- lists that aren't empty

pub not_empty : {A : Type 0} (x : A) (xs : List A) → (length (x ∷ xs) == 0) ≡ false
not_empty x xs = ne_eqb (length (x ∷ xs)) 0 (λ e. omega arith)

pub some_there : {A : Type 0} (q : A → Bool) (xs : List A) → list_any q xs ≡ true → (length xs == 0) ≡ false
some_there q [] h = absurd cc
some_there q (x ∷ xs) h = not_empty x xs

one_part : {A C : Type 0} (g : A → C) (b : Bool) (x : A) (y : C) → g x ≡ y → option_map g (cond b None (Some x)) ≡ cond b None (Some y)
one_part g true x y e = refl
one_part g false x y e = ap Some e

-- values of two lists that are empty together
pub same_part : {A B C : Type 0} (g : List A → C) (h : List B → C) (xs : List A) (ys : List B) → (length xs == 0) ≡ (length ys == 0) → g xs ≡ h ys
    → option_map g (unless_empty xs) ≡ option_map h (unless_empty ys)
same_part {A} {B} {C} g h xs ys e k =
    one_part g (length xs == 0) xs (h ys) k ∙ ap (λ (b : Bool). cond b None (Some (h ys))) e ∙ sym (one_part h (length ys == 0) ys (h ys) refl)

twice_part : {A B C : Type 0} (f : B → C) (g : A → B) (b : Bool) (x : A)
    → option_map f (option_map g (cond b None (Some x))) ≡ option_map (λ z. f (g z)) (cond b None (Some x))
twice_part f g true x = refl
twice_part f g false x = refl

pub twice : {A B C : Type 0} (f : B → C) (g : List A → B) (xs : List A)
    → option_map f (option_map g (unless_empty xs)) ≡ option_map (λ z. f (g z)) (unless_empty xs)
twice f g xs = twice_part f g (length xs == 0) xs
