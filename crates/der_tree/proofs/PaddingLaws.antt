-- The padding of X.690, 11.6, doesn't change the order of forms.
use Rattle.std.specs.Prelude.{◌≡◌, ℕ, ◌-◌, List, [], ◌∷◌, ◌++◌, length, replicate, ◌⊎◌, refl}
use Rattle.std.specs.Ordering.{nat_cmp, ordering_then}
use Rattle.std.specs.declared.cmp.Ordering.{Ordering}
use Rattle.std.specs.declared.cmp.Ordering.TheVariants.{Less, Equal, Greater}
use Rattle.std.specs.Cmp.Lexicographic.{slice_cmp}
use Rattle.std.proofs.Common.{sym, ap, ◌∙◌, subst, inl, inr}
use Rattle.std.proofs.lemmas.Cmp.{ranked, nat_list_cmp_total, tied_itself}
use Rattle.std.proofs.lemmas.List.{append-nil}
use Rattle.der_tree.specs.Codec.{Codec}
use Rattle.der_tree.specs.Form.{IsDerOf}
use Rattle.der_tree.specs.SetOf.{padded, padded_cmp}
use Rattle.der_tree.proofs.FormLaws.{no_front}

abbrev Begins : List ℕ → List ℕ → Type 0
Begins xs ys = (rest : List ℕ) × (ys ≡ xs ++ rest)

-- what comes after two lists changes nothing, unless one begins the other
abbrev Apart : List ℕ → List ℕ → List ℕ → List ℕ → Type 0
Apart xs ys zs ws = (slice_cmp nat_cmp (xs ++ zs) (ys ++ ws) ≡ slice_cmp nat_cmp xs ys) ⊎ (Begins xs ys ⊎ Begins ys xs)

begins_cons : (x y : ℕ) (xs ys : List ℕ) → x ≡ y → Begins xs ys → Begins (x ∷ xs) (y ∷ ys)
begins_cons x y xs ys e h = (h.0, ap (λ (z : ℕ). z ∷ ys) (sym e) ∙ ap (λ (z : List ℕ). x ∷ z) h.1)

apart_equal : (x y : ℕ) (xs ys zs ws : List ℕ) → x ≡ y → Apart xs ys zs ws → (slice_cmp nat_cmp (xs ++ zs) (ys ++ ws) ≡ slice_cmp nat_cmp xs ys) ⊎ (Begins (x ∷ xs) (y ∷ ys) ⊎ Begins (y ∷ ys) (x ∷ xs))
apart_equal x y xs ys zs ws e (inl h) = inl h
apart_equal x y xs ys zs ws e (inr (inl h)) = inr (inl (begins_cons x y xs ys e h))
apart_equal x y xs ys zs ws e (inr (inr h)) = inr (inr (begins_cons y x ys xs (sym e) h))

apart_at : (o : Ordering) (x y : ℕ) (xs ys zs ws : List ℕ) → o ≡ nat_cmp x y → Apart xs ys zs ws → (ordering_then o (slice_cmp nat_cmp (xs ++ zs) (ys ++ ws)) ≡ ordering_then o (slice_cmp nat_cmp xs ys)) ⊎ (Begins (x ∷ xs) (y ∷ ys) ⊎ Begins (y ∷ ys) (x ∷ xs))
apart_at Less x y xs ys zs ws e h = inl refl
apart_at Equal x y xs ys zs ws e h = apart_equal x y xs ys zs ws (ranked x y Equal e) h
apart_at Greater x y xs ys zs ws e h = inl refl

apart : (xs ys zs ws : List ℕ) → Apart xs ys zs ws
apart [] ys zs ws = inr (inl (ys, refl))
apart (x ∷ xs) [] zs ws = inr (inr (x ∷ xs, refl))
apart (x ∷ xs) (y ∷ ys) zs ws = apart_at (nat_cmp x y) x y xs ys zs ws refl (apart xs ys zs ws)

itself : (xs ys : List ℕ) → xs ≡ ys → padded_cmp xs ys ≡ slice_cmp nat_cmp xs ys
itself xs ys e =
    let P : List ℕ → Type 0 = λ z. padded_cmp xs z ≡ slice_cmp nat_cmp xs z in
    subst P e (tied_itself nat_list_cmp_total (padded xs xs) ∙ sym (tied_itself nat_list_cmp_total xs))

padding_at : (xs ys : List ℕ) → ((rest : List ℕ) → ys ≡ xs ++ rest → rest ≡ []) → ((rest : List ℕ) → xs ≡ ys ++ rest → rest ≡ []) → Apart xs ys (replicate (length ys - length xs) 0) (replicate (length xs - length ys) 0) → padded_cmp xs ys ≡ slice_cmp nat_cmp xs ys
padding_at xs ys p q (inl h) = h
padding_at xs ys p q (inr (inl h)) = itself xs ys (sym (h.1 ∙ ap (λ (z : List ℕ). xs ++ z) (p h.0 h.1) ∙ append-nil xs))
padding_at xs ys p q (inr (inr h)) = itself xs ys (h.1 ∙ ap (λ (z : List ℕ). ys ++ z) (q h.0 h.1) ∙ append-nil ys)

-- no form begins another, so the padding doesn't change the order of forms
pub padding_is : {A : Type 0} (c : Codec A) (v w : A) (a b : List ℕ) → IsDerOf c v a → IsDerOf c w b → padded_cmp a b ≡ slice_cmp nat_cmp a b
padding_is c v w a b h k =
    padding_at a b (λ rest e. no_front c c v w a b rest h k e) (λ rest e. no_front c c w v b a rest k h e)
    (apart a b (replicate (length b - length a) 0) (replicate (length a - length b) 0))
