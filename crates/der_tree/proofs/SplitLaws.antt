-- Splitting an element at a time.
use Rattle.std.specs.Prelude.{◌≡◌, ℕ, zero, suc, ◌+◌, ◌-◌, ◌<◌, ◌≤◌, true, false, List, [], ◌∷◌, ◌++◌, length, take, Option, Some, None, is_some, unwrap_or, refl}
use Rattle.std.proofs.Common.{sym, ap, ◌∙◌, arith}
use Rattle.std.proofs.lemmas.List.{length-append, take_at}
use Rattle.asn1_core.specs.Binds.{bind_is, some_is, ◌>>=◌}
use Rattle.der_tree.specs.Element.{Element, element_at, element_octets, left, split, split_in}
use Rattle.der_tree.specs.laws.Element.{element_long, element_takes}

pub shorter : (bytes : List ℕ) (s : Element) (rest : List ℕ) → element_at bytes ≡ Some (s, rest) → length rest < length bytes
shorter bytes s rest e =
    let l : length bytes ≡ length (element_octets s ++ rest) = ap length (element_takes bytes s rest e).0 in
    omega (arith, l, length-append (element_octets s) rest, element_long s)

split_in_some : (k : ℕ) (b : ℕ) (bytes : List ℕ) (s : Element) (rest : List ℕ) → element_at (b ∷ bytes) ≡ Some (s, rest) → split_in (suc k) (b ∷ bytes) ≡ (split_in k rest >>= λ ss. Some (s ∷ ss))
unfolding split_in
split_in_some k b bytes s rest e = bind_is (element_at (b ∷ bytes)) (λ x. split_in k x.1 >>= λ ss. Some (x.0 ∷ ss)) (s, rest) (split_in k rest >>= λ ss. Some (s ∷ ss)) e refl

split_in_none : (k : ℕ) (b : ℕ) (bytes : List ℕ) → element_at (b ∷ bytes) ≡ None → split_in (suc k) (b ∷ bytes) ≡ None
unfolding split_in
split_in_none k b bytes e = ap (λ (o : Option (Element × List ℕ)). o >>= λ x. split_in k x.1 >>= λ ss. Some (x.0 ∷ ss)) e

-- more fuel changes nothing
split_in_more : (k j : ℕ) (bytes : List ℕ) → length bytes ≤ k → length bytes ≤ j → split_in k bytes ≡ split_in j bytes
unfolding split_in
split_in_more zero zero [] p q = refl
split_in_more zero (suc j) [] p q = refl
split_in_more (suc k) zero [] p q = refl
split_in_more (suc k) (suc j) [] p q = refl
split_in_more zero j (b ∷ bytes) p q = absurd (omega arith)
split_in_more (suc k) zero (b ∷ bytes) p q = absurd (omega arith)
split_in_more (suc k) (suc j) (b ∷ bytes) p q =
    elim (element_at (b ∷ bytes)) as (λ o. element_at (b ∷ bytes) ≡ o → split_in (suc k) (b ∷ bytes) ≡ split_in (suc j) (b ∷ bytes)) [
      | None ↦ λ e. split_in_none k b bytes e ∙ sym (split_in_none j b bytes e)
      | Some x ↦ λ e. let l : length x.1 < length (b ∷ bytes) = shorter (b ∷ bytes) x.0 x.1 e in
          split_in_some k b bytes x.0 x.1 e ∙ ap (λ (o : Option (List Element)). o >>= λ ss. Some (x.0 ∷ ss)) (split_in_more k j x.1 (omega arith) (omega arith)) ∙ sym (split_in_some j b bytes x.0 x.1 e)
    ] refl

pub split_step : (b : ℕ) (bytes : List ℕ) (s : Element) (rest : List ℕ) → element_at (b ∷ bytes) ≡ Some (s, rest) → split (b ∷ bytes) ≡ (split rest >>= λ ss. Some (s ∷ ss))
unfolding split
split_step b bytes s rest e =
    split_in_some (length bytes) b bytes s rest e ∙ ap (λ (o : Option (List Element)). o >>= λ ss. Some (s ∷ ss)) (split_in_more (length bytes) (length rest) rest (let l : length rest < length (b ∷ bytes) = shorter (b ∷ bytes) s rest e in omega arith) (omega arith))

pub split_stop : (b : ℕ) (bytes : List ℕ) → element_at (b ∷ bytes) ≡ None → split (b ∷ bytes) ≡ None
unfolding split
split_stop b bytes e = split_in_none (length bytes) b bytes e

pub split_nil : split [] ≡ Some []
unfolding split split_in
split_nil = refl

some_none : {A : Type 0} (x : A) → Some x ≡ None → ⊥
some_none x e = cc

cons_some : (s : Element) (o : Option (List Element)) (y : List Element) → (o >>= λ ss. Some (s ∷ ss)) ≡ Some y → (o ≡ Some (unwrap_or o [])) × (y ≡ s ∷ unwrap_or o [])
cons_some s None y e = absurd cc
cons_some s (Some ss) y e = (refl, sym (some_is (s ∷ ss) y e))

pub first_none : (bytes : List ℕ) → element_at bytes ≡ None → split bytes ≡ Some (left bytes) → left bytes ≡ []
first_none [] e h = ap (λ (o : Option (List Element)). unwrap_or o []) split_nil
first_none (b ∷ bytes) e h = absurd (let q : Some (left (b ∷ bytes)) ≡ None = sym h ∙ split_stop b bytes e in some_none (left (b ∷ bytes)) q)

pub first_some : (bytes : List ℕ) (s : Element) (rest : List ℕ) → element_at bytes ≡ Some (s, rest) → split bytes ≡ Some (left bytes) → (split rest ≡ Some (left rest)) × (left bytes ≡ s ∷ left rest)
first_some [] s rest e h = absurd (let l : length rest < 0 = shorter [] s rest e in omega arith)
first_some (b ∷ bytes) s rest e h = cons_some s (split rest) (left (b ∷ bytes)) (sym (split_step b bytes s rest e) ∙ h)

is_some_cons : (s : Element) (o : Option (List Element)) → is_some (o >>= λ ss. Some (s ∷ ss)) ≡ is_some o
is_some_cons s None = refl
is_some_cons s (Some ss) = refl

pub is_some_step : (bytes : List ℕ) (s : Element) (rest : List ℕ) → element_at bytes ≡ Some (s, rest) → is_some (split bytes) ≡ is_some (split rest)
is_some_step [] s rest e = absurd (let l : length rest < 0 = shorter [] s rest e in omega arith)
is_some_step (b ∷ bytes) s rest e = ap is_some (split_step b bytes s rest e) ∙ is_some_cons s (split rest)

pub is_some_stop : (bytes : List ℕ) → 0 < length bytes → element_at bytes ≡ None → is_some (split bytes) ≡ false
is_some_stop [] l e = absurd (omega arith)
is_some_stop (b ∷ bytes) l e = ap is_some (split_stop b bytes e)

pub is_some_nil : (bytes : List ℕ) → length bytes ≡ 0 → is_some (split bytes) ≡ true
is_some_nil [] l = ap is_some split_nil
is_some_nil (b ∷ bytes) l = absurd (omega arith)

is_some_at : (o : Option (List Element)) → is_some o ≡ true → o ≡ Some (unwrap_or o [])
is_some_at None e = absurd cc
is_some_at (Some x) e = refl

is_none_at : (o : Option (List Element)) → is_some o ≡ false → o ≡ None
is_none_at None e = refl
is_none_at (Some x) e = absurd cc

pub of_some : (bytes : List ℕ) → is_some (split bytes) ≡ true → split bytes ≡ Some (left bytes)
of_some bytes e = is_some_at (split bytes) e

pub of_none : (bytes : List ℕ) → is_some (split bytes) ≡ false → split bytes ≡ None
of_none bytes e = is_none_at (split bytes) e

-- the octets of the first element are what comes before the rest
pub front_octets : (bytes : List ℕ) (s : Element) (rest : List ℕ) → element_at bytes ≡ Some (s, rest) → (length rest ≤ length bytes) × (take (length bytes - length rest) bytes ≡ element_octets s)
front_octets bytes s rest e =
    let h = (element_takes bytes s rest e).0 in
    let l : length bytes ≡ length (element_octets s) + length rest = ap length h ∙ length-append (element_octets s) rest in
    let n : length (element_octets s) ≡ length bytes - length rest = omega (arith, l) in
    (omega (arith, l), ap (λ (x : List ℕ). take (length bytes - length rest) x) h ∙ take_at (element_octets s) rest (length bytes - length rest) n)

pub ruleset steps = (shorter, is_some_step, is_some_stop, is_some_nil)

pub ruleset ends = (of_some, of_none)
