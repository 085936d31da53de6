-- What is left to look at, an element at a time.
use Rattle.std.specs.Prelude.{◌≡◌, ◌<◌, ◌-◌, ℕ, zero, suc, Bool, true, false, ◌&&◌, unwrap_or, List, [], ◌∷◌, Option, None, refl}
use Rattle.std.specs.List.{list_all}
use Rattle.std.proofs.Common.{sym, ap, ◌∙◌, arith}
use Rattle.der_tree.specs.Element.{Element, children_of}
use Rattle.strict_der.specs.Strict.{has_form, is_strict_within, within}

pub one_level : (n : ℕ) (s : Element) → 0 < n → is_strict_within n s ≡ (has_form s && list_all (is_strict_within (n - 1)) (within s))
unfolding is_strict_within
one_level zero s h = absurd (omega arith)
one_level (suc n) s h =
    let e : n ≡ suc n - 1 = omega arith in
    ap (λ (k : ℕ). has_form s && list_all (is_strict_within k) (within s)) e

pub no_level : (n : ℕ) (s : Element) → n ≡ 0 → is_strict_within n s ≡ false
unfolding is_strict_within
no_level zero s h = refl
no_level (suc n) s h = absurd (omega arith)

pub without_form : (n : ℕ) (s : Element) → 0 < n → has_form s ≡ false → is_strict_within n s ≡ false
without_form n s l h = one_level n s l ∙ ap (λ (b : Bool). b && list_all (is_strict_within (n - 1)) (within s)) h

pub with_form : (n : ℕ) (s : Element) (b : Bool) → 0 < n → has_form s ≡ true → list_all (is_strict_within (n - 1)) (within s) ≡ b
    → is_strict_within n s ≡ b
with_form n s b l h e = one_level n s l ∙ ap (λ (t : Bool). t && list_all (is_strict_within (n - 1)) (within s)) h ∙ e

pub nothing_within : (s : Element) (p : Element → Bool) → children_of s ≡ None → list_all p (within s) ≡ true
nothing_within s p e = ap (λ (o : Option (List Element)). list_all p (unwrap_or o [])) e

pub one_fails : (p : Element → Bool) (s e : Element) (all rest : List Element) → list_all p all ≡ list_all p (within s) → all ≡ e ∷ rest → p e ≡ false
    → list_all p (within s) ≡ false
one_fails p s e all rest same is h = sym same ∙ ap (list_all p) is ∙ ap (λ (b : Bool). b && list_all p rest) h

pub all_pass : (p : Element → Bool) (s : Element) (all : List Element) → list_all p all ≡ list_all p (within s) → all ≡ [] → list_all p (within s) ≡ true
all_pass p s all same is = sym same ∙ ap (list_all p) is

pub ruleset levels = (no_level, without_form, with_form, nothing_within, one_fails, all_pass)
