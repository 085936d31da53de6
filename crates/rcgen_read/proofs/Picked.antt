-- What a loop picks of a list.
use Rattle.std.specs.Prelude.{◌≡◌, ℕ, zero, suc, ◌+◌, ◌<◌, Bool, true, false, List, [], ◌∷◌, ◌++◌, filter, take, refl}
use Rattle.std.proofs.Common.{get_or, ap, sym, ◌∙◌, arith}
use Rattle.std.proofs.lemmas.List.{append-nil, take_more}
use Rattle.std.proofs.lemmas.List.Elements.{filter-append}
use Rattle.asn1_core.specs.Bits.{Bits, has_bit}
use Rattle.rcgen_certificate.specs.KeyUsages.{bit_of}
use Rattle.rcgen_text.specs.declared.key_usage.KeyUsagePurpose.{KeyUsagePurpose}
use Rattle.rcgen_read.specs.ExtensionReading.{all_usages}

-- one more item, which passes the test, or doesn't
pub kept : {A : Type 0} (t : A → Bool) (xs ys : List A) (x : A) → t x ≡ true → ys ≡ filter t xs → ys ++ x ∷ [] ≡ filter t (xs ++ x ∷ [])
kept t xs ys x h e = ap (λ (l : List _). l ++ x ∷ []) e ∙ sym (filter-append t xs (x ∷ []) ∙ rw h refl)

pub left_out : {A : Type 0} (t : A → Bool) (xs ys : List A) (x : A) → t x ≡ false → ys ≡ filter t xs → ys ≡ filter t (xs ++ x ∷ [])
left_out t xs ys x h e = e ∙ sym (filter-append t xs (x ∷ []) ∙ rw h (append-nil (filter t xs)))

-- each usage is at the place of its bit
at_its_bit : (i : ℕ) (d : KeyUsagePurpose) → i < 9 → bit_of (get_or all_usages i d) ≡ i
at_its_bit zero d l = refl
at_its_bit (suc zero) d l = refl
at_its_bit (suc (suc zero)) d l = refl
at_its_bit (suc (suc (suc zero))) d l = refl
at_its_bit (suc (suc (suc (suc zero)))) d l = refl
at_its_bit (suc (suc (suc (suc (suc zero))))) d l = refl
at_its_bit (suc (suc (suc (suc (suc (suc zero)))))) d l = refl
at_its_bit (suc (suc (suc (suc (suc (suc (suc zero))))))) d l = refl
at_its_bit (suc (suc (suc (suc (suc (suc (suc (suc zero)))))))) d l = refl
at_its_bit (suc (suc (suc (suc (suc (suc (suc (suc (suc i))))))))) d l = absurd (omega arith)

module _ (b : Bits) where
  abbrev is_set : KeyUsagePurpose → Bool
  is_set u = has_bit b (bit_of u)

  -- the next usage, whose bit is set, or isn't
  pub next_set : (i : ℕ) (d : KeyUsagePurpose) (usages : List KeyUsagePurpose) → i < 9 → has_bit b i ≡ true → usages ≡ filter is_set (take i all_usages)
      → usages ++ get_or all_usages i d ∷ [] ≡ filter is_set (take (i + 1) all_usages)
  next_set i d usages l h e =
      kept is_set (take i all_usages) usages (get_or all_usages i d) (ap (has_bit b) (at_its_bit i d l) ∙ h) e
      ∙ ap (filter is_set) (sym (take_more all_usages i d l))

  pub next_unset : (i : ℕ) (d : KeyUsagePurpose) (usages : List KeyUsagePurpose) → i < 9 → has_bit b i ≡ false → usages ≡ filter is_set (take i all_usages)
      → usages ≡ filter is_set (take (i + 1) all_usages)
  next_unset i d usages l h e =
      left_out is_set (take i all_usages) usages (get_or all_usages i d) (ap (has_bit b) (at_its_bit i d l) ∙ h) e
      ∙ ap (filter is_set) (sym (take_more all_usages i d l))
