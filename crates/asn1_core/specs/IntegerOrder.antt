-- Equality and order of integers.
use Rattle.std.specs.Prelude.{◌≡◌, ℕ, Bool, false, nat_eq, List, refl}
use Rattle.std.specs.declared.cmp.Ordering.{Ordering}
use Rattle.std.specs.declared.cmp.Ordering.TheVariants.{Less, Equal, Greater}
use Rattle.std.specs.Ordering.{nat_cmp, int_cmp, ordering_then, is_eq, eq_by_cmp, as_partial_cmp, on, then_cmp}
use Rattle.std.specs.Cmp.{IsTotalOrder, IsPartialOrder, then_total, on_total, int_cmp_total, tied_itself, partial_order_from_agreeing_total}
use Rattle.std.specs.Cmp.Lexicographic.{pointwise, slice_cmp, bytes_decides, texts_ties, nat_list_cmp_total}
use Rattle.std.proofs.Common.{sym, ap, ◌∙◌}
use Rattle.asn1_core.specs.Twos.{signed}

-- as Rust's `==`: a number has one shortest form
abbrev pub same_integer : List ℕ → List ℕ → Bool
same_integer = pointwise nat_eq

-- by the signed number. The bytes tell apart the forms of one number, of which one is shortest
abbrev pub integer_cmp : List ℕ → List ℕ → Ordering
integer_cmp = then_cmp (on signed int_cmp) (slice_cmp nat_cmp)

-- the laws of the order, on all lists
pub integer_total : IsTotalOrder integer_cmp
integer_total = then_total (on_total signed int_cmp_total) nat_list_cmp_total

tie_of_both : (a b : List ℕ) → (r : Ordering) → (r ≡ Equal → a ≡ b) → is_eq (ordering_then (int_cmp (signed a) (signed b)) r) ≡ is_eq r
tie_of_both a b Less h = tie_less (int_cmp (signed a) (signed b))
  where
    tie_less : (o : Ordering) → is_eq (ordering_then o Less) ≡ false
    tie_less Less = refl
    tie_less Equal = refl
    tie_less Greater = refl
tie_of_both a b Equal h = ap (λ (o : Ordering). is_eq (ordering_then o Equal)) (ap (λ (x : List ℕ). int_cmp (signed a) (signed x)) (sym (h refl)) ∙ tied_itself int_cmp_total (signed a))
tie_of_both a b Greater h = tie_greater (int_cmp (signed a) (signed b))
  where
    tie_greater : (o : Ordering) → is_eq (ordering_then o Greater) ≡ false
    tie_greater Less = refl
    tie_greater Equal = refl
    tie_greater Greater = refl

equal_lists : (a b : List ℕ) → slice_cmp nat_cmp a b ≡ Equal → a ≡ b
equal_lists a b e = (bytes_decides a b).0 (texts_ties a b ∙ ap is_eq e)

pub integer_ties : (a b : List ℕ) → same_integer a b ≡ eq_by_cmp integer_cmp a b
integer_ties a b = texts_ties a b ∙ sym (tie_of_both a b (slice_cmp nat_cmp a b) (equal_lists a b))

pub integer_po : IsPartialOrder same_integer (as_partial_cmp integer_cmp)
integer_po = partial_order_from_agreeing_total integer_cmp integer_total (λ _ _. refl) integer_ties
