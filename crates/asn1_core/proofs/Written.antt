-- The written time has contents octets, and is one value.
use Rattle.std.proofs.Common.{◌≡◌, ℕ, ◌/◌, true, ◌&&◌, ◌⊎◌, inl, inr, List, ◌++◌, ◌∷◌, [], Some, ℤ, pos, ◌≤ℤ◌, refl, sym, ap, ◌∙◌, arith}
use Rattle.std.specs.Prelude.{◌==◌, int_le}
use Rattle.std.proofs.lemmas.Bool.{both_ways, eq-eqb}
use Rattle.jiff.specs.Types.{DateTime, Date}
use Rattle.asn1_core.specs.Binds.{kept_is, true_and}
use Rattle.asn1_core.specs.TwoDigits.{two_digits}
use Rattle.asn1_core.specs.Civil.{parts_of, same_by_parts}
use Rattle.asn1_core.specs.UtcTime.{is_utc_time_year, twelve_digits, utc_time_contents, year_of}
use Rattle.asn1_core.specs.GeneralizedTime.{is_four_digit_year, fraction, generalized_time_contents}
use Rattle.asn1_core.specs.Written.{IsWholeSecond, IsCarried, IsWrittenOnce}
use Rattle.asn1_core.specs.declared.time.utc_time.UtcTime.{UtcTime}
use Rattle.asn1_core.specs.declared.time.generalized_time.GeneralizedTime.{GeneralizedTime}

utc_carried : (at : DateTime) (t : UtcTime) → is_utc_time_year at ≡ true → IsWholeSecond at t.at → (b : List ℕ) × (utc_time_contents.to t ≡ Some b)
unfolding utc_time_contents
utc_carried at t y w =
    let same : is_utc_time_year t.at ≡ is_utc_time_year at = ap (λ (d : Date). int_le (pos 1950) d.year && int_le d.year (pos 2049)) w.0 in
    let b = twelve_digits t.at ++ 90 ∷ [] in
    (b, kept_is (is_utc_time_year t.at && (t.at.time.subsec_nanosecond == 0)) (Some b) b (true_and _ _ (same ∙ y) (eq-eqb t.at.time.subsec_nanosecond 0 w.4)) refl)

positive : (z : ℤ) → pos 0 ≤ℤ z → int_le (pos 0) z ≡ true
positive z l = grind arith

generalized_carried : (at : DateTime) (t : GeneralizedTime) → pos 0 ≤ℤ at.date.year → IsWholeSecond at t.at → (b : List ℕ) × (generalized_time_contents.to t ≡ Some b)
unfolding generalized_time_contents
generalized_carried at t l w =
    let same : is_four_digit_year t.at ≡ is_four_digit_year at = ap (λ (d : Date). int_le (pos 0) d.year) w.0 in
    let b = two_digits (year_of t.at / 100) ++ twelve_digits t.at ++ fraction t.at.time.subsec_nanosecond ++ 90 ∷ [] in
    (b, kept_is (is_four_digit_year t.at) (Some b) b (same ∙ positive at.date.year l) refl)

pub carried : IsCarried
carried at (inl t) l w = utc_carried at t w.0 w.1
carried at (inr t) l w = generalized_carried at t l w.1

one_second : (at a b : DateTime) → IsWholeSecond at a → IsWholeSecond at b → a ≡ b
one_second at a b v w =
    let date : a.date ≡ b.date = v.0 ∙ sym w.0 in
    let hour = v.1 ∙ sym w.1 in
    let minute = v.2 ∙ sym w.2 in
    let second = v.3 ∙ sym w.3 in
    let parts : parts_of a ≡ parts_of b = λ i. record { month = (date i).month; day = (date i).day; hour = hour i; minute = minute i; second = second i } in
    same_by_parts a b (ap (λ (d : Date). d.year) date) parts (v.4 ∙ sym w.4)

pub once : IsWrittenOnce
once at (inl s) (inl t) v w = ap (λ (d : DateTime). let u : UtcTime = record { at = d } in let r : UtcTime ⊎ GeneralizedTime = inl u in r) (one_second at s.at t.at v.1 w.1)
once at (inr s) (inr t) v w = ap (λ (d : DateTime). let u : GeneralizedTime = record { at = d } in let r : UtcTime ⊎ GeneralizedTime = inr u in r) (one_second at s.at t.at v.1 w.1)
once at (inl s) (inr t) v w = absurd (both_ways (is_utc_time_year at) w.0 v.0)
once at (inr s) (inl t) v w = absurd (both_ways (is_utc_time_year at) v.0 w.0)
