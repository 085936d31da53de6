-- The decimal digits of a number are read back as the number, and from no other text is it read.
use Rattle.std.proofs.Common.{◌≡◌, ◌≢◌, ℕ, ◌+◌, ◌-◌, ◌*◌, ◌<◌, ◌≤◌, ◌^◌, ◌==◌, ◌&&◌, nat_lt, List, [], ◌∷◌, get_or, Some, true, false, decimal, refl, sym, ap, subst, arith, inl, inr, ◌∙◌, ne_eqb}
use Rattle.std.proofs.lemmas.Bool.{cases_Bool, and_parts}
use Rattle.std.proofs.lemmas.Bool.Decides.{nat_tests}
use Rattle.std.proofs.lemmas.Fmt.{decimal_is_IsNumeral, decimal-digits_value, first_decimal}
use Rattle.std.proofs.lemmas.Str.Parse.{numerals_by_value, tells_digits, digit_from_value}
use Rattle.std.proofs.lemmas.Str.{digit_value_digit}
use Rattle.std.specs.Char.{digit_value, is_ascii_digit}
use Rattle.std.specs.Str.Parse.{AllDigits, digits_value, digits_value_after}
use Rattle.asn1_core.specs.Binds.{some_is}
use Rattle.certify_core.specs.Counts.{IsCount, count_of, most_entries, with_digits}

-- digits after a number make it no smaller
no_smaller : (n : ℕ) (ds : List ℕ) → n ≤ digits_value_after 10 n ds
no_smaller n [] = omega arith
no_smaller n (d ∷ ds) = omega (arith, no_smaller (n * 10 + digit_value d) ds)

-- what the digits after the number make of it, where that is small enough
digits_are_read : (n : ℕ) (ds : List ℕ) → AllDigits 10 ds → digits_value_after 10 n ds ≤ most_entries
    → with_digits n ds ≡ Some (digits_value_after 10 n ds)
unfolding with_digits
digits_are_read n [] all small = refl
digits_are_read n (d ∷ ds) all small =
    let range = digit_from_value d all.0 in
    let digit : digit_value d + 48 ≡ d = digit_value_digit d range in
    let next : 10 * n + (d - 48) ≡ n * 10 + digit_value d = omega arith in
    let least : n * 10 + digit_value d ≤ digits_value_after 10 (n * 10 + digit_value d) ds = no_smaller (n * 10 + digit_value d) ds in
    let is_digit : is_ascii_digit d ≡ true = grind (arith, nat_tests) in
    let fits : nat_lt (n * 10 + digit_value d) (most_entries + 1) ≡ true = grind (arith, nat_tests) in
    rw (is_digit, next, fits) (digits_are_read (n * 10 + digit_value d) ds all.1 small)

-- what was read of digits
record WereRead (n : ℕ) (ds : List ℕ) (m : ℕ) : Type 0 where
  all : AllDigits 10 ds
  value : digits_value_after 10 n ds ≡ m
  small : m ≤ most_entries

read_on : (n d : ℕ) (ds : List ℕ) (m next : ℕ) → (48 ≤ d) × (d ≤ 57) → next ≡ 10 * n + (d - 48) → WereRead next ds m → WereRead n (d ∷ ds) m
read_on n d ds m next range e were =
    let digit : digit_value d + 48 ≡ d = digit_value_digit d range in
    let same : next ≡ n * 10 + digit_value d = omega arith in
    record {
      all = (omega arith, were.all);
      value = rw (← same) were.value;
      small = were.small;
    }

were_read : (n : ℕ) (ds : List ℕ) (m : ℕ) → n ≤ most_entries → with_digits n ds ≡ Some m → WereRead n ds m
unfolding with_digits
were_read n [] m small e =
    let same : n ≡ m = some_is n m e in
    record { all = tt; value = same; small = subst (λ (x : ℕ). x ≤ most_entries) same small }
were_read n (d ∷ ds) m small e =
    elim (cases_Bool (is_ascii_digit d && nat_lt (10 * n + (d - 48)) (most_entries + 1))) [
      | inl taken ↦
          let both = and_parts (is_ascii_digit d) (nat_lt (10 * n + (d - 48)) (most_entries + 1)) taken in
          let range : (48 ≤ d) × (d ≤ 57) = grind (arith, nat_tests, both.0) in
          let fits : 10 * n + (d - 48) ≤ most_entries = grind (arith, nat_tests, both.1) in
          read_on n d ds m (10 * n + (d - 48)) range refl (were_read (10 * n + (d - 48)) ds m fits (rw taken at e))
      | inr refused ↦ cc (rw refused at e)
    ]

counted_by : (text : List ℕ) (n : ℕ) → text ≡ decimal n → 0 < n → n ≤ most_entries → AllDigits 10 text → digits_value 10 text ≡ n
    → 48 < get_or text 0 0 → count_of text ≡ Some n
unfolding count_of
counted_by [] n e some most all value lead = absurd (omega arith)
counted_by (b ∷ rest) n e some most all value lead =
    let other : (b == 48) ≡ false = ne_eqb b 48 (omega arith) in
    rw other (digits_are_read 0 (b ∷ rest) all (omega arith) ∙ ap Some value)

pub counted : (text : List ℕ) (n : ℕ) → IsCount text n → count_of text ≡ Some n
counted text n c =
    let fits : n < 2 ^ 64 = omega (arith, c.most) in
    let numeral = decimal_is_IsNumeral n fits in
    let lead = first_decimal n c.some fits in
    counted_by text n c.digits c.some c.most (subst (AllDigits 10) (sym c.digits) numeral.0.1)
    (ap (digits_value 10) c.digits ∙ numeral.1) (subst (λ (t : List ℕ). 48 < get_or t 0 0) (sym c.digits) lead)

told_by : (b : ℕ) (rest : List ℕ) (n : ℕ) → b ≢ 48 → WereRead 0 (b ∷ rest) n → IsCount (b ∷ rest) n
told_by b rest n other were =
    let range = digit_from_value b were.all.0 in
    let digit : digit_value b + 48 ≡ b = digit_value_digit b range in
    let least = no_smaller (0 * 10 + digit_value b) rest in
    let value : digits_value 10 (b ∷ rest) ≡ n = were.value in
    let same = decimal-digits_value (numerals_by_value _ tells_digits) (b ∷ rest) were.all (omega arith) (λ e. absurd (other e)) (omega (arith, were.small, value)) in
    record {
      digits = sym same ∙ ap decimal value;
      some = omega arith;
      most = were.small;
    }

pub count_is_told : (text : List ℕ) (n : ℕ) → count_of text ≡ Some n → IsCount text n
unfolding count_of
count_is_told [] n e = absurd cc
count_is_told (b ∷ rest) n e =
    elim (cases_Bool (b == 48)) [
      | inl zero ↦ cc (rw zero at e)
      | inr other ↦ told_by b rest n (λ same. grind (arith, nat_tests)) (were_read 0 (b ∷ rest) n (omega arith) (rw other at e))
    ]
