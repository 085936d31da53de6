-- Numbers from 0 to 2 ^ 64 - 1 as INTEGERs (X.690, 8.3).
use Rattle.std.specs.Prelude.{◌≡◌, ℕ, zero, suc, ◌+◌, ◌*◌, ◌/◌, ◌%◌, ◌^◌, ◌<◌, ◌≤◌, Bool, true, false, ◌&&◌, not, cond, nat_lt, List, [], ◌∷◌, ◌++◌, Option, Some, None, refl}
use Rattle.std.specs.Int.Digits.{digits_of, number_from_digits_after, AllBelowBase}
use Rattle.std.proofs.Common.{sym, ap, ◌∙◌, subst, append_assoc, arith}
use Rattle.std.proofs.lemmas.List.{append-nil}
use Rattle.std.proofs.lemmas.Bool.{ne_eqb, lt-ltb, le-ltb, ltb-true, ltb-false}
use Rattle.std.proofs.lemmas.Int.Digits.{digits_of_step, number_digits_of, all_below_base_digits_of}
use Rattle.asn1_core.specs.Binds.{neither, chosen, kept, kept_is, and_true, true_and}
use Rattle.asn1_core.specs.Contents.{Contents}
use Rattle.asn1_core.specs.Arcs.{are_below}
use Rattle.asn1_core.specs.Twos.{is_shortest, are_twos, is_negative, number, without_zeros, with_sign, unsigned}

-- the number of the bytes, below 2 ^ 64
abbrev pub number_64 : List ℕ → Option ℕ
number_64 bytes = cond (nat_lt (number bytes) (2 ^ 64)) (Some (number bytes)) None

abbrev pub unsigned_64_to : ℕ → Option (List ℕ)
unsigned_64_to n = cond (nat_lt n (2 ^ 64)) (Some (unsigned (digits_of 256 n))) None

abbrev pub unsigned_64_of : List ℕ → Option ℕ
unsigned_64_of bytes = cond (are_twos bytes && not (is_negative bytes)) (number_64 bytes) None

-- a byte at a time
without_suc : (a : ℕ) (rest : List ℕ) → without_zeros (suc a ∷ rest) ≡ suc a ∷ rest
without_suc a rest = rw (ne_eqb (suc a) 0 (λ e. omega arith)) refl

sign_none : (a : ℕ) (rest : List ℕ) → a < 128 → with_sign (a ∷ rest) ≡ a ∷ rest
sign_none a rest h = rw (lt-ltb a 128 h) refl

sign_some : (a : ℕ) (rest : List ℕ) → 128 ≤ a → with_sign (a ∷ rest) ≡ 0 ∷ a ∷ rest
sign_some a rest h = rw (le-ltb a 128 h) refl

pub digits_after : (n : ℕ) (bytes : List ℕ) → 0 < n → are_below 256 bytes ≡ true → digits_of 256 (number_from_digits_after 256 n bytes) ≡ digits_of 256 n ++ bytes
digits_after n [] p h = sym (append-nil (digits_of 256 n))
digits_after n (b ∷ bytes) p h =
    let k = and_true (nat_lt b 256) (are_below 256 bytes) h in
    let l : b < 256 = ltb-true b 256 k.0 in
    let high : (n * 256 + b) / 256 ≡ n = omega arith in
    let low : (n * 256 + b) % 256 ≡ b = omega arith in
    digits_after (n * 256 + b) bytes (omega arith) k.1
    ∙ ap (λ (x : List ℕ). x ++ bytes) (digits_of_step 256 (n * 256 + b) (omega arith) (omega arith) ∙ ap (λ (x : ℕ). digits_of 256 x ++ ((n * 256 + b) % 256) ∷ []) high ∙ ap (λ (x : ℕ). digits_of 256 n ++ x ∷ []) low)
    ∙ append_assoc (digits_of 256 n) (b ∷ []) bytes

digit_alone : (b : ℕ) → 0 < b → b < 256 → digits_of 256 b ≡ b ∷ []
digit_alone b p l =
    let high : b / 256 ≡ 0 = omega arith in
    let low : b % 256 ≡ b = omega arith in
    digits_of_step 256 b (omega arith) p ∙ ap (λ (x : ℕ). digits_of 256 x ++ (b % 256) ∷ []) high ∙ ap (λ (x : ℕ). x ∷ []) low

-- the digits of a number are its bytes without leading zeros
pub digits_number : (bytes : List ℕ) → are_below 256 bytes ≡ true → digits_of 256 (number bytes) ≡ without_zeros bytes
digits_number [] h = refl
digits_number (zero ∷ bytes) h = digits_number bytes h
digits_number (suc b ∷ bytes) h =
    let k = and_true (nat_lt (suc b) 256) (are_below 256 bytes) h in
    let l : suc b < 256 = ltb-true (suc b) 256 k.0 in
    let n : 0 * 256 + suc b ≡ suc b = omega arith in
    ap (λ (x : ℕ). digits_of 256 (number_from_digits_after 256 x bytes)) n ∙ digits_after (suc b) bytes (omega arith) k.1 ∙ ap (λ (x : List ℕ). x ++ bytes) (digit_alone (suc b) (omega arith) l) ∙ sym (without_suc b bytes)

pub number_without : (bytes : List ℕ) → number (without_zeros bytes) ≡ number bytes
number_without [] = refl
number_without (zero ∷ bytes) = number_without bytes
number_without (suc b ∷ bytes) = ap number (without_suc b bytes)

number_sign : (bytes : List ℕ) → number (with_sign bytes) ≡ number bytes
number_sign [] = refl
number_sign (a ∷ bytes) = elim (nat_lt a 128) as (λ t. number (cond t (a ∷ bytes) (0 ∷ a ∷ bytes)) ≡ number (a ∷ bytes)) [ true ↦ refl | false ↦ refl ]

pub number_unsigned : (bytes : List ℕ) → number (unsigned bytes) ≡ number bytes
number_unsigned bytes = number_sign (without_zeros bytes) ∙ number_without bytes

sign_not_negative : (bytes : List ℕ) → is_negative (with_sign bytes) ≡ false
sign_not_negative [] = refl
sign_not_negative (a ∷ bytes) = elim (nat_lt a 128) as (λ t. nat_lt a 128 ≡ t → is_negative (cond t (a ∷ bytes) (0 ∷ a ∷ bytes)) ≡ false) [
  | true ↦ λ t. let l : a < 128 = ltb-true a 128 t in le-ltb 127 a (omega arith)
  | false ↦ λ t. refl
] refl

pub unsigned_not_negative : (bytes : List ℕ) → is_negative (unsigned bytes) ≡ false
unsigned_not_negative bytes = sign_not_negative (without_zeros bytes)

low_shortest : (a : ℕ) (rest : List ℕ) → suc a < 128 → is_shortest (suc a ∷ rest) ≡ true
low_shortest a [] l = refl
low_shortest a (b ∷ rest) l = rw (ne_eqb (suc a) 0 (λ e. omega arith), ne_eqb (suc a) 255 (λ e. omega arith)) refl

high_shortest : (a : ℕ) (rest : List ℕ) → 128 ≤ a → is_shortest (0 ∷ a ∷ rest) ≡ true
high_shortest a rest l = rw (le-ltb a 128 l) refl

sign_shortest : (a : ℕ) (rest : List ℕ) → is_shortest (with_sign (suc a ∷ rest)) ≡ true
sign_shortest a rest = elim (nat_lt (suc a) 128) as (λ t. nat_lt (suc a) 128 ≡ t → is_shortest (cond t (suc a ∷ rest) (0 ∷ suc a ∷ rest)) ≡ true) [
  | true ↦ λ t. low_shortest a rest (ltb-true (suc a) 128 t)
  | false ↦ λ t. high_shortest (suc a) rest (ltb-false (suc a) 128 t)
] refl

pub unsigned_shortest : (bytes : List ℕ) → is_shortest (unsigned bytes) ≡ true
unsigned_shortest [] = refl
unsigned_shortest (zero ∷ bytes) = unsigned_shortest bytes
unsigned_shortest (suc a ∷ bytes) = ap (λ (x : List ℕ). is_shortest (with_sign x)) (without_suc a bytes) ∙ sign_shortest a bytes

without_below : (bytes : List ℕ) → are_below 256 bytes ≡ true → are_below 256 (without_zeros bytes) ≡ true
without_below [] h = refl
without_below (zero ∷ bytes) h = without_below bytes h
without_below (suc a ∷ bytes) h = ap (are_below 256) (without_suc a bytes) ∙ h

sign_below : (bytes : List ℕ) → are_below 256 bytes ≡ true → are_below 256 (with_sign bytes) ≡ true
sign_below [] h = refl
sign_below (a ∷ bytes) h = elim (nat_lt a 128) as (λ t. are_below 256 (cond t (a ∷ bytes) (0 ∷ a ∷ bytes)) ≡ true) [ true ↦ h | false ↦ h ]

pub unsigned_below : (bytes : List ℕ) → are_below 256 bytes ≡ true → are_below 256 (unsigned bytes) ≡ true
unsigned_below bytes h = sign_below (without_zeros bytes) (without_below bytes h)

without_twice : (bytes : List ℕ) → without_zeros (without_zeros bytes) ≡ without_zeros bytes
without_twice [] = refl
without_twice (zero ∷ bytes) = without_twice bytes
without_twice (suc a ∷ bytes) = ap without_zeros (without_suc a bytes)

-- of the same number, the same bytes
pub unsigned_digits : (bytes : List ℕ) → are_below 256 bytes ≡ true → unsigned (digits_of 256 (number bytes)) ≡ unsigned bytes
unsigned_digits bytes h = ap unsigned (digits_number bytes h) ∙ ap with_sign (without_twice bytes)

not_true : (b : Bool) → not b ≡ true → b ≡ false
not_true true e = absurd cc
not_true false e = refl

pub unsigned_again : (bytes : List ℕ) → is_shortest bytes ≡ true → is_negative bytes ≡ false → unsigned bytes ≡ bytes
unsigned_again [] h k = absurd cc
unsigned_again (zero ∷ []) h k = refl
unsigned_again (zero ∷ zero ∷ rest) h k = absurd cc
unsigned_again (zero ∷ suc b ∷ rest) h k =
    let low : nat_lt (suc b) 128 ≡ false = (neither (nat_lt (suc b) 128) false h).0 in
    ap with_sign (without_suc b rest) ∙ sign_some (suc b) rest (ltb-false (suc b) 128 low)
unsigned_again (suc a ∷ rest) h k =
    let l : suc a ≤ 127 = ltb-false 127 (suc a) k in
    ap with_sign (without_suc a rest) ∙ sign_none (suc a) rest (omega arith)

digits_below : (ds : List ℕ) → AllBelowBase 256 ds → are_below 256 ds ≡ true
digits_below [] h = refl
digits_below (d ∷ ds) h = true_and (nat_lt d 256) (are_below 256 ds) (lt-ltb d 256 h.0) (digits_below ds h.1)

pub unsigned_64_there : (b : List ℕ) (v : ℕ) → unsigned_64_of b ≡ Some v → unsigned_64_to v ≡ Some b
unsigned_64_there b v e =
    let k = kept (are_twos b && not (is_negative b)) (number_64 b) v e in
    let m = chosen (nat_lt (number b) (2 ^ 64)) (number b) v k.1 in
    let p = and_true (are_twos b) (not (is_negative b)) k.0 in
    let q = and_true (is_shortest b) (are_below 256 b) p.0 in
    subst (λ (x : ℕ). unsigned_64_to x ≡ Some b) m.1
    (ap (λ (t : Bool). cond t (Some (unsigned (digits_of 256 (number b)))) None) m.0
    ∙ ap (λ (x : List ℕ). Some x) (unsigned_digits b q.1 ∙ unsigned_again b q.0 (not_true (is_negative b) p.1)))

pub unsigned_64_back : (v : ℕ) (b : List ℕ) → unsigned_64_to v ≡ Some b → unsigned_64_of b ≡ Some v
unsigned_64_back v b e =
    let k = chosen (nat_lt v (2 ^ 64)) (unsigned (digits_of 256 v)) b e in
    let n : number (unsigned (digits_of 256 v)) ≡ v = number_unsigned (digits_of 256 v) ∙ number_digits_of 256 v (omega arith) in
    let twos = true_and (is_shortest (unsigned (digits_of 256 v))) (are_below 256 (unsigned (digits_of 256 v))) (unsigned_shortest (digits_of 256 v)) (unsigned_below (digits_of 256 v) (digits_below (digits_of 256 v) (all_below_base_digits_of 256 v (omega arith)))) in
    let whole = true_and (are_twos (unsigned (digits_of 256 v))) (not (is_negative (unsigned (digits_of 256 v)))) twos (ap not (unsigned_not_negative (digits_of 256 v))) in
    subst (λ (x : List ℕ). unsigned_64_of x ≡ Some v) k.1
    (kept_is (are_twos (unsigned (digits_of 256 v)) && not (is_negative (unsigned (digits_of 256 v)))) (number_64 (unsigned (digits_of 256 v))) v whole
    (ap (λ (x : ℕ). cond (nat_lt x (2 ^ 64)) (Some x) None) n ∙ ap (λ (t : Bool). cond t (Some v) None) k.0))

unfoldable pub unsigned_64_contents : Contents ℕ
unsigned_64_contents = record { to = unsigned_64_to; of = unsigned_64_of; there = unsigned_64_there; back = unsigned_64_back }
