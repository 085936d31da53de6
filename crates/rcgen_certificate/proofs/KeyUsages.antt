-- The bits of key usages: those of eight purposes by trying each set of them, and the ninth beside them.
use Rattle.std.specs.Prelude.{◌≡◌, ℕ, zero, suc, ◌+◌, ◌-◌, ◌<◌, ◌≤◌, Bool, true, false, cond, ◌&&◌, ◌||◌, ◌==◌, List, [], ◌∷◌, length, refl}
use Rattle.std.specs.Int.{trailing_zeros, w8}
use Rattle.std.specs.Int.Count.{count_trailing_zeros}
use Rattle.std.proofs.Common.{arith, sym, ap, ◌∙◌, subst, get_or, inl, inr}
use Rattle.std.proofs.lemmas.Bool.{cases_lt, ne_eqb, le-ltb}
use Rattle.std.proofs.lemmas.Nat.{trailing_le}
use mathlib.Core.Bool.{beq}
use Rattle.asn1_core.specs.Binds.{and_true}
use Rattle.asn1_core.specs.Bits.{Bits, bits, are_bits, bit_count, has_bit}
use Rattle.rcgen_certificate.specs.KeyUsages.{AreBitsOf, bit_of, is_listed, first_byte, named_bits}
use Rattle.rcgen_text.specs.declared.key_usage.KeyUsagePurpose.{KeyUsagePurpose}
use Rattle.rcgen_text.specs.declared.key_usage.KeyUsagePurpose.TheVariants as purpose

-- ---- truth values

equal : (x y : Bool) → beq x y ≡ true → x ≡ y
equal true true e = refl
equal true false e = absurd cc
equal false true e = absurd cc
equal false false e = refl

or_none : (x y : Bool) → x ≡ false → y ≡ false → (x || y) ≡ false
or_none true y e f = absurd cc
or_none false y e f = f

or_false : (x y : Bool) → x ≡ false → (x || y) ≡ true → y ≡ true
or_false true y e f = absurd cc
or_false false y e f = f

and_false : (x y : Bool) → x ≡ false → (x && y) ≡ false
and_false true y e = absurd cc
and_false false y e = refl

-- both say the same of the numbers below n
agree : (f g : ℕ → Bool) → ℕ → Bool
agree f g zero = true
agree f g (suc n) = beq (f n) (g n) && agree f g n

agree_at : (f g : ℕ → Bool) (n i : ℕ) → i < n → agree f g n ≡ true → f i ≡ g i
unfolding agree
agree_at f g zero i l h = absurd (omega arith)
agree_at f g (suc n) i l h =
    let p = and_true (beq (f n) (g n)) (agree f g n) h in
    elim (cases_lt i n) [
      | inl m ↦ agree_at f g n i m p.1
      | inr m ↦ let e : i ≡ n = omega arith in ap f e ∙ (equal (f n) (g n) p.0 ∙ sym (ap g e))
    ]

-- the test holds of each list of n truth values
all_lists : ℕ → (List Bool → Bool) → Bool
all_lists zero test = test []
all_lists (suc n) test = all_lists n (λ bs. test (true ∷ bs)) && all_lists n (λ bs. test (false ∷ bs))

tried : (test : List Bool → Bool) (bs : List Bool) → all_lists (length bs) test ≡ true → test bs ≡ true
unfolding all_lists
tried test [] h = h
tried test (true ∷ bs) h =
    tried (λ cs. test (true ∷ cs)) bs (and_true (all_lists (length bs) (λ cs. test (true ∷ cs))) (all_lists (length bs) (λ cs. test (false ∷ cs))) h).0
tried test (false ∷ bs) h =
    tried (λ cs. test (false ∷ cs)) bs (and_true (all_lists (length bs) (λ cs. test (true ∷ cs))) (all_lists (length bs) (λ cs. test (false ∷ cs))) h).1

-- ---- a byte of eight bits, alone and with the ninth bit after it

abbrev byte : List Bool → ℕ
byte (a ∷ b ∷ c ∷ d ∷ e ∷ f ∷ g ∷ h ∷ []) = cond a 128 0 + cond b 64 0 + cond c 32 0 + cond d 16 0 + cond e 8 0 + cond f 4 0 + cond g 2 0 + cond h 1 0
byte _ = 0

abbrev shortest : ℕ → Bits
shortest n = bits (trailing_zeros w8 n) (n ∷ [])

abbrev longer : ℕ → Bits
longer n = bits 7 (n ∷ 128 ∷ [])

-- the eight bits of the string are these
abbrev has_bits : Bits → List Bool → Bool
has_bits s bs = agree (has_bit s) (λ i. get_or bs i false) 8

abbrev ends_set : Bits → Bool
ends_set s = are_bits s && has_bit s (bit_count s - 1)

fits : List Bool → Bool
fits bs = has_bits (shortest (byte bs)) bs && (has_bits (longer (byte bs)) bs && (byte bs == 0 || ends_set (shortest (byte bs))))

checked : all_lists 8 fits ≡ true
unfolding all_lists agree fits count_trailing_zeros
checked = refl

-- ---- the bits of purposes

abbrev flags : List KeyUsagePurpose → List Bool
flags us =
    is_listed us 0 ∷ is_listed us 1 ∷ is_listed us 2 ∷ is_listed us 3 ∷ is_listed us 4 ∷ is_listed us 5 ∷ is_listed us 6 ∷ is_listed us 7 ∷ []

flag_is : (us : List KeyUsagePurpose) (i : ℕ) → i < 8 → get_or (flags us) i false ≡ is_listed us i
flag_is us zero l = refl
flag_is us (suc zero) l = refl
flag_is us (suc (suc zero)) l = refl
flag_is us (suc (suc (suc zero))) l = refl
flag_is us (suc (suc (suc (suc zero)))) l = refl
flag_is us (suc (suc (suc (suc (suc zero))))) l = refl
flag_is us (suc (suc (suc (suc (suc (suc zero)))))) l = refl
flag_is us (suc (suc (suc (suc (suc (suc (suc zero))))))) l = refl
flag_is us (suc (suc (suc (suc (suc (suc (suc (suc i)))))))) l = absurd (omega arith)

-- what was tried, at the purposes' bits
one_fits : (us : List KeyUsagePurpose) → has_bits (shortest (first_byte us)) (flags us) ≡ true
unfolding fits
one_fits us = (and_true (has_bits (shortest (first_byte us)) (flags us)) _ (tried fits (flags us) checked)).0

rest_fits : (us : List KeyUsagePurpose) → (has_bits (longer (first_byte us)) (flags us) && (first_byte us == 0 || ends_set (shortest (first_byte us)))) ≡ true
unfolding fits
rest_fits us = (and_true (has_bits (shortest (first_byte us)) (flags us)) _ (tried fits (flags us) checked)).1

two_fits : (us : List KeyUsagePurpose) → has_bits (longer (first_byte us)) (flags us) ≡ true
two_fits us = (and_true (has_bits (longer (first_byte us)) (flags us)) (first_byte us == 0 || ends_set (shortest (first_byte us))) (rest_fits us)).0

end_fits : (us : List KeyUsagePurpose) → (first_byte us == 0 || ends_set (shortest (first_byte us))) ≡ true
end_fits us = (and_true (has_bits (longer (first_byte us)) (flags us)) (first_byte us == 0 || ends_set (shortest (first_byte us))) (rest_fits us)).1

-- where no purpose has bit 8, one has a bit of the first byte
some_bit : (us : List KeyUsagePurpose) → (length us == 0) ≡ false → is_listed us 8 ≡ false → 0 < first_byte us
some_bit [] h e = absurd cc
some_bit (purpose.DigitalSignature ∷ us) h e = omega arith
some_bit (purpose.ContentCommitment ∷ us) h e = omega arith
some_bit (purpose.KeyEncipherment ∷ us) h e = omega arith
some_bit (purpose.DataEncipherment ∷ us) h e = omega arith
some_bit (purpose.KeyAgreement ∷ us) h e = omega arith
some_bit (purpose.KeyCertSign ∷ us) h e = omega arith
some_bit (purpose.CrlSign ∷ us) h e = omega arith
some_bit (purpose.EncipherOnly ∷ us) h e = omega arith
some_bit (purpose.DecipherOnly ∷ us) h e = absurd cc

not_zero : (n : ℕ) → 0 < n → (n == 0) ≡ false
not_zero n l = grind arith

one_ends : (us : List KeyUsagePurpose) → (length us == 0) ≡ false → is_listed us 8 ≡ false → ends_set (shortest (first_byte us)) ≡ true
one_ends us h e = or_false (first_byte us == 0) (ends_set (shortest (first_byte us))) (not_zero (first_byte us) (some_bit us h e)) (end_fits us)

are_one : (us : List KeyUsagePurpose) → (length us == 0) ≡ false → is_listed us 8 ≡ false → are_bits (shortest (first_byte us)) ≡ true
are_one us h e =
    (and_true (are_bits (shortest (first_byte us))) (has_bit (shortest (first_byte us)) (bit_count (shortest (first_byte us)) - 1)) (one_ends us h e)).0

pub one_byte : (us : List KeyUsagePurpose) (n : ℕ) → n ≡ first_byte us → (length us == 0) ≡ false → is_listed us 8 ≡ false
    → are_bits (bits (trailing_zeros w8 n) (n ∷ [])) ≡ true
one_byte us n k h e = subst (λ (m : ℕ). are_bits (shortest m) ≡ true) (sym k) (are_one us h e)

pub small : (n : ℕ) → trailing_zeros w8 n ≤ 8
small n = trailing_le 8 n

pub ruleset fitting = (one_byte, small)

-- ---- which bits are set

bit_within : (u : KeyUsagePurpose) → bit_of u ≤ 8
bit_within purpose.DigitalSignature = omega arith
bit_within purpose.ContentCommitment = omega arith
bit_within purpose.KeyEncipherment = omega arith
bit_within purpose.DataEncipherment = omega arith
bit_within purpose.KeyAgreement = omega arith
bit_within purpose.KeyCertSign = omega arith
bit_within purpose.CrlSign = omega arith
bit_within purpose.EncipherOnly = omega arith
bit_within purpose.DecipherOnly = omega arith

beyond : (us : List KeyUsagePurpose) (i : ℕ) → 8 < i → is_listed us i ≡ false
beyond [] i l = refl
beyond (u ∷ us) i l =
    let b : bit_of u ≤ 8 = bit_within u in
    let n : bit_of u ≡ i → ⊥ = λ e. omega arith in
    or_none (bit_of u == i) (is_listed us i) (ne_eqb (bit_of u) i n) (beyond us i l)

not_listed : (us : List KeyUsagePurpose) (i : ℕ) → is_listed us 8 ≡ false → 8 ≤ i → is_listed us i ≡ false
not_listed us i e l =
    elim (cases_lt 8 i) [
      | inl m ↦ beyond us i m
      | inr m ↦ let k : i ≡ 8 = omega arith in ap (is_listed us) k ∙ e
    ]

past_end : (s : Bits) (i : ℕ) → bit_count s ≤ i → has_bit s i ≡ false
past_end s i l = and_false _ _ (le-ltb i (bit_count s) l)

one_set : (us : List KeyUsagePurpose) → is_listed us 8 ≡ false → (i : ℕ) → has_bit (shortest (first_byte us)) i ≡ is_listed us i
one_set us e i =
    elim (cases_lt i 8) [
      | inl l ↦ agree_at (has_bit (shortest (first_byte us))) (λ k. get_or (flags us) k false) 8 i l (one_fits us) ∙ flag_is us i l
      | inr l ↦
          let within : bit_count (shortest (first_byte us)) ≤ i = omega arith in
          past_end (shortest (first_byte us)) i within ∙ sym (not_listed us i e l)
    ]

two_set : (us : List KeyUsagePurpose) → is_listed us 8 ≡ true → (i : ℕ) → has_bit (longer (first_byte us)) i ≡ is_listed us i
two_set us e i =
    elim (cases_lt i 8) [
      | inl l ↦ agree_at (has_bit (longer (first_byte us))) (λ k. get_or (flags us) k false) 8 i l (two_fits us) ∙ flag_is us i l
      | inr l ↦
          elim (cases_lt 8 i) [
            | inl m ↦ past_end (longer (first_byte us)) i m ∙ sym (beyond us i m)
            | inr m ↦ let k : i ≡ 8 = omega arith in ap (has_bit (longer (first_byte us))) k ∙ (sym e ∙ sym (ap (is_listed us) k))
          ]
    ]

one_last : (us : List KeyUsagePurpose) → (length us == 0) ≡ false → is_listed us 8 ≡ false
    → has_bit (shortest (first_byte us)) (bit_count (shortest (first_byte us)) - 1) ≡ true
one_last us h e =
    (and_true (are_bits (shortest (first_byte us))) (has_bit (shortest (first_byte us)) (bit_count (shortest (first_byte us)) - 1)) (one_ends us h e)).1

by_last : (us : List KeyUsagePurpose) (b : Bool) → (length us == 0) ≡ false → is_listed us 8 ≡ b
    → AreBitsOf us (cond b (longer (first_byte us)) (shortest (first_byte us)))
by_last us true h e = record { set = two_set us e; last = refl }
by_last us false h e = record { set = one_set us e; last = one_last us h e }

pub are_bits_of : (us : List KeyUsagePurpose) → (length us == 0) ≡ false → AreBitsOf us (named_bits us)
are_bits_of us h = by_last us (is_listed us 8) h refl
