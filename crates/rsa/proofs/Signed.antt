-- What RSASSA-PSS-VERIFY answers, end by end.
use Rattle.std.proofs.Common.{◌≡◌, ◌≢◌, get_or, ℕ, suc, ◌+◌, ◌-◌, ◌*◌, ◌/◌, ◌%◌, ◌^◌, ◌<◌, ◌≤◌, Bool, true, false, ◌&&◌, eqb, leb, ltb, List, [], ◌∷◌, length, drop, Option, Some, None, refl, sym, ◌∙◌, ap, arith, lt_trans, mod-lt, pow-suc, mul-le-mul_right}
use Rattle.std.proofs.lemmas.Bool.{lt-ltb, le-ltb, and_parts, eqb-true}
use Rattle.std.proofs.lemmas.Int.Digits.{number_lt}
use Rattle.std.proofs.lemmas.Nat.{pow-add}
use Rattle.std.specs.Prelude.{cond}
use Rattle.std.specs.Int.Count.{count_leading_zeros, leading_le, leading_top, leading_unique}
use Rattle.std.specs.Int.Digits.{AllBelowBase}
use Rattle.rsa.specs.Primitives.{os2ip, i2osp, is_decided, is_modulus}
use Rattle.rsa.specs.Pss.{ceiling, em_of, emsa_pss_verify, h_len, has_signed, is_consistent, mod_bits, verifies}
use Rattle.rsa.specs.declared.digest.PssHash.{PssHash}
use Rattle.rsa.proofs.Conversions.{i2osp-length, octet_power, os2ip-cons}
use Rattle.rsa.proofs.Stored.{begins_large, begins_small, i2osp-front}
use Rattle.rsa.proofs.Keys.{first_positive}
use Rattle.rsa.proofs.Consistent.{no_room}

-- ---- the key
pub not_decided : (hash : PssHash) (modulus exponent message signature : List ℕ) → is_decided modulus exponent signature ≡ false
    → false ≡ verifies hash modulus exponent message signature
unfolding verifies
not_decided hash modulus exponent message signature h = rw h refl

pub by_number : (hash : PssHash) (modulus exponent message signature : List ℕ) (e : ℕ) (r : Bool) → is_decided modulus exponent signature ≡ true
    → e ≡ os2ip exponent → r ≡ has_signed hash modulus e message signature → r ≡ verifies hash modulus exponent message signature
unfolding verifies
by_number hash modulus exponent message signature e r h q d =
    rw h (d ∙ ap (λ (x : ℕ). has_signed hash modulus x message signature) q)

-- ---- the length in bits
pub not_empty : (ds : List ℕ) → is_modulus ds ≡ true → 0 < length ds
not_empty ds h = some_first ds (first_positive ds h)
  where
    some_first : (xs : List ℕ) → 0 < get_or xs 0 0 → 0 < length xs
    some_first [] p = absurd (omega arith)
    some_first (x ∷ xs) p = omega arith

zeros_of : (d : ℕ) (ds : List ℕ) → AllBelowBase 256 (d ∷ ds) → 0 < d
    → count_leading_zeros 8 d ≡ count_leading_zeros (8 * length (d ∷ ds)) (os2ip (d ∷ ds))
zeros_of d ds b p =
    let t = leading_top 8 d p b.0 in
    let r = number_lt 256 ds b.1 in
    let n = os2ip-cons d ds in
    let o = octet_power (length ds) in
    let w : 2 ^ (suc t.0 + 8 * length ds) ≡ 2 ^ t.0 * 2 * 256 ^ length ds =
    pow-add 2 (suc t.0) (8 * length ds) ∙ ap (λ (x : ℕ). 2 ^ suc t.0 * x) (sym o) ∙ ap (λ (x : ℕ). x * 256 ^ length ds) (pow-suc 2 t.0) in
    let k = mul-le-mul_right {m = 2 ^ t.0} {n = d} (256 ^ length ds) t.2 in
    let u : suc d ≤ 2 ^ t.0 * 2 = rw (pow-suc 2 t.0) at t.3 in
    let l = mul-le-mul_right {m = suc d} {n = 2 ^ t.0 * 2} (256 ^ length ds) u in
    let e : count_leading_zeros 8 d + (suc t.0 + 8 * length ds) ≡ 8 * length (d ∷ ds) = omega (arith, t.1) in
    leading_unique (8 * length (d ∷ ds)) (os2ip (d ∷ ds)) (count_leading_zeros 8 d) (suc t.0 + 8 * length ds) e
    (rw (w, n) (omega (arith, l, r))) (rw (w, n) (omega (arith, k)))

pub bits_are : (ds : List ℕ) → AllBelowBase 256 ds → is_modulus ds ≡ true → 8 * length ds - count_leading_zeros 8 (get_or ds 0 0) ≡ mod_bits ds
bits_are ds b h = ap (λ (k : ℕ). 8 * length ds - k) (of_list ds b (first_positive ds h))
  where
    of_list : (xs : List ℕ) → AllBelowBase 256 xs → 0 < get_or xs 0 0 → count_leading_zeros 8 (get_or xs 0 0) ≡ count_leading_zeros (8 * length xs) (os2ip xs)
    of_list [] b p = absurd (omega arith)
    of_list (x ∷ xs) b p = zeros_of x xs b p

pub zeros_fit : (ds : List ℕ) → is_modulus ds ≡ true → count_leading_zeros 8 (get_or ds 0 0) ≤ 8 * length ds
zeros_fit ds h =
    let l = leading_le 8 (get_or ds 0 0) in
    let p = not_empty ds h in
    omega (arith, l, p)

odd_positive : (ds : List ℕ) → is_modulus ds ≡ true → 0 < os2ip ds
odd_positive ds h =
    let p = and_parts (leb (length ds) 1024 && ltb 0 (get_or ds 0 0)) (eqb (os2ip ds % 2) 1) h in
    let q : os2ip ds % 2 ≡ 1 = eqb-true (os2ip ds % 2) 1 p.1 in
    omega (arith, q)

pub bits_bound : (ds : List ℕ) → AllBelowBase 256 ds → is_modulus ds ≡ true
    → (2 ^ (mod_bits ds - 1) ≤ os2ip ds) × (os2ip ds < 2 ^ mod_bits ds)
bits_bound ds b h =
    let l : os2ip ds < 2 ^ (8 * length ds) = rw (octet_power (length ds)) at (number_lt 256 ds b) in
    let t = leading_top (8 * length ds) (os2ip ds) (odd_positive ds h) l in
    let e : mod_bits ds ≡ suc t.0 = omega (arith, t.1) in
    let f : mod_bits ds - 1 ≡ t.0 = omega (arith, e) in
    (rw f t.2, rw e t.3)

-- ---- EM
em_is : (m k : ℕ) → m < 256 ^ k → em_of k (Some m) ≡ Some (i2osp m k)
em_is m k h = rw (lt-ltb m (256 ^ k) h) refl

em_none : (m k : ℕ) → 256 ^ k ≤ m → em_of k (Some m) ≡ None
em_none m k h = rw (le-ltb m (256 ^ k) h) refl

module _ (hash : PssHash) (message : List ℕ) (bits size k : ℕ) (e : size ≡ h_len hash) (h : k < size + size + 2) where
  at_most : (m : ℕ) (t : Bool) → false ≡ is_consistent hash message bits (cond t (Some (i2osp m k)) None)
  at_most m false = refl
  at_most m true =
      let l : length (i2osp m k) < size + size + 2 = rw (i2osp-length m k) h in
      no_room hash message (i2osp m k) bits size e l

  short_em : (o : Option ℕ) → false ≡ is_consistent hash message bits (em_of k o)
  short_em None = refl
  short_em (Some m) = at_most m (ltb m (256 ^ k))

-- ---- steps 2 and 3
module _ (hash : PssHash) (modulus : List ℕ) (e : ℕ) (message signature : List ℕ) where
  signed_is : os2ip signature < os2ip modulus
      → has_signed hash modulus e message signature
      ≡ is_consistent hash message (mod_bits modulus - 1) (em_of (ceiling (mod_bits modulus - 1) 8) (Some ((os2ip signature ^ e) % os2ip modulus)))
  unfolding has_signed
  signed_is h = rw (lt-ltb (os2ip signature) (os2ip modulus) h) refl

  pub out_of_range : os2ip modulus ≤ os2ip signature → false ≡ has_signed hash modulus e message signature
  unfolding has_signed
  out_of_range h = rw (le-ltb (os2ip signature) (os2ip modulus) h) refl

  pub too_short : (size : ℕ) → size ≡ h_len hash → length modulus < size + size + 2 → false ≡ has_signed hash modulus e message signature
  unfolding has_signed
  too_short size q h =
      let l : ceiling (mod_bits modulus - 1) 8 < size + size + 2 = omega arith in
      short_em hash message (mod_bits modulus - 1) size (ceiling (mod_bits modulus - 1) 8) q l (cond (ltb (os2ip signature) (os2ip modulus)) (Some ((os2ip signature ^ e) % os2ip modulus)) None)

  module _ (range : os2ip signature < os2ip modulus) (below : AllBelowBase 256 modulus) (bits m : ℕ) (b : bits ≡ mod_bits modulus)
      (power : m ≡ (os2ip signature ^ e) % os2ip modulus) (octets : List ℕ) (o : octets ≡ i2osp m (length modulus)) where
    fits : m < 256 ^ length modulus
    fits =
        let p : 0 < os2ip modulus = omega arith in
        rw power (lt_trans (mod-lt (os2ip signature ^ e) p) (number_lt 256 modulus below))

    as_said : (k : ℕ) → (bits - 1 + 7) / 8 ≡ k
        → has_signed hash modulus e message signature ≡ is_consistent hash message (bits - 1) (em_of k (Some m))
    as_said k h =
        let c : ceiling (bits - 1) 8 ≡ k = omega arith in
        let r : ceiling (mod_bits modulus - 1) 8 ≡ k = rw b at c in
        signed_is range
        ∙ ap (λ (x : ℕ). is_consistent hash message (mod_bits modulus - 1) (em_of x (Some ((os2ip signature ^ e) % os2ip modulus)))) r
        ∙ ap (λ (x : ℕ). is_consistent hash message (mod_bits modulus - 1) (em_of k (Some x))) (sym power)
        ∙ ap (λ (x : ℕ). is_consistent hash message (x - 1) (em_of k (Some m))) (sym b)

    pub all_octets : (r : Bool) → (bits - 1 + 7) / 8 ≡ length modulus → r ≡ emsa_pss_verify hash message octets (bits - 1)
        → r ≡ has_signed hash modulus e message signature
    all_octets r h d =
        d ∙ ap (λ (x : List ℕ). emsa_pss_verify hash message x (bits - 1)) o
        ∙ sym (as_said (length modulus) h ∙ ap (is_consistent hash message (bits - 1)) (em_is m (length modulus) fits))

    module _ (above : 8 * length modulus < bits + 8) (within : bits ≤ 8 * length modulus) (other : (bits - 1 + 7) / 8 ≢ length modulus) where
      abbrev less : ℕ
      less = length modulus - 1

      one_less : (bits - 1 + 7) / 8 ≡ less
      one_less = omega arith

      longer : suc less ≡ length modulus
      longer = omega arith

      begins : octets ≡ (m / 256 ^ less % 256) ∷ i2osp m less
      begins = o ∙ ap (i2osp m) (sym longer) ∙ i2osp-front m less

      pub later_octets : (r : Bool) (em : List ℕ) → em ≡ drop 1 octets → get_or octets 0 0 ≡ 0 → r ≡ emsa_pss_verify hash message em (bits - 1)
          → r ≡ has_signed hash modulus e message signature
      later_octets r em q z d =
          let f : m / 256 ^ less % 256 ≡ 0 = sym (ap (λ (xs : List ℕ). get_or xs 0 0) begins) ∙ z in
          let l : m < 256 ^ less = begins_small m less f (rw (← longer) at fits) in
          d ∙ ap (λ (x : List ℕ). emsa_pss_verify hash message x (bits - 1)) (q ∙ ap (λ (x : List ℕ). drop 1 x) begins)
          ∙ sym (as_said less one_less ∙ ap (is_consistent hash message (bits - 1)) (em_is m less l))

      pub too_large : get_or octets 0 0 ≢ 0 → false ≡ has_signed hash modulus e message signature
      too_large n =
          let f : m / 256 ^ less % 256 ≢ 0 = λ z. n (ap (λ (xs : List ℕ). get_or xs 0 0) begins ∙ z) in
          sym (as_said less one_less ∙ ap (is_consistent hash message (bits - 1)) (em_none m less (begins_large m less f)))
