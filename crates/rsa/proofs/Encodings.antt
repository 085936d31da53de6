-- The encoded message as a number and as octets, and what follows for the verification.
use Rattle.std.proofs.Common.{◌≡◌, ◌↔◌, ℕ, zero, suc, ◌+◌, ◌-◌, ◌*◌, ◌%◌, ◌^◌, ◌<◌, ◌≤◌, Bool, true, false, IsTrue, leb, inl, inr, List, [], ◌∷◌, ◌++◌, length, replicate, refl, sym, ◌∙◌, ap, arith, append_assoc, bytes_eq, lt_trans, mod-lt, length-append}
use Rattle.std.proofs.lemmas.Bool.{lt-ltb, le-ltb, le-leb, cases_lt}
use Rattle.std.proofs.lemmas.List.{length-replicate}
use Rattle.std.proofs.lemmas.Slice.Eq.{bytes_eq-Decides}
use Rattle.std.proofs.lemmas.Int.Digits.{number_lt}
use Rattle.std.specs.Int.Digits.{number_from_digits_after, AllBelowBase}
use Rattle.sha1.specs.Sha1.{digest_bytes, sha1}
use Rattle.sha2.proofs.Facts256.{length-sha256}
use Rattle.sha2.proofs.Facts512.{length-sha384, length-sha512}
use Rattle.rsa.specs.declared.Hash.{Hash}
use Rattle.rsa.specs.declared.Hash.TheVariants.{Sha1, Sha256, Sha384, Sha512}
use Rattle.modular.specs.Numbers.{value, limbs_end}
use Rattle.modular.proofs.Values.{value-zeros}
use Rattle.modular.proofs.Digits.{after_both, hold}
use Rattle.rsa.specs.Primitives.{os2ip, i2osp, is_decided}
use Rattle.rsa.specs.Pkcs1.{digest_info, digest_info_len, encoded_message, has_encoded, verifies}
use Rattle.rsa.proofs.Conversions.{i2osp-os2ip, os2ip-i2osp}
use Rattle.rsa.proofs.Octets.{whole, below_append, below_replicate}

same_test : (a b : Bool) → (a ≡ true → b ≡ true) → (b ≡ true → a ≡ true) → a ≡ b
same_test true b f g = sym (f refl)
same_test false true f g = g refl
same_test false false f g = refl

-- numbers are compared in place of octets
compared : (r : Bool) (m k : ℕ) (em : List ℕ) → m < 256 ^ k → length em ≡ k → AllBelowBase 256 em
    → (IsTrue r ↔ (m ≡ os2ip em)) → r ≡ bytes_eq (i2osp m k) em
compared r m k em h l b f =
    let d = bytes_eq-Decides (i2osp m k) em in
    same_test r (bytes_eq (i2osp m k) em)
    (λ t. d.1 (ap (λ (x : ℕ). i2osp x k) (f.0 t) ∙ i2osp-os2ip em k l b))
    (λ t. f.1 (sym (os2ip-i2osp m k h) ∙ ap os2ip (d.0 t)))

-- ---- the encoded message
digest_bytes-length : (h : List ℕ) (n : ℕ) → length (digest_bytes h n) ≡ 4 * n
unfolding digest_bytes
digest_bytes-length h zero = refl
digest_bytes-length h (suc n) =
    rw length-append (let e = digest_bytes-length h n in omega (arith, e))

length-sha1 : (message : List ℕ) → length (sha1 message) ≡ 20
unfolding sha1
length-sha1 message = digest_bytes-length _ 5

pub info-length : (hash : Hash) (message : List ℕ) → length (digest_info hash message) ≡ digest_info_len hash
info-length Sha1 message = rw (length-sha1 message) refl
info-length Sha256 message = rw (length-sha256 message) refl
info-length Sha384 message = rw (length-sha384 message) refl
info-length Sha512 message = rw (length-sha512 message) refl

pub encoded-length : (hash : Hash) (message : List ℕ) (em_len : ℕ) → digest_info_len hash + 11 ≤ em_len
    → length (encoded_message hash message em_len) ≡ em_len
unfolding encoded_message
encoded-length hash message em_len h =
    rw (
      length-append (replicate (em_len - digest_info_len hash - 3) 0xFF) (0x00 ∷ digest_info hash message),
      length-replicate {A = ℕ} (em_len - digest_info_len hash - 3) 0xFF,
      info-length hash message,
    )
    (omega arith)

pub encoded-below : (hash : Hash) (message : List ℕ) (em_len : ℕ) → AllBelowBase 256 (digest_info hash message)
    → AllBelowBase 256 (encoded_message hash message em_len)
unfolding encoded_message
encoded-below hash message em_len b =
    let z : 0 < 256 = omega arith in
    let o : 1 < 256 = omega arith in (
      z,
      (
        o,
        below_append (replicate (em_len - digest_info_len hash - 3) 0xFF) (0x00 ∷ digest_info hash message)
            (below_replicate (em_len - digest_info_len hash - 3) 0xFF (omega arith)) (z, b),
      ),
    )

encoded_parts : (hash : Hash) (message : List ℕ) (em_len : ℕ)
    → ((0x00 ∷ 0x01 ∷ []) ++ replicate (em_len - digest_info_len hash - 3) 0xFF ++ (0x00 ∷ []) ++ digest_info hash message)
    ≡ encoded_message hash message em_len
unfolding encoded_message
encoded_parts hash message em_len =
    ap (λ (xs : List ℕ). 0x00 ∷ 0x01 ∷ xs) (append_assoc (replicate (em_len - digest_info_len hash - 3) 0xFF) (0x00 ∷ []) (digest_info hash message))

pub encoded_is : (hash : Hash) (message z padding : List ℕ) (em_len n k a b c d : ℕ) → z ≡ replicate n 0
    → padding ≡ replicate (em_len - digest_info_len hash - 3) 0xFF
    → a ≡ number_from_digits_after 256 (value z) (0x00 ∷ 0x01 ∷ []) % limbs_end k
    → b ≡ number_from_digits_after 256 a padding % limbs_end k
    → c ≡ number_from_digits_after 256 b (0x00 ∷ []) % limbs_end k
    → d ≡ number_from_digits_after 256 c (digest_info hash message) % limbs_end k
    → digest_info_len hash + 11 ≤ em_len → AllBelowBase 256 (digest_info hash message) → em_len ≤ 8 * k
    → d ≡ os2ip (encoded_message hash message em_len)
encoded_is hash message z padding em_len n k a b c d hz hp ha hb hc hd l below room =
    let v : value z ≡ 0 = ap value hz ∙ value-zeros n in
    let ga : a ≡ number_from_digits_after 256 0 (0x00 ∷ 0x01 ∷ []) % limbs_end k = rw v at ha in
    let gb : b ≡ number_from_digits_after 256 a (replicate (em_len - digest_info_len hash - 3) 0xFF) % limbs_end k = rw hp at hb in
    let p = after_both 0 a b (limbs_end k) (0x00 ∷ 0x01 ∷ []) (replicate (em_len - digest_info_len hash - 3) 0xFF) ga gb in
    let q = after_both 0 b c (limbs_end k) ((0x00 ∷ 0x01 ∷ []) ++ replicate (em_len - digest_info_len hash - 3) 0xFF) (0x00 ∷ []) p hc in
    let r = after_both 0 c d (limbs_end k) ((0x00 ∷ 0x01 ∷ []) ++ replicate (em_len - digest_info_len hash - 3) 0xFF ++ (0x00 ∷ [])) (digest_info hash message) q hd in
    let s : 256 ^ length (encoded_message hash message em_len) ≤ limbs_end k = rw (encoded-length hash message em_len l) (hold em_len k room) in
    whole (encoded_message hash message em_len) d (limbs_end k) (encoded-below hash message em_len below) s
    (r ∙ ap (λ (xs : List ℕ). os2ip xs % limbs_end k) (encoded_parts hash message em_len))

-- ---- each end of the verification
pub out_of_range : (hash : Hash) (modulus : List ℕ) (e : ℕ) (message signature : List ℕ) → os2ip modulus ≤ os2ip signature
    → false ≡ has_encoded hash modulus e message signature
unfolding has_encoded
out_of_range hash modulus e message signature h = rw (le-ltb (os2ip signature) (os2ip modulus) h) refl

pub too_short : (hash : Hash) (modulus : List ℕ) (e : ℕ) (message signature : List ℕ)
    → leb (digest_info_len hash + 11) (length modulus) ≡ false → has_encoded hash modulus e message signature ≡ false
unfolding has_encoded
too_short hash modulus e message signature f =
    elim (cases_lt (os2ip signature) (os2ip modulus)) [
      | inl l ↦ rw (lt-ltb (os2ip signature) (os2ip modulus) l, f) refl
      | inr l ↦ rw (le-ltb (os2ip signature) (os2ip modulus) l) refl
    ]

pub encoded_or_not : (r : Bool) (hash : Hash) (modulus : List ℕ) (e : ℕ) (message signature : List ℕ) (m em : ℕ)
    → os2ip signature < os2ip modulus → digest_info_len hash + 11 ≤ length modulus
    → AllBelowBase 256 modulus → AllBelowBase 256 (encoded_message hash message (length modulus))
    → m ≡ (os2ip signature ^ e) % os2ip modulus → em ≡ os2ip (encoded_message hash message (length modulus)) → (IsTrue r ↔ (m ≡ em))
    → r ≡ has_encoded hash modulus e message signature
unfolding has_encoded
encoded_or_not r hash modulus e message signature m em l fits bn be hm he g =
    let f : leb (digest_info_len hash + 11) (length modulus) ≡ true = le-leb (digest_info_len hash + 11) (length modulus) fits in
    let t : (IsTrue r ↔ ((os2ip signature ^ e) % os2ip modulus ≡ os2ip (encoded_message hash message (length modulus)))) = rw (hm, he) at g in
    let p : 0 < os2ip modulus = omega arith in
    let u : (os2ip signature ^ e) % os2ip modulus < 256 ^ length modulus = lt_trans (mod-lt (os2ip signature ^ e) p) (number_lt 256 modulus bn) in
    rw (lt-ltb (os2ip signature) (os2ip modulus) l, f)
    (compared r ((os2ip signature ^ e) % os2ip modulus) (length modulus) (encoded_message hash message (length modulus)) u
    (encoded-length hash message (length modulus) fits) be t)

pub not_decided : (hash : Hash) (modulus exponent message signature : List ℕ) → is_decided modulus exponent signature ≡ false
    → false ≡ verifies hash modulus exponent message signature
unfolding verifies
not_decided hash modulus exponent message signature h = rw h refl

pub by_number : (hash : Hash) (modulus exponent message signature : List ℕ) (e : ℕ) (r : Bool) → is_decided modulus exponent signature ≡ true
    → e ≡ os2ip exponent → r ≡ has_encoded hash modulus e message signature → r ≡ verifies hash modulus exponent message signature
unfolding verifies
by_number hash modulus exponent message signature e r h q d =
    rw h (d ∙ ap (λ (x : ℕ). has_encoded hash modulus x message signature) q)
