-- MGF1, the exclusive or of octets, and bits that are zero.
use Rattle.std.proofs.Common.{◌≡◌, ℕ, zero, suc, ◌+◌, ◌-◌, ◌*◌, ◌/◌, ◌%◌, ◌^◌, ◌<◌, ◌≤◌, List, [], ◌∷◌, ◌++◌, length, get_or, set, take, refl, sym, ◌∙◌, ap, arith, append_assoc, append-nil, length-append, length-take, mul-le-mul_right}
use Rattle.std.specs.Prelude.{bit_xor}
use Rattle.std.specs.Int.{w32, to_be_bytes}
use Rattle.std.proofs.Math.Seq.{take-suc-set, take-append_seam}
use Rattle.std.proofs.lemmas.List.{take_all, get_or-set_other}
use Rattle.sha2.proofs.Facts256.{length-sha256}
use Rattle.sha2.proofs.Facts512.{length-sha384, length-sha512}
use Rattle.rsa.specs.Primitives.{i2osp}
use Rattle.rsa.specs.Pss.{h_len, hash_of, hashed_counters, mgf1, with_zeros, xor}
use Rattle.rsa.specs.declared.digest.PssHash.{PssHash}
use Rattle.rsa.specs.declared.digest.PssHash.TheVariants.{Sha256, Sha384, Sha512}

pub hash-length : (hash : PssHash) (message : List ℕ) → length (hash_of hash message) ≡ h_len hash
hash-length Sha256 message = length-sha256 message
hash-length Sha384 message = length-sha384 message
hash-length Sha512 message = length-sha512 message

-- ---- the counters
four_octets : (n : ℕ) → to_be_bytes w32 n ≡ i2osp n 4
unfolding i2osp
four_octets n =
    let a : n / 256 ^ 3 ≡ n / 256 / 256 / 256 = omega arith in
    let b : n / 256 ^ 2 ≡ n / 256 / 256 = omega arith in
    let c : n / 256 ^ 1 ≡ n / 256 = omega arith in
    rw (a, b, c) refl

pub counters_start : (hash : PssHash) (octets seed : List ℕ) (size : ℕ) → take (0 * size) octets ≡ hashed_counters hash seed 0
unfolding hashed_counters
counters_start hash octets seed size = let z : 0 * size ≡ 0 = omega arith in rw z refl

counters_suc : (hash : PssHash) (seed : List ℕ) (n : ℕ)
    → hashed_counters hash seed (suc n) ≡ hashed_counters hash seed n ++ hash_of hash (seed ++ i2osp n 4)
unfolding hashed_counters
counters_suc hash seed n = refl

behind : (xs d ys : List ℕ) (k size : ℕ) → k ≤ length xs → length d ≡ size → take (k + size) (take k xs ++ (d ++ ys)) ≡ take k xs ++ d
behind xs d ys k size h l =
    let m : length (take k xs) ≡ k = omega (arith, length-take {A = ℕ}) in
    let n : length (take k xs ++ d) ≡ k + size = omega (arith, length-append {A = ℕ}) in
    ap (λ (x : List ℕ). take (k + size) x) (sym (append_assoc (take k xs) d ys))
    ∙ ap (λ (j : ℕ). take j ((take k xs ++ d) ++ ys)) (sym n) ∙ take-append_seam (take k xs ++ d) ys

pub counters_fit : (counter count size h l n : ℕ) → counter < count → size ≡ h → count * h ≤ n → l ≡ n → counter * size ≤ l
counters_fit counter count size h l n c e f g =
    let p = mul-le-mul_right {m = counter} {n = count} h (omega arith) in
    rw (e, g) (omega (arith, p))

pub counters_more : (hash : PssHash) (seed octets number d rest : List ℕ) (counter size : ℕ) → size ≡ h_len hash → number ≡ to_be_bytes w32 counter
    → d ≡ hash_of hash (seed ++ number ++ []) → counter * size ≤ length octets
    → take (counter * size) octets ≡ hashed_counters hash seed counter
    → take ((counter + 1) * size) (take (counter * size) octets ++ (d ++ rest)) ≡ hashed_counters hash seed (counter + 1)
counters_more hash seed octets number d rest counter size hs hn hd fits h =
    let e : (counter + 1) * size ≡ counter * size + size = omega arith in
    let s : counter + 1 ≡ suc counter = omega arith in
    let f : d ≡ hash_of hash (seed ++ i2osp counter 4) =
    hd ∙ ap (hash_of hash) (append-nil (seed ++ number)) ∙ ap (λ (x : List ℕ). hash_of hash (seed ++ x)) (hn ∙ four_octets counter) in
    let l : length d ≡ size = ap length f ∙ hash-length hash (seed ++ i2osp counter 4) ∙ sym hs in
    rw (e, s) (behind octets d rest (counter * size) size fits l
    ∙ ap (λ (x : List ℕ). x ++ d) h ∙ ap (λ (x : List ℕ). hashed_counters hash seed counter ++ x) f ∙ sym (counters_suc hash seed counter))

-- ---- the exclusive or
pub xor_more : (xs ys : List ℕ) (i : ℕ) → i < length xs → i < length ys
    → xor (take (suc i) xs) (take (suc i) ys) ≡ xor (take i xs) (take i ys) ++ (bit_xor (get_or xs i 0) (get_or ys i 0) ∷ [])
unfolding xor
xor_more [] ys i h l = absurd (omega arith)
xor_more (x ∷ xs) [] i h l = absurd (omega arith)
xor_more (x ∷ xs) (y ∷ ys) zero h l = refl
xor_more (x ∷ xs) (y ∷ ys) (suc i) h l = ap (λ (zs : List ℕ). bit_xor x y ∷ zs) (xor_more xs ys i (omega arith) (omega arith))

pub xor_take : (xs ys : List ℕ) → xor xs (take (length xs) ys) ≡ xor xs ys
unfolding xor
xor_take [] ys = refl
xor_take (x ∷ xs) [] = refl
xor_take (x ∷ xs) (y ∷ ys) = ap (λ (zs : List ℕ). bit_xor x y ∷ zs) (xor_take xs ys)

pub xor-length : (xs ys : List ℕ) → length xs ≤ length ys → length (xor xs ys) ≡ length xs
unfolding xor
xor-length [] ys h = refl
xor-length (x ∷ xs) [] h = absurd (omega arith)
xor-length (x ∷ xs) (y ∷ ys) h = ap suc (xor-length xs ys (omega arith))

pub xor_none : (xs ys : List ℕ) → [] ≡ xor (take 0 xs) (take 0 ys)
unfolding xor
xor_none xs ys = refl

pub xor_step : (octets old others : List ℕ) (i v : ℕ) → i < length octets → length octets ≡ length old → length old ≤ length others
    → take i octets ≡ xor (take i old) (take i others) → get_or octets i 0 ≡ get_or old i 0
    → v ≡ bit_xor (get_or octets i 0) (get_or others i 0)
    → take (i + 1) (set octets i v) ≡ xor (take (i + 1) old) (take (i + 1) others)
xor_step octets old others i v h l m e a g =
    let s : i + 1 ≡ suc i = omega arith in
    let w : v ≡ bit_xor (get_or old i 0) (get_or others i 0) = rw a at g in
    rw s (take-suc-set octets i v h ∙ ap (λ (x : List ℕ). x ++ (v ∷ [])) e ∙ ap (λ (x : ℕ). xor (take i old) (take i others) ++ (x ∷ [])) w
    ∙ sym (xor_more old others i (omega arith) (omega arith)))

pub xor_rest : (octets old : List ℕ) (i v : ℕ) → ((k : ℕ) → i ≤ k → get_or octets k 0 ≡ get_or old k 0)
    → (k : ℕ) → i + 1 ≤ k → get_or (set octets i v) k 0 ≡ get_or old k 0
xor_rest octets old i v f k h = get_or-set_other octets i k v 0 (λ e. omega (arith, e)) ∙ f k (omega arith)

pub xor_all : (octets old others : List ℕ) (i : ℕ) → length octets ≤ i → i ≤ length octets → length octets ≡ length old
    → take i octets ≡ xor (take i old) (take i others) → octets ≡ xor old others
xor_all octets old others i h m l e =
    let j : i ≡ length old = omega arith in
    let a : take i octets ≡ octets = take_all i octets h in
    let b : take i old ≡ old = take_all i old (omega arith) in
    sym a ∙ e ∙ ap (λ (x : List ℕ). xor x (take i others)) b ∙ ap (λ (k : ℕ). xor old (take k others)) j ∙ xor_take old others

-- ---- the mask
covers : (hash : PssHash) (n : ℕ) → n ≤ (n + h_len hash - 1) / h_len hash * h_len hash
covers Sha256 n = omega arith
covers Sha384 n = omega arith
covers Sha512 n = omega arith

shorter : (xs : List ℕ) (n m : ℕ) → n ≤ m → take n (take m xs) ≡ take n xs
shorter xs zero m h = refl
shorter xs (suc n) zero h = absurd (omega arith)
shorter [] (suc n) (suc m) h = refl
shorter (x ∷ xs) (suc n) (suc m) h = ap (λ (ys : List ℕ). x ∷ ys) (shorter xs n m (omega arith))

mgf1-is : (hash : PssHash) (seed : List ℕ) (n : ℕ) → mgf1 hash seed n ≡ take n (hashed_counters hash seed ((n + h_len hash - 1) / h_len hash))
unfolding mgf1
mgf1-is hash seed n = refl

pub masked_is : (hash : PssHash) (octets new seed mask : List ℕ) (size n : ℕ) → size ≡ h_len hash
    → take ((n + size - 1) / size * h_len hash) mask ≡ hashed_counters hash seed ((n + size - 1) / size)
    → new ≡ xor octets (take n mask) → new ≡ xor octets (mgf1 hash seed n)
masked_is hash octets new seed mask size n e h g =
    let c = covers hash n in
    let f : take ((n + h_len hash - 1) / h_len hash * h_len hash) mask ≡ hashed_counters hash seed ((n + h_len hash - 1) / h_len hash) = rw e at h in
    g ∙ ap (λ (x : List ℕ). xor octets x)
    (sym (shorter mask n ((n + h_len hash - 1) / h_len hash * h_len hash) c) ∙ ap (λ (x : List ℕ). take n x) f ∙ sym (mgf1-is hash seed n))

counters-length : (hash : PssHash) (seed : List ℕ) (count : ℕ) → length (hashed_counters hash seed count) ≡ count * h_len hash
counters-length hash seed zero =
    let e : hashed_counters hash seed 0 ≡ [] = sym (counters_start hash [] seed 0) in
    rw e (omega arith)
counters-length hash seed (suc count) =
    let i = counters-length hash seed count in
    let d = hash-length hash (seed ++ i2osp count 4) in
    ap length (counters_suc hash seed count)
    ∙ length-append (hashed_counters hash seed count) (hash_of hash (seed ++ i2osp count 4)) ∙ omega (arith, i, d)

pub mgf1-length : (hash : PssHash) (seed : List ℕ) (n : ℕ) → length (mgf1 hash seed n) ≡ n
mgf1-length hash seed n =
    let c = covers hash n in
    let l = counters-length hash seed ((n + h_len hash - 1) / h_len hash) in
    ap length (mgf1-is hash seed n) ∙ as_many (hashed_counters hash seed ((n + h_len hash - 1) / h_len hash)) n (omega (arith, c, l))
  where
    as_many : (xs : List ℕ) (n : ℕ) → n ≤ length xs → length (take n xs) ≡ n
    as_many xs n h = omega (arith, length-take {A = ℕ})

-- ---- bits that are zero
pub power_of_bits : (bits : ℕ) → bits ≤ 8 → 256 / 2 ^ bits ≡ 2 ^ (8 - bits)
power_of_bits zero h = refl
power_of_bits (suc zero) h = refl
power_of_bits (suc (suc zero)) h = refl
power_of_bits (suc (suc (suc zero))) h = refl
power_of_bits (suc (suc (suc (suc zero)))) h = refl
power_of_bits (suc (suc (suc (suc (suc zero))))) h = refl
power_of_bits (suc (suc (suc (suc (suc (suc zero)))))) h = refl
power_of_bits (suc (suc (suc (suc (suc (suc (suc zero))))))) h = refl
power_of_bits (suc (suc (suc (suc (suc (suc (suc (suc zero)))))))) h = refl
power_of_bits (suc (suc (suc (suc (suc (suc (suc (suc (suc bits))))))))) h = absurd (omega arith)

pub zeros_set : (octets : List ℕ) (bits : ℕ) → 0 < length octets
    → set octets 0 (get_or octets 0 0 % 2 ^ (8 - bits)) ≡ with_zeros bits octets
unfolding with_zeros
zeros_set [] bits h = absurd (omega arith)
zeros_set (octet ∷ octets) bits h = refl

pub zeros-length : (bits : ℕ) (octets : List ℕ) → length (with_zeros bits octets) ≡ length octets
unfolding with_zeros
zeros-length bits [] = refl
zeros-length bits (octet ∷ octets) = refl
