-- Numbers as octets (I2OSP) and octets as numbers (OS2IP).
use Rattle.std.proofs.Common.{◌≡◌, ℕ, zero, suc, ◌+◌, ◌*◌, ◌/◌, ◌%◌, ◌^◌, ◌<◌, List, [], ◌∷◌, ◌++◌, length, refl, ◌∙◌, ap, arith, pow-suc, append_assoc, append-nil, zero-add, add-one, sym, length-append}
use Rattle.std.proofs.Math.Nat.{pow-zero, div-add-mod'}
use Rattle.std.proofs.lemmas.Nat.{div_below, pow-add}
use Rattle.std.proofs.lemmas.Int.Digits.{number_push}
use Rattle.std.specs.Int.Digits.{number_from_digits_after, AllBelowBase}
use Rattle.rsa.specs.Primitives.{os2ip, i2osp}

i2osp-zero : (x : ℕ) → i2osp x 0 ≡ []
unfolding i2osp
i2osp-zero x = refl

i2osp-suc : (x count : ℕ) → i2osp x (suc count) ≡ i2osp (x / 256) count ++ (x % 256 ∷ [])
unfolding i2osp
i2osp-suc x count = refl

i2osp_after : (n : ℕ) (ds : List ℕ) (j : ℕ) → AllBelowBase 256 ds
    → i2osp (number_from_digits_after 256 n ds) (length ds + j) ≡ i2osp n j ++ ds
i2osp_after n [] j b = rw (zero-add j, append-nil (i2osp n j)) refl
i2osp_after n (d ∷ ds) j b =
    let l : d < 256 = b.0 in
    let e : suc (length ds) + j ≡ length ds + suc j = omega arith in
    let q : (n * 256 + d) / 256 ≡ n = omega arith in
    let r : (n * 256 + d) % 256 ≡ d = omega arith in
    let s : i2osp (n * 256 + d) (suc j) ≡ i2osp n j ++ (d ∷ []) = rw (i2osp-suc (n * 256 + d) j, q, r) refl in
    rw e (i2osp_after (n * 256 + d) ds (suc j) b.1 ∙ ap (λ (xs : List ℕ). xs ++ ds) s ∙ append_assoc (i2osp n j) (d ∷ []) ds)

pub i2osp-os2ip : (ds : List ℕ) (k : ℕ) → length ds ≡ k → AllBelowBase 256 ds → i2osp (os2ip ds) k ≡ ds
i2osp-os2ip ds k e b =
    let z : length ds + 0 ≡ k = omega arith in
    rw z at (i2osp_after 0 ds 0 b) ∙ ap (λ (xs : List ℕ). xs ++ ds) (i2osp-zero 0)

pub os2ip-i2osp : (x k : ℕ) → x < 256 ^ k → os2ip (i2osp x k) ≡ x
os2ip-i2osp x zero h =
    let l : x < 1 = rw (pow-zero 256) at h in
    rw (i2osp-zero x) (omega arith)
os2ip-i2osp x (suc k) h =
    let l : x < 256 ^ k * 256 = rw (pow-suc 256 k) at h in
    let i = os2ip-i2osp (x / 256) k (div_below x 256 (256 ^ k) (omega arith) l) in
    rw (i2osp-suc x k) (number_push 256 (i2osp (x / 256) k) (x % 256) ∙ ap (λ (z : ℕ). z * 256 + x % 256) i ∙ div-add-mod' x 256)

pub i2osp-length : (x k : ℕ) → length (i2osp x k) ≡ k
i2osp-length x zero = ap length (i2osp-zero x)
i2osp-length x (suc k) =
    let i = i2osp-length (x / 256) k in
    ap length (i2osp-suc x k) ∙ length-append (i2osp (x / 256) k) (x % 256 ∷ []) ∙ ap (λ (n : ℕ). n + 1) i ∙ add-one k

-- ---- the first octet
number_front : (s : ℕ) (ds : List ℕ) → number_from_digits_after 256 s ds ≡ s * 256 ^ length ds + os2ip ds
number_front s [] = rw (pow-zero 256) (omega arith)
number_front s (d ∷ ds) =
    let a = number_front (s * 256 + d) ds in
    let b = number_front (0 * 256 + d) ds in
    rw (a, b, pow-suc 256 (length ds)) (omega arith)

pub os2ip-cons : (d : ℕ) (ds : List ℕ) → os2ip (d ∷ ds) ≡ d * 256 ^ length ds + os2ip ds
os2ip-cons d ds = ap (λ (s : ℕ). number_from_digits_after 256 s ds) (zero-add d) ∙ number_front d ds

pub octet_power : (l : ℕ) → 256 ^ l ≡ 2 ^ (8 * l)
octet_power zero = rw (pow-zero 256) refl
octet_power (suc l) =
    let e : 8 * suc l ≡ 8 * l + 8 = omega arith in
    pow-suc 256 l ∙ ap (λ (x : ℕ). x * 256) (octet_power l) ∙ sym (ap (λ (k : ℕ). 2 ^ k) e ∙ pow-add 2 (8 * l) 8)
