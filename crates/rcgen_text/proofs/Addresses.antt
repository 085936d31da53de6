-- Addresses as std reads them.
use Rattle.std.specs.Prelude.{◌≡◌, ℕ, zero, suc, ◌+◌, ◌-◌, ◌*◌, ◌/◌, ◌%◌, ◌<◌, ◌≤◌, List, [], ◌∷◌, refl}
use Rattle.std.proofs.Common.{ap, arith, sym, ◌∙◌, ◌++◌, length, take, set, replicate, append_assoc, append-nil}
use Rattle.std.proofs.lemmas.List.{length-replicate, length-set, take_all}
use Rattle.std.proofs.lemmas.Grind.{take-set_at}
use Rattle.std.specs.Net.Addr.{segments_of, octets_of}
use Rattle.std.specs.Net.Grammar.{IsColonHex, IsIpText}
use Rattle.std.specs.declared.net.ip_addr.IpAddr.{IpAddr as StdIpAddr}
use Rattle.std.specs.declared.net.ip_addr.IpAddr.TheVariants as std_ip
use Rattle.rcgen_text.specs.declared.ip.IpAddr.{IpAddr}
use Rattle.rcgen_text.specs.declared.ip.IpAddr.TheVariants as ip
use Rattle.rcgen_text.specs.Addresses.{AreOctets, IsAddressText, octet_mask, mask}

segments_back : (segments : List ℕ) → segments_of (octets_of segments) ≡ segments
segments_back [] = refl
segments_back (s ∷ rest) =
    let same : s / 256 * 256 + s % 256 ≡ s = omega arith in
    rw (same, segments_back rest) refl

-- the octets of its segments
pub v6_text : (text segments octets : List ℕ) → octets ≡ octets_of segments → AreOctets 16 octets → IsColonHex text segments
    → IsAddressText text (ip.V6 octets)
v6_text text segments octets e h k = (h, rw (e, segments_back segments) k)

pub none_of : (text : List ℕ) → ((a : StdIpAddr) → ¬ (IsIpText text a)) → (a : IpAddr) → ¬ (IsAddressText text a)
none_of text h (ip.V4 octets) k = h (std_ip.V4 (record { octets = octets })) k.1
none_of text h (ip.V6 octets) k = h (std_ip.V6 (record { segments = segments_of octets })) k.1

pub mask_more : (n bits : ℕ) → 0 < n → mask n bits ≡ octet_mask bits ∷ mask (n - 1) (bits - 8)
mask_more zero bits h = absurd (omega arith)
mask_more (suc n) bits h = let same : suc n - 1 ≡ n = omega arith in rw same refl

pub mask_starts : (n bits : ℕ) → (mask (n - 0) bits ≡ mask n bits) × (length {A = ℕ} (replicate n 0) ≡ n)
mask_starts n bits = let same : n - 0 ≡ n = omega arith in (ap (λ (k : ℕ). mask k bits) same, length-replicate {A = ℕ} n 0)

pub mask_goes_on : (n bits i left m next : ℕ) (items : List ℕ) → i < n → length items ≡ n → take i items ++ mask (n - i) left ≡ mask n bits
    → m ≡ octet_mask left → next ≡ left - 8 → (take (i + 1) (set items i m) ++ mask (n - (i + 1)) next ≡ mask n bits) × (length (set items i m) ≡ n)
mask_goes_on n bits i left m next items l e h p q =
    let within : i < length items = omega (arith, l, e) in
    let some : 0 < n - i = omega (arith, l) in
    let fewer : n - i - 1 ≡ n - (i + 1) = omega arith in
    let front : take (i + 1) (set items i m) ≡ take i items ++ m ∷ [] = take-set_at items i (i + 1) m refl within in
    let whole : take i items ++ octet_mask left ∷ mask (n - i - 1) (left - 8) ≡ mask n bits = rw (mask_more (n - i) left some) at h in
    (rw (front, q, ← fewer, p) (append_assoc (take i items) (octet_mask left ∷ []) (mask (n - i - 1) (left - 8)) ∙ whole), length-set items i m ∙ e)

pub mask_ends : (n bits i left : ℕ) (items : List ℕ) → i ≤ n → n ≤ i → length items ≡ n → take i items ++ mask (n - i) left ≡ mask n bits → items ≡ mask n bits
mask_ends n bits i left items l m e h =
    let none : n - i ≡ 0 = omega (arith, l, m) in
    let all : take i items ≡ items = take_all i items (omega (arith, l, m, e)) in
    sym (append-nil items) ∙ rw (none, all) at h

pub all_bits : (bits : ℕ) → 8 ≤ bits → octet_mask bits ≡ 255
all_bits bits h = let none : 8 - bits ≡ 0 = omega (arith, h) in rw none refl

pub ruleset parsing = (none_of)
