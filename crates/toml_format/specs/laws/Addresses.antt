-- That a text is read as the address and the subnet that it is of.
use Rattle.std.proofs.Common.{◌≡◌, ◌↔◌, ℕ, zero, suc, ◌+◌, ◌-◌, ◌*◌, ◌/◌, ◌%◌, ◌^◌, ◌<◌, ◌≤◌, ◌==◌, Bool, true, false, cond}
use Rattle.std.proofs.Common.{List, [], ◌∷◌, ◌++◌, length, get_or, take, drop, replicate, Option, Some, None}
use Rattle.std.proofs.Common.{refl, sym, ap, ◌∙◌, subst, arith, inl, inr, append-nil, length-append, take-append-drop, lit≤, lit<, lt-ltb, ne_eqb}
use Rattle.std.proofs.Math.Nat.{pow-le-pow_right}
use Rattle.std.proofs.Math.Seq.{drop-length}
use Rattle.std.proofs.NetLemmas.Ipv4.{read_ipv4_sound, read_ipv4_complete}
use Rattle.std.proofs.NetLemmas.Ipv6.{read_ipv6_sound, read_ipv6_complete, EndsGroups-nil, IsDotted-not_colon_hex}
use Rattle.std.proofs.NetLemmas.Numbers.{read_number_some, read_number_sound}
use Rattle.std.proofs.NetLemmas.Options.{and_then_some, map_some}
use Rattle.std.proofs.lemmas.Bool.{ltb-true}
use Rattle.std.proofs.lemmas.Int.Digits.{digits_value-lt}
use Rattle.std.proofs.lemmas.List.{length-replicate}
use Rattle.std.proofs.lemmas.Option.{none-some, same_Some}
use Rattle.std.specs.List.{AllByRecursion, position_or_len, before_first, after_first}
use Rattle.std.specs.Net.Addr.{octets_of, segments_of}
use Rattle.std.specs.Net.Grammar.{IsDotted, IsNumber, IsGroup, IsGroupsAfter, IsColonHex}
use Rattle.std.specs.Net.Reader.{Read, read_ipv4, read_ipv6, read_decimal, read_number, whole_value}
use Rattle.std.specs.Option.{option_map, option_or, option_and_then}
use Rattle.std.specs.Prelude.{nat_lt}
use Rattle.std.specs.Str.Parse.{without_leading_plus}
use Rattle.rcgen_text.proofs.Addresses.{v6_text}
use Rattle.rcgen_text.specs.Addresses.{AreOctets, IsAddressText, IsPrefixText, IsSubnetText, is_slash, subnet_of}
use Rattle.rcgen_text.specs.declared.ip.IpAddr.{IpAddr}
use Rattle.rcgen_text.specs.declared.ip.IpAddr.TheVariants as ip
use Rattle.rcgen_text.specs.declared.cidr.CidrSubnet.{CidrSubnet}
use Rattle.toml_format.specs.AddressReading.{v4_of, v6_of, read_address, read_prefix, read_parts, read_subnet}

-- ---- what the whole of a text is read as

whole_sound : {A : Type 0} (Spells : List ℕ → A → Type 0) (text : List ℕ) (read : Read A)
    → ((x : A) (rest : List ℕ) → read ≡ Some (x, rest) → (front : List ℕ) × (text ≡ front ++ rest) × Spells front x)
    → (x : A) → whole_value read ≡ Some x → Spells text x
whole_sound Spells text None sound x e = absurd (none-some _ e)
whole_sound Spells text (Some (y, [])) sound x e =
    let (front, split, spells) = sound y [] refl in
    subst (Spells text) (same_Some _ _ e) (subst (λ t. Spells t y) (sym (split ∙ append-nil front)) spells)
whole_sound Spells text (Some (y, c ∷ rest)) sound x e =
    let left : (length (c ∷ rest) == 0) ≡ false = ne_eqb (length (c ∷ rest)) 0 (omega arith) in
    absurd (none-some _ (rw left at e))

-- ---- addresses of IPv4

v4_sound : (text octets : List ℕ) → whole_value (read_ipv4 text) ≡ Some octets → IsDotted text octets
v4_sound text octets e = whole_sound IsDotted text (read_ipv4 text) (λ x rest. read_ipv4_sound text x rest) octets e

v4_complete : (text octets : List ℕ) → IsDotted text octets → whole_value (read_ipv4 text) ≡ Some octets
v4_complete text octets h =
    ap whole_value (ap read_ipv4 (sym (append-nil text)) ∙ read_ipv4_complete text octets [] h (lit≤ tt))

four_octets : (a b c d : ℕ) → a < 256 → b < 256 → c < 256 → d < 256 → AreOctets 4 (a ∷ b ∷ c ∷ d ∷ [])
four_octets a b c d p q r s = (refl, λ k. below k)
  where
    below : (k : ℕ) → get_or (a ∷ b ∷ c ∷ d ∷ []) k 0 < 256
    below zero = p
    below (suc zero) = q
    below (suc (suc zero)) = r
    below (suc (suc (suc zero))) = s
    below (suc (suc (suc (suc k)))) = lit< tt

dotted_octets : (text octets : List ℕ) → IsDotted text octets → AreOctets 4 octets
dotted_octets text octets h = subst (AreOctets 4) (sym h.value) (four_octets h.a h.b h.c h.d h.fit.0 h.fit.1 h.fit.2 h.fit.3)

-- ---- addresses of IPv6

v6_sound : (text segments : List ℕ) → whole_value (read_ipv6 text) ≡ Some segments → IsColonHex text segments
v6_sound text segments e = whole_sound IsColonHex text (read_ipv6 text) (λ x rest. read_ipv6_sound text x rest) segments e

v6_complete : (text segments : List ℕ) → IsColonHex text segments → whole_value (read_ipv6 text) ≡ Some segments
v6_complete text segments h =
    ap whole_value (ap read_ipv6 (sym (append-nil text)) ∙ read_ipv6_complete text segments [] h EndsGroups-nil)

-- numbers of 16 bits
abbrev AreSmall : List ℕ → Type 0
AreSmall = AllByRecursion (λ s. s < 65_536)

small-append : (xs ys : List ℕ) → AreSmall xs → AreSmall ys → AreSmall (xs ++ ys)
small-append [] ys h k = k
small-append (x ∷ xs) ys h k = (h.0, small-append xs ys h.1 k)

small_zeros : (n : ℕ) → AreSmall (replicate n 0)
small_zeros zero = tt
small_zeros (suc n) = (lit< tt, small_zeros n)

small_group : (text : List ℕ) (s : ℕ) → IsGroup text s → s < 65_536
small_group text s h =
    let below = digits_value-lt 16 text h.0.0.1 in
    let most : 16 ^ length text ≤ 16 ^ 4 = pow-le-pow_right (lit≤ tt) h.1 in
    omega (arith, h.0.1)

small_dotted : (text octets : List ℕ) → IsDotted text octets → AreSmall (segments_of octets)
small_dotted text octets h =
    subst (λ (o : List ℕ). AreSmall (segments_of o)) (sym h.value) (omega (arith, h.fit), (omega (arith, h.fit), tt))

small_groups : (ipv4 : Bool) (lead text segments : List ℕ) → IsGroupsAfter ipv4 lead text segments → AreSmall segments
small_groups ipv4 lead text [] h = tt
small_groups ipv4 lead text (s ∷ segments) (inl h) = (small_group h.0 s h.3, small_groups ipv4 (58 ∷ []) h.1 segments h.4)
small_groups ipv4 lead text (s ∷ segments) (inr h) = subst AreSmall (sym h.5) (small_dotted h.0 h.1 h.4)

eight_segments : (text segments : List ℕ) → IsColonHex text segments → (length segments ≡ 8) × AreSmall segments
eight_segments text segments (inl h) = (h.1, small_groups true [] text segments h.0)
eight_segments text segments (inr h) =
    let room = 8 - length h.head - length h.tail in
    let zeros : List ℕ = replicate room 0 in
    let counted = length-append (h.head ++ zeros) h.tail in
    let counted_front = length-append h.head zeros in
    let counted_zeros = length-replicate {A = ℕ} room 0 in
    let small_front = small-append h.head zeros (small_groups false [] h.head_text h.head h.head_groups) (small_zeros room) in
    let small = small-append (h.head ++ zeros) h.tail small_front (small_groups true [] h.tail_text h.tail h.tail_groups) in
    (ap length h.value ∙ omega (arith, counted, counted_front, counted_zeros, h.room), subst AreSmall (sym h.value) small)

-- segments as octets

length-octets_of : (segments : List ℕ) → length (octets_of segments) ≡ 2 * length segments
length-octets_of [] = refl
length-octets_of (s ∷ segments) = omega (arith, length-octets_of segments)

octets_small : (segments : List ℕ) → AreSmall segments → (k : ℕ) → get_or (octets_of segments) k 0 < 256
octets_small [] h k = lit< tt
octets_small (s ∷ segments) h zero = omega (arith, h.0)
octets_small (s ∷ segments) h (suc zero) = omega arith
octets_small (s ∷ segments) h (suc (suc k)) = octets_small segments h.1 k

colon_hex_octets : (text segments : List ℕ) → IsColonHex text segments → AreOctets 16 (octets_of segments)
colon_hex_octets text segments h =
    let eight = eight_segments text segments h in
    (omega (arith, length-octets_of segments, eight.0), octets_small segments eight.1)

octets_again : (n : ℕ) (octets : List ℕ) → length octets ≡ 2 * n → ((k : ℕ) → get_or octets k 0 < 256) → octets_of (segments_of octets) ≡ octets
octets_again n [] even small = refl
octets_again n (a ∷ []) even small = absurd (omega arith)
octets_again n (a ∷ b ∷ octets) even small =
    let low : b < 256 = small 1 in
    let high : (a * 256 + b) / 256 ≡ a = omega arith in
    let rest : (a * 256 + b) % 256 ≡ b = omega arith in
    λ i. high i ∷ rest i ∷ octets_again (n - 1) octets (omega arith) (λ k. small (suc (suc k))) i

-- ---- addresses

v4_says : (text : List ℕ) (a : IpAddr) → v4_of text ≡ Some a → IsAddressText text a
v4_says text a e =
    map_some ip.V4 (whole_value (read_ipv4 text)) a e λ octets read is_a.
    let dotted = v4_sound text octets read in
    subst (IsAddressText text) is_a (dotted_octets text octets dotted, dotted)

v6_says : (text : List ℕ) (a : IpAddr) → v6_of text ≡ Some a → IsAddressText text a
v6_says text a e =
    map_some (λ segments. ip.V6 (octets_of segments)) (whole_value (read_ipv6 text)) a e λ segments read is_a.
    let spelled = v6_sound text segments read in
    subst (IsAddressText text) is_a
    (v6_text text segments (octets_of segments) refl (colon_hex_octets text segments spelled) spelled)

either_says : {A : Type 0} (P : A → Type 0) (o p : Option A) (x : A) → ((y : A) → o ≡ Some y → P y) → ((y : A) → p ≡ Some y → P y)
    → option_or o p ≡ Some x → P x
either_says P None p x f g e = g x e
either_says P (Some y) p x f g e = f x e

no_v4 : (text segments : List ℕ) → IsColonHex text segments → whole_value (read_ipv4 text) ≡ None
no_v4 text segments h = go (whole_value (read_ipv4 text)) refl
  where
    go : (o : Option (List ℕ)) → whole_value (read_ipv4 text) ≡ o → o ≡ None
    go None e = refl
    go (Some octets) e = absurd (IsDotted-not_colon_hex text octets segments (v4_sound text octets e) h)

address_complete : (text : List ℕ) (a : IpAddr) → IsAddressText text a → read_address text ≡ Some a
unfolding read_address
address_complete text (ip.V4 octets) h = rw (v4_complete text octets h.1) refl
address_complete text (ip.V6 octets) h =
    rw (no_v4 text (segments_of octets) h.1, v6_complete text (segments_of octets) h.1, octets_again 8 octets h.0.0 h.0.1) refl

pub address_says : (text : List ℕ) (a : IpAddr) → (read_address text ≡ Some a) ↔ IsAddressText text a
unfolding read_address
address_says text a = (
  λ e. either_says (IsAddressText text) (v4_of text) (v6_of text) a (v4_says text) (v6_says text) e,
  address_complete text a,
)

-- ---- subnets

decimal_sound : (text : List ℕ) (n : ℕ) (rest : List ℕ) → read_decimal 255 text ≡ Some (n, rest)
    → (front : List ℕ) × (text ≡ front ++ rest) × (IsNumber 10 front n × (n < 256))
decimal_sound text n rest e =
    map_some (λ (x : ℕ × ℕ). (x.0, drop x.1 text)) (read_number 10 255 text) (n, rest) e λ x read same.
    let (number, fits, counted, stop) = read_number_sound 10 255 text x.0 x.1 (lit≤ tt) read in
    let is_n = ap (λ (p : ℕ × List ℕ). p.0) same in
    let is_rest = ap (λ (p : ℕ × List ℕ). p.1) same in
    (take x.1 text, sym (take-append-drop x.1 text) ∙ ap (λ r. take x.1 text ++ r) is_rest, (subst (IsNumber 10 (take x.1 text)) is_n number, omega (arith, fits, is_n)))

prefix_sound : (text : List ℕ) (n : ℕ) → read_prefix text ≡ Some n → IsPrefixText text n
prefix_sound text n e =
    let digits = without_leading_plus text in
    let h = whole_sound (λ t p. IsNumber 10 t p × (p < 256)) digits (read_decimal 255 digits) (λ x rest. decimal_sound digits x rest) n e in
    (h.0.0, h.0.1, h.1)

prefix_complete : (text : List ℕ) (n : ℕ) → IsPrefixText text n → read_prefix text ≡ Some n
prefix_complete text n h =
    let digits = without_leading_plus text in
    let read = rw append-nil at (read_number_some 10 255 digits [] h.0 (omega (arith, h.1, h.2)) (lit≤ tt)) in
    rw (read, drop-length digits, h.1) refl

guarded : {A : Type 0} (b : Bool) (o : Option A) (x : A) → cond b o None ≡ Some x → (b ≡ true) × (o ≡ Some x)
guarded true o x e = (refl, e)
guarded false o x e = absurd (none-some _ e)

subnet_sound : (text : List ℕ) (s : CidrSubnet) → read_subnet text ≡ Some s → IsSubnetText text s
unfolding read_subnet
subnet_sound text s e =
    let slash = position_or_len is_slash text in
    let front = before_first is_slash text in
    let behind = after_first is_slash text in
    let (has_slash, found) = guarded (nat_lt slash (length text)) (read_parts front behind) s e in
    and_then_some (λ a. option_map (subnet_of a) (read_prefix (before_first is_slash behind))) (read_address front) s found λ a address later.
    map_some (subnet_of a) (read_prefix (before_first is_slash behind)) s later λ n prefix value. record {
      address = a;
      prefix = n;
      has_slash = ltb-true slash (length text) has_slash;
      address_text = (address_says front a).0 address;
      prefix_text = prefix_sound (before_first is_slash behind) n prefix;
      value = sym value;
    }

subnet_complete : (text : List ℕ) (s : CidrSubnet) → IsSubnetText text s → read_subnet text ≡ Some s
unfolding read_subnet
subnet_complete text s h =
    let front = before_first is_slash text in
    let behind = after_first is_slash text in
    let found : read_parts front behind ≡ Some (subnet_of h.address h.prefix) =
    ap (option_and_then (λ a. option_map (subnet_of a) (read_prefix (before_first is_slash behind)))) (address_complete front h.address h.address_text)
    ∙ ap (option_map (subnet_of h.address)) (prefix_complete (before_first is_slash behind) h.prefix h.prefix_text) in
    ap (λ (b : Bool). cond b (read_parts front behind) None) (lt-ltb (position_or_len is_slash text) (length text) h.has_slash)
    ∙ found ∙ ap Some (sym h.value)

pub subnet_says : (text : List ℕ) (s : CidrSubnet) → (read_subnet text ≡ Some s) ↔ IsSubnetText text s
subnet_says text s = (subnet_sound text s, subnet_complete text s)
