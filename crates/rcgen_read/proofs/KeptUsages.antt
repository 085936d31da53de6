-- Usages in the order of their bits: the extension that they make.
use Rattle.std.specs.Prelude.{◌≡◌, ℕ, Bool, true, false, ◌+◌, ◌&&◌, ◌||◌, cond, ◌==◌, List, [], ◌∷◌, length, refl}
use Rattle.std.specs.Int.{trailing_zeros, w8}
use Rattle.std.specs.List.{list_any}
use Rattle.std.proofs.Common.{ap, sym, ◌∙◌}
use Rattle.asn1_core.specs.Bits.{Bits, bits}
use Rattle.rcgen_certificate.specs.KeyUsages.{bit_of, is_listed, key_usage, named_bits, signs_lists}
use Rattle.rcgen_text.specs.declared.key_usage.KeyUsagePurpose.{KeyUsagePurpose}
use Rattle.rcgen_text.specs.declared.key_usage.KeyUsagePurpose.TheVariants as usage
use Rattle.rcgen_read.specs.ExtensionReading.{all_usages}
use Rattle.rcgen_read.specs.RequestLaws.{usages_in_order}
use Rattle.rcgen_read.proofs.Kept.{any_kept, not_empty, or_nothing, same_part, some_there}

-- those in order have bit i where the others do
abbrev both : List KeyUsagePurpose → ℕ → Bool
both us i = list_any (λ u. (bit_of u == i) && is_listed us (bit_of u)) all_usages

with_bit : (us : List KeyUsagePurpose) (i : ℕ) (b : Bool) → both us i ≡ b → is_listed (usages_in_order us) i ≡ b
with_bit us i b e = any_kept (λ u. is_listed us (bit_of u)) (λ u. bit_of u == i) all_usages ∙ e

same_bit : (us : List KeyUsagePurpose) (i : ℕ) → both us i ≡ (is_listed us i || false) → is_listed (usages_in_order us) i ≡ is_listed us i
same_bit us i e = with_bit us i (is_listed us i) (e ∙ or_nothing (is_listed us i))

abbrev flagged : Bool → Bool → Bool → Bool → Bool → Bool → Bool → Bool → ℕ
flagged a b c d e f g h = cond a 128 0 + cond b 64 0 + cond c 32 0 + cond d 16 0 + cond e 8 0 + cond f 4 0 + cond g 2 0 + cond h 1 0

abbrev with_ninth : Bool → ℕ → Bits
with_ninth i n = cond i (bits 7 (n ∷ 128 ∷ [])) (bits (trailing_zeros w8 n) (n ∷ []))

same_flags : (us vs : List KeyUsagePurpose) → is_listed vs 0 ≡ is_listed us 0 → is_listed vs 1 ≡ is_listed us 1 → is_listed vs 2 ≡ is_listed us 2
    → is_listed vs 3 ≡ is_listed us 3 → is_listed vs 4 ≡ is_listed us 4 → is_listed vs 5 ≡ is_listed us 5 → is_listed vs 6 ≡ is_listed us 6
    → is_listed vs 7 ≡ is_listed us 7 → is_listed vs 8 ≡ is_listed us 8 → named_bits vs ≡ named_bits us
same_flags us vs e0 e1 e2 e3 e4 e5 e6 e7 e8 = rw (e0, e1, e2, e3, e4, e5, e6, e7, e8) refl

-- the bits show neither the order of the usages nor how often each occurs
pub same_bits : (us : List KeyUsagePurpose) → named_bits (usages_in_order us) ≡ named_bits us
same_bits us =
    same_flags us (usages_in_order us) (same_bit us 0 refl) (same_bit us 1 refl) (same_bit us 2 refl) (same_bit us 3 refl) (same_bit us 4 refl)
    (same_bit us 5 refl) (same_bit us 6 refl) (same_bit us 7 refl) (same_bit us 8 refl)

some_listed : (u : KeyUsagePurpose) (us : List KeyUsagePurpose) → both (u ∷ us) (bit_of u) ≡ true
some_listed usage.DigitalSignature us = refl
some_listed usage.ContentCommitment us = refl
some_listed usage.KeyEncipherment us = refl
some_listed usage.DataEncipherment us = refl
some_listed usage.KeyAgreement us = refl
some_listed usage.KeyCertSign us = refl
some_listed usage.CrlSign us = refl
some_listed usage.EncipherOnly us = refl
some_listed usage.DecipherOnly us = refl

empty_together : (us : List KeyUsagePurpose) → (length (usages_in_order us) == 0) ≡ (length us == 0)
empty_together [] = refl
empty_together (u ∷ us) =
    some_there (λ v. bit_of v == bit_of u) (usages_in_order (u ∷ us)) (with_bit (u ∷ us) (bit_of u) true (some_listed u us)) ∙ sym (not_empty u us)

pub same_key_usage : (us vs : List KeyUsagePurpose) → vs ≡ usages_in_order us → key_usage vs ≡ key_usage us
same_key_usage us vs e =
    ap key_usage e ∙ same_part named_bits named_bits (usages_in_order us) us (empty_together us) (same_bits us)

-- they sign lists alike
pub same_signing : (us : List KeyUsagePurpose) → signs_lists (usages_in_order us) ≡ signs_lists us
same_signing us =
    ap (λ (b : Bool). b || is_listed (usages_in_order us) 6) (empty_together us) ∙ ap (λ (b : Bool). (length us == 0) || b) (same_bit us 6 refl)
