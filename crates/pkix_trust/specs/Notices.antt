-- What is shown to a policy's user, a line for each field (RFC 5280, 4.2.1.4).
use Rattle.std.specs.Prelude.{◌≡◌, ◌⊎◌, ℕ, List, None, refl}
use Rattle.std.proofs.Common.{inl, inr}
use Rattle.asn1_core.specs.StringTypes.{utf8, ia5, visible, bmp}
use Rattle.der_tree.specs.CharacterStrings.{text}
use Rattle.der_tree.specs.Codec.{Codec, Struct}
use Rattle.der_tree.specs.Grammar.{as_choice, as_struct, either, optional, required, sequence, sequence_of, ◌&◌, ◌⊗◌}
use Rattle.der_tree.specs.PrimitiveTypes.{integer}
use Rattle.der_tree.specs.Tags.{universal}
use Rattle.pkix_trust.specs.declared.notice.UserNotice.{UserNotice}
use Rattle.pkix_trust.specs.declared.notice.NoticeReference.{NoticeReference}
use Rattle.pkix_trust.specs.declared.notice.DisplayText.{DisplayText}
use Rattle.pkix_trust.specs.declared.notice.DisplayText.TheVariants as display_text_kind

abbrev pub DisplayTextParts : Type 0
DisplayTextParts = List ℕ ⊎ (List ℕ ⊎ (List ℕ ⊎ List ℕ))

abbrev pub display_text_parts : DisplayText → DisplayTextParts
display_text_parts (display_text_kind.Ia5String v) = inl v
display_text_parts (display_text_kind.VisibleString v) = inr (inl v)
display_text_parts (display_text_kind.BmpString v) = inr (inr (inl v))
display_text_parts (display_text_kind.Utf8String v) = inr (inr (inr v))

abbrev pub display_text_of : DisplayTextParts → DisplayText
display_text_of (inl v) = display_text_kind.Ia5String v
display_text_of (inr (inl v)) = display_text_kind.VisibleString v
display_text_of (inr (inr (inl v))) = display_text_kind.BmpString v
display_text_of (inr (inr (inr v))) = display_text_kind.Utf8String v

pub display_text_there : (v : DisplayText) → display_text_of (display_text_parts v) ≡ v
display_text_there (display_text_kind.Ia5String v) = refl
display_text_there (display_text_kind.VisibleString v) = refl
display_text_there (display_text_kind.BmpString v) = refl
display_text_there (display_text_kind.Utf8String v) = refl

pub display_text_back : (p : DisplayTextParts) → display_text_parts (display_text_of p) ≡ p
display_text_back (inl v) = refl
display_text_back (inr (inl v)) = refl
display_text_back (inr (inr (inl v))) = refl
display_text_back (inr (inr (inr v))) = refl

abbrev pub display_text : Codec DisplayText
display_text = as_choice (either (text ia5)
    (either (text visible)
    (either (text bmp)
    (text utf8) refl) refl) refl) display_text_parts display_text_of display_text_there display_text_back

unfoldable pub notice_reference_fields : Struct NoticeReference
notice_reference_fields = as_struct (
    required display_text
    & required (sequence_of integer 0 None refl)
    ) refl
    (λ v. v.organisation ⊗ v.notice_numbers)
    (λ organisation notice_numbers. record { organisation = organisation; notice_numbers = notice_numbers }) (λ v. refl) (λ f. refl)

abbrev pub notice_reference : Codec NoticeReference
notice_reference = sequence (universal 16) notice_reference_fields

unfoldable pub user_notice_fields : Struct UserNotice
user_notice_fields = as_struct (
    optional notice_reference
    & optional display_text
    ) refl
    (λ v. v.notice_ref ⊗ v.explicit_text)
    (λ notice_ref explicit_text. record { notice_ref = notice_ref; explicit_text = explicit_text }) (λ v. refl) (λ f. refl)

abbrev pub user_notice : Codec UserNotice
user_notice = sequence (universal 16) user_notice_fields
