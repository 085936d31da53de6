-- Whom a certificate is for, a line for each field (RFC 5755, 4.3.2 and 7.2).
use Rattle.std.specs.Prelude.{◌≡◌, ◌⊎◌, refl}
use Rattle.std.proofs.Common.{inl, inr}
use Rattle.der_tree.specs.Codec.{Codec, Struct}
use Rattle.der_tree.specs.Grammar.{as_choice, as_struct, either, explicitly, implicitly, optional, required, sequence, ◌&◌, ◌⊗◌}
use Rattle.der_tree.specs.Tags.{context, universal}
use Rattle.pkix_name.specs.GeneralNames.{general_name}
use Rattle.pkix_name.specs.declared.general_name.GeneralName.{GeneralName}
use Rattle.pkix_attr.specs.Digests.{object_digest_info}
use Rattle.pkix_attr.specs.Holders.{issuer_serial}
use Rattle.pkix_attr.specs.declared.target.Target.{Target}
use Rattle.pkix_attr.specs.declared.target.TargetCert.{TargetCert}
use Rattle.pkix_attr.specs.declared.target.Target.TheVariants as target_kind

unfoldable pub target_cert_fields : Struct TargetCert
target_cert_fields = as_struct (
    required issuer_serial
    & optional general_name
    & optional object_digest_info
    ) refl
    (λ v. v.target_certificate ⊗ v.target_name ⊗ v.cert_digest_info)
    (λ target_certificate target_name cert_digest_info. record {
      target_certificate = target_certificate;
      target_name = target_name;
      cert_digest_info = cert_digest_info;
    })
    (λ v. refl) (λ f. refl)

abbrev pub target_cert : Codec TargetCert
target_cert = sequence (universal 16) target_cert_fields

abbrev pub target_parts : Target → GeneralName ⊎ (GeneralName ⊎ TargetCert)
target_parts (target_kind.Name v) = inl v
target_parts (target_kind.Group v) = inr (inl v)
target_parts (target_kind.Cert v) = inr (inr v)

abbrev pub target_of : GeneralName ⊎ (GeneralName ⊎ TargetCert) → Target
target_of (inl v) = target_kind.Name v
target_of (inr (inl v)) = target_kind.Group v
target_of (inr (inr v)) = target_kind.Cert v

pub target_there : (v : Target) → target_of (target_parts v) ≡ v
target_there (target_kind.Name v) = refl
target_there (target_kind.Group v) = refl
target_there (target_kind.Cert v) = refl

pub target_back : (p : GeneralName ⊎ (GeneralName ⊎ TargetCert)) → target_parts (target_of p) ≡ p
target_back (inl v) = refl
target_back (inr (inl v)) = refl
target_back (inr (inr v)) = refl

abbrev pub target : Codec Target
target = as_choice (either (explicitly (context 0) general_name)
    (either (explicitly (context 1) general_name) (implicitly (context 2) target_cert refl) refl) refl) target_parts target_of target_there target_back
