-- Times and validity (RFC 5280, 4.1.2.5).
use Rattle.std.specs.Prelude.{◌≡◌, ◌⊎◌, refl}
use Rattle.std.proofs.Common.{inl, inr}
use Rattle.asn1_core.specs.declared.time.utc_time.UtcTime.{UtcTime}
use Rattle.asn1_core.specs.declared.time.generalized_time.GeneralizedTime.{GeneralizedTime}
use Rattle.der_tree.specs.Codec.{Codec, Struct}
use Rattle.der_tree.specs.Grammar.{as_choice, as_struct, either, required, sequence, ◌&◌, ◌⊗◌}
use Rattle.der_tree.specs.PrimitiveTypes.{generalized_time, utc_time}
use Rattle.der_tree.specs.Tags.{universal}
use Rattle.pkix_cert.specs.declared.time.Time.{Time}
use Rattle.pkix_cert.specs.declared.time.Time.TheVariants.{Utc, General}
use Rattle.jiff.specs.Types.{DateTime}
use Rattle.pkix_cert.specs.declared.time.Validity.{Validity}

-- the civil time in UTC
abbrev pub moment_of : Time → DateTime
moment_of (Utc t) = t.at
moment_of (General t) = t.at

abbrev pub time_parts : Time → UtcTime ⊎ GeneralizedTime
time_parts (Utc v) = inl v
time_parts (General v) = inr v

abbrev pub time_of : UtcTime ⊎ GeneralizedTime → Time
time_of (inl v) = Utc v
time_of (inr v) = General v

pub time_there : (v : Time) → time_of (time_parts v) ≡ v
time_there (Utc v) = refl
time_there (General v) = refl

pub time_back : (p : UtcTime ⊎ GeneralizedTime) → time_parts (time_of p) ≡ p
time_back (inl v) = refl
time_back (inr v) = refl

abbrev pub time : Codec Time
time = as_choice (either utc_time generalized_time refl) time_parts time_of time_there time_back

unfoldable pub validity_fields : Struct Validity
validity_fields = as_struct (
    required time
    & required time
    ) refl
    (λ v. v.not_before ⊗ v.not_after)
    (λ not_before not_after. record { not_before = not_before; not_after = not_after }) (λ v. refl) (λ f. refl)

abbrev pub validity : Codec Validity
validity = sequence (universal 16) validity_fields
