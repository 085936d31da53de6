-- An issuer that was restored from its own certificate is the issuer that it was.
use Rattle.std.specs.Prelude.{◌≡◌, ◌⊎◌, ℕ, Bool, false, List, ◌++◌, Ok, nat_eq}
use Rattle.std.specs.Cmp.Lexicographic.{pointwise}
use Rattle.std.specs.List.{list_any}
use Rattle.der_tree.specs.Form.{IsDerOf}
use Rattle.pkix_cert.specs.Certificates.{certificate}
use Rattle.pkix_cert.specs.declared.certificate.Certificate.{Certificate}
use Rattle.rcgen_sign.specs.KeyIds.{by_sha256}
use Rattle.rcgen_sign.specs.Keys.{Key}
use Rattle.rcgen_certificate.specs.CustomExtensions.{Custom}
use Rattle.rcgen_certificate.specs.Issue.{IsIssued}
use Rattle.pkix_cert.specs.ExtensionIds.{ce_key_usage, ce_subject_key_identifier, id_ce}
use Rattle.rcgen_certificate.specs.Issuers.{IssuerView, issuer_view, own_view}
use Rattle.rcgen_certificate.specs.NameValues.{issuer_name, name_value}
use Rattle.rcgen_text.specs.declared.basic_constraints.IsCa.TheVariants.{NoCa}
use Rattle.rcgen_certificate.specs.ParamsView.{ParamsView}
use Rattle.rcgen_issue.specs.SameIssuers.{SignTheSame}
use Rattle.rcgen_read.specs.IssuerReading.{RestoredIssuer, read_issuer}
use Rattle.rcgen_read.specs.NamesReadBack.{HasDistinctOids}

-- one of the extensions that are given has the identifier
abbrev pub gives : List Custom → List ℕ → Bool
gives customs id = list_any (λ (c : Custom). pointwise nat_eq c.oid id) customs

-- The conditions under which an issuer is restored. The identifier of the key is in the certificate, or it is the one
-- that is made where none is there; no identifier occurs twice in the name; no other extension on key usage is given,
-- nor one with the identifier of the key where the certificate has none of its own.
pub record IsRestorable (params : ParamsView) : Type 0 where
  pub method : ¬ (params.is_ca ≡ NoCa) ⊎ (params.key_identifier_method ≡ by_sha256)
  pub name : HasDistinctOids (name_value params.distinguished_name)
  pub key_usage : gives params.custom_extensions (id_ce ce_key_usage) ≡ false
  pub key_id : params.is_ca ≡ NoCa → gives params.custom_extensions (id_ce ce_subject_key_identifier) ≡ false

-- what is read of a restored issuer, where it has this key
abbrev pub view_of_restored : RestoredIssuer → Key → IssuerView
view_of_restored r key = issuer_view (issuer_name r.name) r.method r.usages key

-- It has the view of the issuer of these parameters, both with this key: so both sign the same, and refuse for the same causes, whatever they are
-- to issue later.
pub record IsSameIssuer (params : ParamsView) (key : Key) (r : RestoredIssuer) : Type 0 where
  pub view : view_of_restored r key ≡ own_view params key
  pub signs : SignTheSame (own_view params key) (view_of_restored r key)

-- The certificate that any issuer issued for these parameters and a key, in its form, is read, whatever follows it, as that of the issuer of the
-- parameters.
abbrev pub IsRestored : ParamsView → Type 0
IsRestored params =
    IsRestorable params → (key : Key) (issuer : IssuerView) (c : Certificate) (der rest : List ℕ) → IsIssued params key issuer c → IsDerOf certificate c der
    → (r : RestoredIssuer) × (read_issuer (der ++ rest) ≡ Ok r) × IsSameIssuer params key r
