-- The extensions that are issued for what was read of a request.
use Rattle.std.specs.Prelude.{◌≡◌}
use Rattle.std.proofs.Common.{ap, ◌∙◌}
use Rattle.std.proofs.lemmas.List.{append-nil}
use Rattle.rcgen_sign.specs.Keys.{Key}
use Rattle.rcgen_certificate.specs.IssuedExtensions.{extension_rows}
use Rattle.rcgen_certificate.specs.Issuers.{IssuerView}
use Rattle.rcgen_certificate.specs.ParamsView.{ParamsView, params_view}
use Rattle.rcgen_certificate.specs.declared.params.CertificateParams.{CertificateParams}
use Rattle.rcgen_certificate.specs.Requests.{request_rows}
use Rattle.rcgen_read.specs.RequestLaws.{ExtensionsAreKept, answered, read_back, requested}
use Rattle.rcgen_read.specs.RequestLaws.{HasNoCustomExtension}
use Rattle.rcgen_read.specs.RequestReading.{AreParamsOf}
use Rattle.rcgen_read.proofs.KeptNames.{empty_together}
use Rattle.rcgen_read.proofs.KeptPurposes.{same_purposes}
use Rattle.rcgen_read.proofs.KeptUsages.{same_key_usage}

issued_are : (params : ParamsView) (key : Key) (issuer : IssuerView) (issued : CertificateParams)
    → AreParamsOf (read_back params key).name (read_back params key).asked issued → extension_rows (params_view issued) key issuer ≡ answered params key
issued_are params key issuer issued h =
    let v : ParamsView = params_view issued in
    ap (λ (w : ParamsView). extension_rows w key issuer) h.rest
    ∙ rw (
      h.distinguished_name,
      empty_together params.distinguished_name,
      h.subject_alt_names,
      same_key_usage params.key_usages v.key_usages h.key_usages,
      same_purposes params.extended_key_usages v.extended_key_usages h.extended_key_usages,
      h.is_ca,
    ) (simp append-nil)

pub requested_are : (params : ParamsView) → HasNoCustomExtension params → request_rows params ≡ requested params
requested_are params none = rw none (append-nil (requested params))

pub kept : (params : ParamsView) (key : Key) → HasNoCustomExtension params → ExtensionsAreKept params key
kept params key none = record { requested_rows = requested_are params none; issued_rows = issued_are params key }
