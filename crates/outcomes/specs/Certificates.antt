-- That the message of a certificate exists.
use Rattle.std.specs.Prelude.{◌≡◌, ℕ, ◌+◌, ◌<◌, ◌^◌, true, List, length, Ok}
use Rattle.std.specs.List.{list_all}
use Rattle.std.specs.Option.{option_map_or}
use Rattle.rcgen_certificate.specs.SubjectAltNames.{is_ascii_name}
use Rattle.rcgen_tbs.specs.declared.subject.Subject.{Subject}
use Rattle.rcgen_tbs.specs.declared.subject.Subject.TheVariants.{Known, Other}
use Rattle.shelf_job.specs.Asked.{CertificateAsked}
use Rattle.shelf_job.specs.Jobs.{IsMessage, ready}
use Rattle.shelf_job.specs.declared.job.Job.TheVariants as job
use Rattle.outcomes.specs.PartSizes.{info_size, name_size, params_size}
use Rattle.outcomes.specs.Sizes.{method_size}

abbrev pub subject_size : Subject → ℕ
subject_size (Known key) = length key.octets
subject_size (Other info) = info_size info

-- of a certificate
abbrev pub certificate_size : CertificateAsked → ℕ
certificate_size a =
    params_size a.params + method_size a.params.key_identifier_method + option_map_or length a.params.serial_number 0 + option_map_or name_size a.name 0
    + subject_size a.subject + option_map_or length a.issuer 0

-- a certificate against which there is nothing has a message to be signed, where what it asks for has fewer than 2^60 octets, and its mailboxes,
-- domain names and URIs are ASCII
abbrev pub CertificatesHaveMessages : Type 0
CertificatesHaveMessages =
    (a : CertificateAsked) → ready (job.Certificate a) ≡ Ok tt → list_all is_ascii_name a.params.subject_alt_names ≡ true → certificate_size a < 2 ^ 60
    → (message : List ℕ) × IsMessage (job.Certificate a) message
