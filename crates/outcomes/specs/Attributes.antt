-- That the message of an attribute certificate exists.
use Rattle.std.specs.Prelude.{◌≡◌, ℕ, ◌+◌, ◌*◌, ◌<◌, ◌^◌, List, length, Ok}
use Rattle.std.specs.List.{sum_by}
use Rattle.rcgen_certificate.specs.NameValues.{name_value}
use Rattle.rcgen_certificate.specs.Requests.{Given}
use Rattle.shelf_job.specs.Asked.{AttributeAsked}
use Rattle.shelf_job.specs.Jobs.{IsMessage, ready}
use Rattle.shelf_job.specs.declared.job.Job.TheVariants as job
use Rattle.outcomes.specs.PartSizes.{name_size}

-- of an attribute that is given
abbrev pub given_size : Given → ℕ
given_size a = 60 + 10 * length a.oid + length a.values

-- of an attribute certificate
abbrev pub attribute_certificate_size : AttributeAsked → ℕ
attribute_certificate_size a =
    name_size (name_value a.params.holder_issuer) + length a.params.holder_serial + length a.params.serial_number + sum_by given_size a.params.attributes
    + length a.issuer

-- an attribute certificate against which there is nothing has a message to be signed, where what it asks for has fewer than 2^60 octets
abbrev pub AttributeCertificatesHaveMessages : Type 0
AttributeCertificatesHaveMessages =
    (a : AttributeAsked) → ready (job.Attribute a) ≡ Ok tt → attribute_certificate_size a < 2 ^ 60
    → (message : List ℕ) × IsMessage (job.Attribute a) message
