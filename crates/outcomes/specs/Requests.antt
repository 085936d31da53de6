-- That the message of a request exists.
use Rattle.std.specs.Prelude.{◌≡◌, ℕ, ◌+◌, ◌<◌, ◌^◌, true, List, length, Ok}
use Rattle.std.specs.List.{list_all}
use Rattle.std.specs.Option.{option_map_or}
use Rattle.rcgen_certificate.specs.SubjectAltNames.{is_ascii_name}
use Rattle.shelf_job.specs.Asked.{RequestAsked}
use Rattle.shelf_job.specs.Jobs.{IsMessage, ready}
use Rattle.shelf_job.specs.declared.job.Job.TheVariants as job
use Rattle.outcomes.specs.PartSizes.{name_size, params_size}

-- of a request
abbrev pub request_size : RequestAsked → ℕ
request_size a = params_size a.params + length a.key.octets + option_map_or name_size a.name 0

-- a request against which there is nothing has a message to be signed, where what it asks for has fewer than 2^60 octets, and its mailboxes, domain
-- names and URIs are ASCII
abbrev pub RequestsHaveMessages : Type 0
RequestsHaveMessages =
    (a : RequestAsked) → ready (job.Request a) ≡ Ok tt → list_all is_ascii_name a.params.subject_alt_names ≡ true → request_size a < 2 ^ 60
    → (message : List ℕ) × IsMessage (job.Request a) message
