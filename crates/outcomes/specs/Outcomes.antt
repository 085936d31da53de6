-- That there is exactly one message to be signed for an order against which there is nothing, and exactly one result of each signature.
use Rattle.std.specs.Prelude.{◌≡◌, ℕ, ◌+◌, ◌<◌, ◌^◌, Bool, true, nat_lt, List, length, Ok}
use Rattle.std.specs.List.{list_all}
use Rattle.rcgen_certificate.specs.SubjectAltNames.{is_ascii_name}
use Rattle.shelf_job.specs.Jobs.{IsMessage, IsSealed, IsSealedWith, key_of, ready}
use Rattle.shelf_job.specs.declared.job.Job.{Job}
use Rattle.shelf_job.specs.declared.job.Job.TheVariants as job
use Rattle.shelf_keys.specs.Signatures.{checked}
use Rattle.outcomes.specs.Attributes.{attribute_certificate_size}
use Rattle.outcomes.specs.Certificates.{certificate_size}
use Rattle.outcomes.specs.Requests.{request_size}
use Rattle.outcomes.specs.Sizes.{list_size}

-- of what a job asks for
abbrev pub job_size : Job → ℕ
job_size (job.Certificate a) = certificate_size a
job_size (job.Request a) = request_size a
job_size (job.List a) = list_size a
job_size (job.Attribute a) = attribute_certificate_size a

-- each mailbox, domain name and URI among the subject's alternative names is ASCII
abbrev pub has_ascii_names : Job → Bool
has_ascii_names (job.Certificate a) = list_all is_ascii_name a.params.subject_alt_names
has_ascii_names (job.Request a) = list_all is_ascii_name a.params.subject_alt_names
has_ascii_names (job.List a) = true
has_ascii_names (job.Attribute a) = true

-- ---- what is to be signed

pub record ComesToOneMessage (j : Job) : Type 0 where
  pub message : List ℕ
  pub is_message : IsMessage j message
  pub no_other : (other : List ℕ) → IsMessage j other → other ≡ message

-- where nothing is against the job, and it is within the bounds
abbrev pub EachJobHasOneMessage : Type 0
EachJobHasOneMessage = (j : Job) → ready j ≡ Ok tt → has_ascii_names j ≡ true → job_size j < 2 ^ 60 → ComesToOneMessage j

-- ---- what is issued over it

abbrev pub is_octet : ℕ → Bool
is_octet b = nat_lt b 256

abbrev pub are_octets : List ℕ → Bool
are_octets bs = list_all is_octet bs

pub record ComesToOneResult (j : Job) (message signature : List ℕ) : Type 0 where
  pub der : List ℕ
  pub sealed : IsSealed j message signature der
  pub no_other : (another other : List ℕ) → IsSealed j another signature other → other ≡ der
  pub octets : are_octets message ≡ true → are_octets signature ≡ true → are_octets der ≡ true
  -- it is what `seal` writes, where nothing is against the job and the signature is taken
  pub taken : ready j ≡ Ok tt → checked (key_of j) message signature ≡ Ok tt → IsSealedWith j message signature der

-- of each message and each signature that have fewer than 2^60 octets together
abbrev pub EachSignatureHasOneResult : Type 0
EachSignatureHasOneResult =
    (j : Job) (message signature : List ℕ) → IsMessage j message → length message + length signature < 2 ^ 60 → ComesToOneResult j message signature
