-- Each job has one message.
use Rattle.std.specs.Prelude.{ℕ, List}
use Rattle.shelf_job.specs.Jobs.{IsMessage}
use Rattle.shelf_job.specs.Once.{HasOneMessage as IsOnce}
use Rattle.shelf_job.specs.declared.job.Job.{Job}
use Rattle.shelf_job.specs.declared.job.Job.TheVariants as job
use Rattle.outcomes.specs.Attributes.{AttributeCertificatesHaveMessages}
use Rattle.outcomes.specs.Certificates.{CertificatesHaveMessages}
use Rattle.outcomes.specs.Lists.{ListsHaveMessages}
use Rattle.outcomes.specs.Outcomes.{EachJobHasOneMessage, ComesToOneMessage}
use Rattle.outcomes.specs.Requests.{RequestsHaveMessages}

only : IsOnce → (j : Job) → (message : List ℕ) × IsMessage j message → ComesToOneMessage j
only once j m = record { message = m.0; is_message = m.1; no_other = λ n h. once j n m.0 h m.1 }

pub one_each : IsOnce → CertificatesHaveMessages → RequestsHaveMessages → ListsHaveMessages → AttributeCertificatesHaveMessages → EachJobHasOneMessage
one_each once certificate request list attribute (job.Certificate a) r ascii l = only once (job.Certificate a) (certificate a r ascii l)
one_each once certificate request list attribute (job.Request a) r ascii l = only once (job.Request a) (request a r ascii l)
one_each once certificate request list attribute (job.List a) r ascii l = only once (job.List a) (list a r l)
one_each once certificate request list attribute (job.Attribute a) r ascii l = only once (job.Attribute a) (attribute a r l)
