-- That the message of a list exists.
use Rattle.std.specs.Prelude.{◌≡◌, ℕ, ◌<◌, ◌^◌, List, Ok}
use Rattle.shelf_job.specs.Asked.{ListAsked}
use Rattle.shelf_job.specs.Jobs.{IsMessage, ready}
use Rattle.shelf_job.specs.declared.job.Job.TheVariants as job
use Rattle.outcomes.specs.Sizes.{list_size}

-- a list against which there is nothing has a message to be signed, where what it asks for has fewer than 2^60 octets
abbrev pub ListsHaveMessages : Type 0
ListsHaveMessages = (a : ListAsked) → ready (job.List a) ≡ Ok tt → list_size a < 2 ^ 60 → (message : List ℕ) × IsMessage (job.List a) message
