-- What is to be signed and what is issued are one string of octets each.
use Rattle.std.specs.Prelude.{◌≡◌, ℕ, List}
use Rattle.shelf_job.specs.Jobs.{IsMessage, IsSealed}
use Rattle.shelf_job.specs.declared.job.Job.{Job}

abbrev pub HasOneMessage : Type 0
HasOneMessage = (j : Job) (m n : List ℕ) → IsMessage j m → IsMessage j n → m ≡ n

-- with one signature
abbrev pub HasOneDer : Type 0
HasOneDer = (j : Job) (signature m n a b : List ℕ) → IsSealed j m signature a → IsSealed j n signature b → a ≡ b
