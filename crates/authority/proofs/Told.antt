-- Lack of memory, as an authority reports it.
use Rattle.std.specs.Prelude.{◌≡◌, Result, Ok, Err, IfErr, IsErrAnd, refl}
use Rattle.std.proofs.Common.{ap}
use Rattle.rcgen_text.specs.Causes.{origin_of}
use Rattle.rcgen_text.specs.declared.error.Error.{Error}
use Rattle.rcgen_text.specs.declared.error.Error.TheVariants.{OutOfMemory as NoMemory}
use Rattle.authority.specs.Book.{IsToldAs}
use Rattle.authority.specs.declared.commands.AuthorityError.{AuthorityError}
use Rattle.authority.specs.declared.commands.AuthorityError.TheVariants as failure

told : (e : Error) (t : AuthorityError) → e ≡ NoMemory → IsToldAs e t → t ≡ failure.OutOfMemory
told e failure.Full memory is = absurd is
told e failure.UnknownSerial memory is = absurd is
told e failure.AlreadyRevoked memory is = absurd is
told e (failure.Refused r) memory is = absurd (is.1 (ap origin_of memory))
told e failure.OutOfMemory memory is = refl

pub memory_told : {T : Type 0} (e : Error) (r : Result T AuthorityError) → e ≡ NoMemory → IsErrAnd r (IsToldAs e)
    → IfErr r (λ t. t ≡ failure.OutOfMemory)
memory_told e (Ok x) memory is = tt
memory_told e (Err t) memory is = told e t memory is
