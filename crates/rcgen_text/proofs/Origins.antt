-- Where an error comes from.
use Rattle.std.proofs.Common.{◌≡◌, refl}
use Rattle.rcgen_text.specs.Causes.{memory, origin_of}
use Rattle.rcgen_text.specs.declared.error.Error.{Error}
use Rattle.rcgen_text.specs.declared.error.Error.TheVariants as error

-- an error whose origin is memory is `OutOfMemory`
pub memory_alone : (e : Error) → origin_of e ≡ memory → e ≡ error.OutOfMemory
memory_alone error.OutOfMemory h = refl
memory_alone e h = absurd cc
