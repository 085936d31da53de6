-- The certificate that arguments name: by its serial number, or by a file.
use Rattle.std.specs.Prelude.{◌≡◌, ℕ, Bool, List, Option, Some, None, Result, Ok, Err}
use Rattle.register_record.specs.declared.state.Certificate.{Certificate}
use Rattle.register_record.specs.declared.state.Content.TheVariants.{Sealed}
use Rattle.shelf_fault.specs.declared.fault.Fault.{Fault}
use Rattle.shelf_input.specs.Blocks.{blocks_in}
use Rattle.shelf_input.specs.declared.blocks.Blocks.{Blocks}
use Rattle.shelf_register.specs.Importing.{is_sealed_as}
use Rattle.shelf_register.specs.Options.{IsNumber}

-- the block CERTIFICATE of files
abbrev pub certificate_of : Result Blocks Fault → Option (List ℕ)
certificate_of (Ok b) = b.certificate
certificate_of (Err why) = None

abbrev pub has_octets : List ℕ → Certificate → Bool
has_octets octets c = is_sealed_as octets (Some c.content)

-- the certificate was issued with the octets that the files have
pub record IsOfFiles (files : List (List ℕ)) (c : Certificate) : Type 0 where
  pub octets : List ℕ
  pub read : certificate_of (blocks_in files) ≡ Some octets
  pub issued : c.content ≡ Sealed octets

-- with a serial number it is that of the certificate
abbrev pub IsNamed : Option (List ℕ) → List (List ℕ) → Certificate → Type 0
IsNamed (Some text) files c = IsNumber text c.serial
IsNamed None files c = IsOfFiles files c
