-- Files, and the blocks in them.
use Rattle.std.specs.Prelude.{ℕ, suc, List, [], ◌∷◌, ◌++◌, if◌then◌else◌, Result, Ok, Err}
use Rattle.pem.specs.Blocks.{blocks as text_blocks}
use Rattle.pem.specs.Encoding.{Encoding}
use Rattle.pem.specs.declared.error.Refusal.{Refusal}
use Rattle.shelf_fault.specs.Faults.{and_then}
use Rattle.shelf_fault.specs.declared.fault.Fault.{Fault}
use Rattle.shelf_fault.specs.declared.fault.Fault.TheVariants.{Blocks as BadText, NoBlockIn}
use Rattle.shelf_input.specs.DerFiles.{der_label, is_der}

abbrev pub in_text : Result (List Encoding) Refusal → Result (List Encoding) Fault
in_text (Ok es) = Ok es
in_text (Err refusal) = Err (BadText refusal)

-- DER is one block under its label
abbrev pub der_block : List ℕ → Result Encoding Fault
der_block file = Ok (record { label = der_label file; octets = file })

abbrev pub unless_none : ℕ → List Encoding → Result (List Encoding) Fault
unless_none number [] = Err (NoBlockIn number)
unless_none number (e ∷ es) = Ok (e ∷ es)

-- the blocks of a text (RFC 7468, 2), the file of this number
unfoldable pub some_blocks : ℕ → List ℕ → Result (List Encoding) Fault
some_blocks number text = and_then (in_text (text_blocks text)) (unless_none number)

-- the blocks of the file of this number, from 1: DER as it is, or PEM
unfoldable pub file_blocks : ℕ → List ℕ → Result (List Encoding) Fault
file_blocks number file = if is_der file then and_then (der_block file) (λ e. Ok (e ∷ [])) else some_blocks number file

-- those of files in their order, after so many others, whose blocks were these
abbrev pub files_blocks : ℕ → List Encoding → List (List ℕ) → Result (List Encoding) Fault
files_blocks count found [] = Ok found
files_blocks count found (file ∷ files) =
    and_then (file_blocks (suc count) file) (λ es. files_blocks (suc count) (found ++ es) files)
