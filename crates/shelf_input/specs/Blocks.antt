-- The blocks that an order uses, each label at most once.
use Rattle.std.specs.Prelude.{ℕ, suc, List, [], ◌∷◌, codes, Option, Some, None, Result, Ok, Err}
use Rattle.pem.specs.Encoding.{Encoding}
use Rattle.toml_format.specs.Words.{word_of}
use Rattle.shelf_fault.specs.Faults.{and_then, some_or}
use Rattle.shelf_fault.specs.declared.fault.Fault.{Fault}
use Rattle.shelf_fault.specs.declared.fault.Fault.TheVariants.{OtherLabel, Repeated}
use Rattle.shelf_fault.specs.declared.fault.Label.{Label}
use Rattle.shelf_fault.specs.declared.fault.Label.TheVariants.{PublicKey, Request, Certificate}
use Rattle.shelf_input.specs.Files.{files_blocks}
use Rattle.shelf_input.specs.declared.blocks.Blocks.{Blocks}

-- what a block is, by its label (RFC 7468, 5, 7 and 13; 7 lets NEW CERTIFICATE REQUEST be taken as CERTIFICATE REQUEST)
unfoldable pub label_of : List ℕ → Option Label
label_of = word_of (
    (codes "PUBLIC KEY", PublicKey)
    ∷ (codes "CERTIFICATE REQUEST", Request)
    ∷ (codes "NEW CERTIFICATE REQUEST", Request)
    ∷ (codes "CERTIFICATE", Certificate)
    ∷ [])

-- where no octets were, there are those of the block now
abbrev pub filled : Option (List ℕ) → Label → List ℕ → Result (Option (List ℕ)) Fault
filled None label octets = Ok (Some octets)
filled (Some before) label octets = Err (Repeated label)

abbrev pub with_block : Blocks → Label → List ℕ → Result Blocks Fault
with_block b PublicKey octets = and_then (filled b.public_key PublicKey octets) (λ o. Ok (record (b) { public_key = o }))
with_block b Request octets = and_then (filled b.request Request octets) (λ o. Ok (record (b) { request = o }))
with_block b Certificate octets = and_then (filled b.certificate Certificate octets) (λ o. Ok (record (b) { certificate = o }))

-- with one more block, whose number this is
unfoldable pub with_next : ℕ → Blocks → Encoding → Result Blocks Fault
with_next number b e = and_then (some_or (label_of e.label) (OtherLabel number)) (λ label. with_block b label e.octets)

-- with these blocks in their order, after so many others
abbrev pub with_all : ℕ → Blocks → List Encoding → Result Blocks Fault
with_all count b [] = Ok b
with_all count b (e ∷ es) = and_then (with_next (suc count) b e) (λ next. with_all (suc count) next es)

abbrev pub no_blocks : Blocks
no_blocks = record { public_key = None; request = None; certificate = None }

-- the blocks of files in their order
unfoldable pub blocks_in : List (List ℕ) → Result Blocks Fault
blocks_in files = and_then (files_blocks 0 [] files) (with_all 0 no_blocks)
