-- The file that a signing key's answer is in.
use Rattle.std.specs.Prelude.{◌≡◌, ℕ, Bool, not, filter, cond, List, [], ◌∷◌, codes, Option, Some, None, Result, Ok, Err, IsErr}
use Rattle.std.specs.Str.{bytes_eq}
use Rattle.base64.specs.Engines.{standard}
use Rattle.base64.specs.GeneralPurpose.{decode_of}
use Rattle.base64.specs.declared.decode.DecodeError.{DecodeError}
use Rattle.pem.specs.Abnf.{is_white}
use Rattle.pem.specs.Blocks.{blocks as text_blocks}
use Rattle.pem.specs.Encoding.{Encoding}
use Rattle.shelf_fault.specs.Faults.{and_then}
use Rattle.shelf_fault.specs.declared.fault.Fault.{Fault}
use Rattle.shelf_fault.specs.declared.fault.Fault.TheVariants.{Signature}
use Rattle.shelf_fault.specs.declared.fault.SignatureFault.TheVariants.{OtherBlock}
use Rattle.shelf_input.specs.Files.{in_text}

abbrev pub without_white : List ℕ → List ℕ
without_white text = filter (λ b. not (is_white b)) text

-- what is found of base64: its octets, or none where it isn't base64
abbrev pub IsDecoded : Result (List ℕ) DecodeError → Option (List ℕ) → Type 0
IsDecoded r (Some octets) = r ≡ Ok octets
IsDecoded r None = IsErr r

abbrev pub decoded_or : Result (List ℕ) DecodeError → List ℕ → List ℕ
decoded_or (Ok octets) text = octets
decoded_or (Err e) text = text

-- the octets of which a text is base64 (RFC 4648, 4), white space aside, and else the text as it is: the DER of ECDSA's signatures begins
-- with octets that base64 lacks, and that 64 octets or more have no other is as good as never so
unfoldable pub unblocked : List ℕ → List ℕ
unblocked text = decoded_or (decode_of standard (without_white text)) text

abbrev pub if_signature : Bool → List ℕ → Result (List ℕ) Fault
if_signature is octets = cond is (Ok octets) (Err (Signature OtherBlock))

-- the octets of the one block, whose label is SIGNATURE
abbrev pub in_block : List Encoding → Result (List ℕ) Fault
in_block [] = Err (Signature OtherBlock)
in_block (e ∷ []) = if_signature (bytes_eq e.label (codes "SIGNATURE")) e.octets
in_block (e ∷ f ∷ more) = Err (Signature OtherBlock)

abbrev pub of_blocks : List Encoding → List ℕ → Result (List ℕ) Fault
of_blocks [] file = Ok (unblocked file)
of_blocks (e ∷ es) file = in_block (e ∷ es)

-- the signature of a file
unfoldable pub signature_in : List ℕ → Result (List ℕ) Fault
signature_in file = and_then (in_text (text_blocks file)) (λ es. of_blocks es file)
