-- The table that a TOML document is, read by its keys.
use Rattle.std.specs.Prelude.{ℕ, if◌then◌else◌, List, [], ◌∷◌, Option, None, Result}
use Rattle.std.specs.Option.{ok_or}
use Rattle.std.specs.Str.{is_utf8}
use Rattle.toml.specs.Data.{Members}
use Rattle.toml.specs.Parse.{parse_document}
use Rattle.toml_format.specs.Outcome.{and_then, reasons_in}
use Rattle.toml_format.specs.TableReading.{Reading, closed, closed_reasons}
use Rattle.toml_format.specs.Tables.{TableFormat}
use Rattle.toml_format.specs.declared.reason.Reason.{Reason}
use Rattle.toml_format.specs.declared.reason.Reason.TheVariants.{NotToml}

-- the table that the bytes write, where they are a document
unfoldable pub document_table : List ℕ → Option Members
document_table bytes = if is_utf8 bytes then parse_document bytes else None

-- what a document with these keys and no others represents, or the least reason against it
unfoldable pub document_of : {A : Type 0} → (Members → Reading A) → List ℕ → Result A Reason
document_of read bytes = and_then (ok_or (document_table bytes) NotToml) (λ table. closed (read table))

-- each reason that holds in some part of the document
unfoldable pub document_reasons : {A : Type 0} → TableFormat A → List ℕ → List Reason
document_reasons f bytes = reasons_in (document_table bytes) (NotToml ∷ []) (closed_reasons f.read f.reasons)
