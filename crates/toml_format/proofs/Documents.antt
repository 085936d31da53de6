-- What the table of a document shows.
use Rattle.std.proofs.Common.{◌≡◌, ℕ, List, Bool, true, false, cond, Option, Some, None, Result, Err, refl, ap, sym, ◌∙◌}
use Rattle.std.specs.Option.{ok_or}
use Rattle.std.specs.Result.{result_err}
use Rattle.std.specs.Str.{IsUtf8, is_utf8}
use Rattle.std.proofs.lemmas.Str.{IsUtf8-from_is_utf8, is_utf8-from_IsUtf8}
use Rattle.toml.specs.Data.{Members}
use Rattle.toml.specs.Parse.{parse_document}
use Rattle.toml_format.specs.Document.{document_table, document_of, document_reasons}
use Rattle.toml_format.specs.Outcome.{and_then, IsLeast, TellsLeast}
use Rattle.toml_format.specs.TableReading.{Reading, closed, closed_reasons}
use Rattle.toml_format.specs.Tables.{TableFormat}
use Rattle.toml_format.specs.declared.reason.Reason.{Reason}
use Rattle.toml_format.specs.declared.reason.Reason.TheVariants.{NotToml}
use Rattle.toml_format.specs.laws.LeastReasons.{tells_in}
use Rattle.toml_format.specs.laws.Tables.{closed_tells}
use Rattle.toml_format.proofs.Least.{is_least}

-- what a table represents, where there is one
abbrev from_table : {A : Type 0} → (Members → Reading A) → Option Members → Result A Reason
from_table read o = and_then (ok_or o NotToml) (λ table. closed (read table))

table_of-parsed : (bytes : List ℕ) (table : Members) → IsUtf8 bytes → parse_document bytes ≡ Some table → document_table bytes ≡ Some table
unfolding document_table
table_of-parsed bytes table u e = rw (is_utf8-from_IsUtf8 bytes u) e

none_unless : (b : Bool) (o : Option Members) → (b ≡ true → o ≡ None) → cond b o None ≡ None
none_unless true o h = h refl
none_unless false o h = refl

table_of-refused : (bytes : List ℕ) → (IsUtf8 bytes → parse_document bytes ≡ None) → document_table bytes ≡ None
unfolding document_table
table_of-refused bytes h = none_unless (is_utf8 bytes) _ (λ t. h (IsUtf8-from_is_utf8 bytes t))

-- what was read of the table of a document
pub document_of-read : {A : Type 0} (read : Members → Reading A) (bytes : List ℕ) (table : Members) (r : Reading A) (x : Result A Reason)
    → x ≡ closed r → r ≡ read table → IsUtf8 bytes → parse_document bytes ≡ Some table → x ≡ document_of read bytes
unfolding document_of
document_of-read read bytes table r x e s u p = e ∙ ap closed s ∙ sym (ap (from_table read) (table_of-parsed bytes table u p))

pub document_of-refused : {A : Type 0} (read : Members → Reading A) (bytes : List ℕ)
    → (IsUtf8 bytes → parse_document bytes ≡ None) → Err NotToml ≡ document_of read bytes
unfolding document_of
document_of-refused read bytes h = sym (ap (from_table read) (table_of-refused bytes h))

document_tells : {A : Type 0} (f : TableFormat A) (bytes : List ℕ) → TellsLeast (document_of f.read bytes) (document_reasons f bytes)
unfolding document_of document_reasons
document_tells f bytes = tells_in (document_table bytes) NotToml (λ table. closed (f.read table))
    (closed_reasons f.read f.reasons) (closed_tells f.read f.reasons f.tells)

-- the reason against a document is the least that holds in it
pub read_least : {A : Type 0} (f : TableFormat A) (bytes : List ℕ) (x : Result A Reason)
    → x ≡ document_of f.read bytes → IsLeast x (document_reasons f bytes)
read_least {A} f bytes x e = is_least x (document_reasons f bytes) (ap (λ (r : Result A Reason). result_err r) e ∙ document_tells f bytes)
