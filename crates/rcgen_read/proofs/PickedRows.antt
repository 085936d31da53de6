-- The rows of a table with an identifier, and the extensions that they are.
use Rattle.std.specs.Prelude.{◌≡◌, ℕ, Bool, true, false, cond, ◌==◌, nat_eq, List, [], ◌∷◌, ◌++◌, length, map, filter, Option, Some, None, refl}
use Rattle.std.specs.Cmp.Lexicographic.{pointwise}
use Rattle.std.proofs.Common.{ap, ◌∙◌}
use Rattle.std.proofs.lemmas.Bool.{or_parts}
use Rattle.std.proofs.lemmas.List.{append-nil}
use Rattle.std.proofs.lemmas.List.Elements.{filter-append}
use Rattle.rcgen_certificate.specs.KeyIdentifiers.{subject_key_row}
use Rattle.der_tree.specs.Codec.{Codec}
use Rattle.pkix_cert.specs.Held.{extensions_in}
use Rattle.pkix_cert.specs.declared.extension.Extension.{Extension}
use Rattle.pkix_cert.specs.declared.extension.Extensions.{Extensions}
use Rattle.rcgen_sign.specs.Keys.{Key}
use Rattle.rcgen_certificate.specs.CustomExtensions.{Custom, custom_row}
use Rattle.rcgen_certificate.specs.ExtensionRows.{ExtensionRow, IsField, extension_row, row_of_extension}
use Rattle.pkix_cert.specs.ExtensionIds.{ce_key_usage, ce_subject_key_identifier, id_ce}
use Rattle.rcgen_certificate.specs.IssuedExtensions.{extension_rows, subject_id}
use Rattle.rcgen_certificate.specs.Issuers.{IssuerView}
use Rattle.rcgen_certificate.specs.ParamsView.{ParamsView}
use Rattle.rcgen_read.specs.IssuerReading.{with_id}
use Rattle.rcgen_read.specs.RequestLaws.{usages_row}
use Rattle.rcgen_read.specs.RestoredIssuers.{gives}
use Rattle.rcgen_read.proofs.RequestAttributes.{no_rows, some_rows}

-- the extensions of the field are its rows
pub stated_are : (rows : List ExtensionRow) (field : Option Extensions) → IsField rows field → map row_of_extension (extensions_in field) ≡ rows
stated_are rows None is = no_rows rows (length rows == 0) refl is
stated_are rows (Some es) is = some_rows rows (map row_of_extension es.0) (length rows == 0) is

-- ---- those with an identifier

abbrev pub has_oid : List ℕ → ExtensionRow → Bool
has_oid id r = pointwise nat_eq r.oid id

abbrev pub rows_with : List ℕ → List ExtensionRow → List ExtensionRow
rows_with id rows = filter (has_oid id) rows

one_picked : (e : Extension) (es : List Extension) (b : Bool)
    → map row_of_extension (cond b (e ∷ es) es) ≡ cond b (row_of_extension e ∷ map row_of_extension es) (map row_of_extension es)
one_picked e es true = refl
one_picked e es false = refl

pub picked : (id : List ℕ) (es : List Extension) → map row_of_extension (with_id id es) ≡ rows_with id (map row_of_extension es)
picked id [] = refl
picked id (e ∷ es) =
    one_picked e (with_id id es) (pointwise nat_eq e.extn_id id)
    ∙ ap (λ (rs : List ExtensionRow). cond (pointwise nat_eq e.extn_id id) (row_of_extension e ∷ rs) rs) (picked id es)

either_way : {A : Type 0} (b : Bool) (x : A) → x ≡ cond b x x
either_way true x = refl
either_way false x = refl

-- a row is picked by its identifier
picked_row : {A : Type 0} (id oid : List ℕ) (critical : Bool) (c : Codec A) (o : Option A)
    → filter (has_oid id) (extension_row oid critical c o) ≡ cond (pointwise nat_eq oid id) (extension_row oid critical c o) []
picked_row id oid critical c None = either_way (pointwise nat_eq oid id) []
picked_row id oid critical c (Some v) = refl

pub not_given : (customs : List Custom) (id : List ℕ) → gives customs id ≡ false → rows_with id (map custom_row customs) ≡ []
not_given [] id h = refl
not_given (x ∷ xs) id h =
    let p = or_parts (pointwise nat_eq x.oid id) (gives xs id) h in
    rw p.0 (not_given xs id p.1)

-- ---- those of the table

abbrev pub key_id_row : ParamsView → Key → List ExtensionRow
key_id_row params key = subject_key_row params.is_ca (subject_id params key)

abbrev pub given_rows : ParamsView → List ExtensionRow
given_rows params = map custom_row params.custom_extensions

-- each row of another identifier falls away, as identifiers are compared
module _ (params : ParamsView) (key : Key) (issuer : IssuerView) where
  -- on key usage there is the table's own alone
  pub usage_rows : gives params.custom_extensions (id_ce ce_key_usage) ≡ false → rows_with (id_ce ce_key_usage) (extension_rows params key issuer) ≡ usages_row params
  usage_rows none = simp (filter-append, picked_row, not_given params.custom_extensions (id_ce ce_key_usage) none, append-nil)

  -- of the rows with the key's identifier, the table's own is the first
  pub key_id_rows : rows_with (id_ce ce_subject_key_identifier) (extension_rows params key issuer) ≡ key_id_row params key ++ rows_with (id_ce ce_subject_key_identifier) (given_rows params)
  key_id_rows = simp (filter-append, picked_row, append-nil)
