-- What a request may decide: never that the subject is an authority.
use Rattle.std.specs.Prelude.{ℕ, Bool, false, true, List, [], ◌∷◌, codes, Option, Result, Ok}
use Rattle.std.specs.List.{list_any}
use Rattle.toml_format.specs.Tables.{TableFormat, no_keys, ◌&◌, defaulted, listed, fields, optional}
use Rattle.toml_format.specs.Subtree.{subtree}
use Rattle.toml_format.specs.Values.{array_of, boolean, text_as}
use Rattle.toml_format.specs.Words.{word_of}
use Rattle.toml_format.specs.declared.reason.Reason.{Reason}
use Rattle.toml_format.specs.declared.subtree.Subtree.{Subtree}
use Rattle.shelf_profile.specs.ExtensionId.{extension_id}
use Rattle.shelf_profile.specs.declared.request_use.RequestUse.{RequestUse}
use Rattle.shelf_profile.specs.declared.request_use.Take.{Take}
use Rattle.shelf_profile.specs.declared.request_use.Take.TheVariants.{AltNames, ExtendedKeyUsages, KeyId, Subject}

unfoldable pub take : List ℕ → Option Take
take =
    word_of
    ((codes "subject", Subject) ∷ (codes "alt_names", AltNames) ∷ (codes "extended_key_usages", ExtendedKeyUsages) ∷ (codes "key_id", KeyId) ∷ [])

abbrev pub is_subject : Take → Bool
is_subject Subject = true
is_subject AltNames = false
is_subject ExtendedKeyUsages = false
is_subject KeyId = false

abbrev pub is_names : Take → Bool
is_names Subject = false
is_names AltNames = true
is_names ExtendedKeyUsages = false
is_names KeyId = false

abbrev pub is_purposes : Take → Bool
is_purposes Subject = false
is_purposes AltNames = false
is_purposes ExtendedKeyUsages = true
is_purposes KeyId = false

abbrev pub is_key_id : Take → Bool
is_key_id Subject = false
is_key_id AltNames = false
is_key_id ExtendedKeyUsages = false
is_key_id KeyId = true

-- the values at the keys, in order
abbrev pub RequestUseValues : Type 0
RequestUseValues = (((Unit {0} × List Take) × Bool) × List (List ℕ)) × Option (List Subtree)

unfoldable pub request_use_of : RequestUseValues → Result RequestUse Reason
request_use_of ((((_, parts), is_unchecked), ignored_extensions), allowed) = Ok (record {
  takes_subject = list_any is_subject parts;
  takes_alt_names = list_any is_names parts;
  takes_purposes = list_any is_purposes parts;
  takes_key_id = list_any is_key_id parts;
  is_unchecked = is_unchecked;
  ignored_extensions = ignored_extensions;
  allowed = allowed;
})

unfoldable pub request_use_values : TableFormat RequestUseValues
request_use_values =
    no_keys
    & listed (codes "take") (text_as take)
    & defaulted (codes "unchecked_request") boolean false
    & listed (codes "ignored_extensions") (text_as extension_id)
    & optional (codes "allow") (array_of (text_as subtree))

abbrev pub request_use : TableFormat RequestUse
request_use = fields request_use_values request_use_of
