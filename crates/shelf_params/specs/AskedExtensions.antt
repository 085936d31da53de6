-- The extensions that a request asks for.
use Rattle.std.specs.Prelude.{ℕ, Bool, false, ◌&&◌, ◌||◌, ◌==◌, not, cond, length, List, [], ◌∷◌, Option, Some, None, Result, Ok, Err, filter, find, nat_eq}
use Rattle.std.specs.Cmp.Lexicographic.{pointwise}
use Rattle.std.specs.List.{list_any}
use Rattle.asn1_core.specs.Binds.{◌>>=◌}
use Rattle.der_tree.specs.Form.{value_of}
use Rattle.der_tree.specs.PrimitiveTypes.{octet_string}
use Rattle.extension_lookup.specs.Lookup.{are_distinct, extension_ids}
use Rattle.pkix_cert.specs.ExtensionIds.{ce_basic_constraints, ce_ext_key_usage, ce_key_usage, ce_subject_alt_name, ce_subject_key_identifier, id_ce}
use Rattle.pkix_cert.specs.declared.extension.Extension.{Extension}
use Rattle.pkix_name.specs.declared.name.Attribute.{Attribute}
use Rattle.rcgen_read.specs.ReceivedRequests.{is_extension_request, requested_extensions}
use Rattle.shelf_fault.specs.Faults.{and_then, some_or}
use Rattle.shelf_fault.specs.declared.fault.Fault.{Fault}
use Rattle.shelf_fault.specs.declared.fault.Fault.TheVariants.{Obstacle, RequestAttributes, RequestExtension, RequestKeyId, RequestRepeats}
use Rattle.shelf_fault.specs.declared.fault.Obstacle.TheVariants.{RequestNotRead as NotRead}
use Rattle.shelf_keys.specs.Refusing.{refuse}

-- ---- where they are

-- Microsoft's attribute for the same
abbrev pub is_of_microsoft : Attribute → Bool
is_of_microsoft a = pointwise nat_eq a.attr_type (1 ∷ 3 ∷ 6 ∷ 1 ∷ 4 ∷ 1 ∷ 311 ∷ 2 ∷ 1 ∷ 14 ∷ [])

-- two attributes are extensionRequest
abbrev pub asks_twice : List Attribute → Bool
asks_twice [] = false
asks_twice (a ∷ rest) = cond (is_extension_request a) (list_any is_extension_request rest) (asks_twice rest)

-- extensions are asked for in one attribute at most (RFC 2986, 4.1: a set has no type twice), and that is the one of RFC 2985, 5.4.2
unfoldable pub asked_once : List Attribute → Result (Unit {0}) Fault
asked_once attributes = refuse (list_any is_of_microsoft attributes || asks_twice attributes) RequestAttributes

-- ---- how often

-- each occurs once (RFC 5280, 4.2)
unfoldable pub each_once : List Extension → Result (Unit {0}) Fault
each_once extensions = refuse (not (are_distinct (extension_ids extensions))) RequestRepeats

-- ---- the identifier of the key

abbrev pub is_key_id : Extension → Bool
is_key_id e = pointwise nat_eq e.extn_id (id_ce ce_subject_key_identifier)

-- octets, where there are some
abbrev pub some_octets : List ℕ → Option (List ℕ)
some_octets octets = cond (length octets == 0) None (Some octets)

-- the identifier in these contents (RFC 5280, 4.2.1.2)
unfoldable pub key_id_at : List ℕ → Option (List ℕ)
key_id_at contents = value_of octet_string contents >>= some_octets

abbrev pub key_id_of : Option Extension → Option (List ℕ)
key_id_of None = None
key_id_of (Some e) = key_id_at e.extn_value

abbrev pub key_id_in : Option (List Extension) → Option (List ℕ)
key_id_in None = None
key_id_in (Some extensions) = key_id_of (find is_key_id extensions)

-- the identifier that is asked for
unfoldable pub asked_key_id : List Attribute → Result (List ℕ) Fault
asked_key_id attributes = some_or (key_id_in (requested_extensions attributes)) RequestKeyId

-- ---- those that are known

-- one of those that may be asked for (RFC 5280, 4.2.1.3, 4.2.1.6, 4.2.1.9 and 4.2.1.12)
abbrev pub is_known : List ℕ → Bool
is_known id =
    pointwise nat_eq id (id_ce ce_key_usage)
    || pointwise nat_eq id (id_ce ce_subject_alt_name)
    || pointwise nat_eq id (id_ce ce_basic_constraints)
    || pointwise nat_eq id (id_ce ce_ext_key_usage)

abbrev pub is_unknown : Extension → Bool
is_unknown e = not (is_known e.extn_id)

abbrev pub refused_extension : Option Extension → Result (Unit {0}) Fault
refused_extension None = Ok tt
refused_extension (Some e) = Err (RequestExtension e.extn_id)

-- each of them is known; the first that isn't is named
unfoldable pub known_extensions : List Extension → Result (Unit {0}) Fault
known_extensions extensions = refused_extension (find is_unknown extensions)

-- ---- those that are looked at

-- an extension with one of these identifiers is ignored, and with `skips` the key identifier too
abbrev pub is_ignored : List (List ℕ) → List ℕ → Bool
is_ignored ignored id = list_any (λ other. pointwise nat_eq other id) ignored

abbrev pub is_passed_over : Bool → List (List ℕ) → Extension → Bool
is_passed_over skips ignored e = (skips && is_key_id e) || is_ignored ignored e.extn_id

abbrev pub without_ignored : Bool → List (List ℕ) → List Extension → List Extension
without_ignored skips ignored extensions = filter (λ e. not (is_passed_over skips ignored e)) extensions

-- those that are asked for (RFC 2985, 5.4.2)
unfoldable pub read_extensions : List Attribute → Result (List Extension) Fault
read_extensions attributes = some_or (requested_extensions attributes) (Obstacle NotRead)

-- those that are looked at, of which none occurs twice
unfoldable pub looked_at : Bool → List (List ℕ) → List Attribute → Result (List Extension) Fault
looked_at skips ignored attributes =
    and_then (read_extensions attributes) (λ extensions.
    and_then (each_once extensions) (λ u.
    Ok (without_ignored skips ignored extensions)))

-- the same, where each is known
unfoldable pub asked_extensions : Bool → List (List ℕ) → List Attribute → Result (List Extension) Fault
asked_extensions skips ignored attributes =
    and_then (asked_once attributes) (λ u.
    and_then (looked_at skips ignored attributes) (λ extensions.
    and_then (known_extensions extensions) (λ u. Ok extensions)))
