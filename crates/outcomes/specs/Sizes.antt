-- How large what an order asks for is: the octets of its texts, with room for the headers around them.
use Rattle.std.specs.Prelude.{ℕ, ◌+◌, ◌*◌, List, length, Option, Some, None}
use Rattle.std.specs.List.{sum_by}
use Rattle.std.specs.Option.{option_map_or}
use Rattle.rcgen_issue.specs.CrlView.{RevokedView}
use Rattle.rcgen_sign.specs.KeyIds.{Method, by_sha256, by_sha384, by_sha512, pre_specified}
use Rattle.rcgen_text.specs.declared.crl_scope.CrlScope.{CrlScope}
use Rattle.shelf_job.specs.Asked.{ListAsked}

-- of the identifier of a key that the method makes
abbrev pub method_size : Method → ℕ
method_size by_sha256 = 20
method_size by_sha384 = 20
method_size by_sha512 = 20
method_size (pre_specified id) = length id

abbrev pub uri_size : List ℕ → ℕ
uri_size uri = 40 + length uri

abbrev pub point_size : Option (List (List ℕ) × Option CrlScope) → ℕ
point_size None = 0
point_size (Some p) = sum_by uri_size p.0

abbrev pub entry_size : RevokedView → ℕ
entry_size e = 1000 + length e.serial_number

-- of a list
abbrev pub list_size : ListAsked → ℕ
list_size a =
    2000 + 2 * length a.issuer + option_map_or method_size a.params.key_identifier_method 0 + length a.params.crl_number
    + option_map_or length a.base 0 + point_size a.params.issuing_distribution_point + sum_by entry_size a.params.revoked_certs
