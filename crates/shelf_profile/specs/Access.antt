-- Where more is found about the issuer (RFC 5280, 4.2.2.1), and its policies (4.2.1.4).
use Rattle.std.specs.Prelude.{ℕ, List, codes, Result, Ok}
use Rattle.toml_format.specs.Arcs.{arcs}
use Rattle.toml_format.specs.Tables.{TableFormat, no_keys, ◌&◌, listed, fields}
use Rattle.toml_format.specs.Values.{text, text_as}
use Rattle.toml_format.specs.declared.reason.Reason.{Reason}
use Rattle.shelf_profile.specs.declared.access.Access.{Access}

-- the values at the keys, in order
abbrev pub AccessValues : Type 0
AccessValues = ((Unit {0} × List (List ℕ)) × List (List ℕ)) × List (List ℕ)

unfoldable pub access_of : AccessValues → Result Access Reason
access_of (((_, ocsp), ca_issuers), policies) = Ok (record { ocsp = ocsp; ca_issuers = ca_issuers; policies = policies })

unfoldable pub access_values : TableFormat AccessValues
access_values =
    no_keys
    & listed (codes "ocsp") text
    & listed (codes "ca_issuers") text
    & listed (codes "policies") (text_as arcs)

abbrev pub access : TableFormat Access
access = fields access_values access_of
