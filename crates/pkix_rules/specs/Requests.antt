-- The rules that a request breaks (RFC 2986), by itself and in what it asks for.
use Rattle.std.specs.Prelude.{Bool, List, None, Option, Some, [], find, length, map, not, ℕ, ◌++◌, ◌==◌}
use Rattle.std.specs.List.{list_any, slice_get}
use Rattle.asn1_core.specs.Binds.{◌>>=◌}
use Rattle.der_tree.specs.Form.{value_of}
use Rattle.extension_lookup.specs.Lookup.{are_distinct}
use Rattle.pkix_cert.specs.Extensions.{extensions}
use Rattle.pkix_cert.specs.Held.{extensions_in}
use Rattle.pkix_cert.specs.Requests.{certification_request_info}
use Rattle.pkix_cert.specs.Versions.{raw_value}
use Rattle.pkix_cert.specs.declared.extension.Extensions.{Extensions}
use Rattle.pkix_cert.specs.declared.request.CertificationRequestInfo.{CertificationRequestInfo}
use Rattle.pkix_name.specs.declared.name.Attribute.{Attribute}
use Rattle.strict_der.specs.Strict.{is_strict}
use Rattle.pkix_rules.specs.Extensions.{same_id}
use Rattle.pkix_rules.specs.Said.{said_of}
use Rattle.pkix_rules.specs.Shared.{shared_rules}
use Rattle.pkix_rules.specs.declared.identifiers.TheConstants.{EXTENSION_REQUEST}
use Rattle.rule_table.specs.Found.{when}
use Rattle.rule_table.specs.declared.rule.Rule.{Rule}
use Rattle.rule_table.specs.declared.rule.Rule.TheVariants.{AttributeTwice, AttributeWithoutValues, NotStrictDer, RequestVersion}

abbrev pub attribute_ids : List Attribute → List (List ℕ)
attribute_ids attributes = map (λ a. a.attr_type) attributes

-- values SET SIZE(1..MAX)
abbrev pub has_no_values : Attribute → Bool
has_no_values a = length a.values == 0

unfoldable pub attribute_rules : List Attribute → List Rule
attribute_rules attributes =
    when (not (are_distinct (attribute_ids attributes))) AttributeTwice
    ++ when (list_any has_no_values attributes) AttributeWithoutValues

-- the first attribute that asks for extensions (RFC 2985, 5.4.2)
abbrev pub asked_attribute : List Attribute → Option Attribute
asked_attribute attributes = find (λ a. same_id a.attr_type EXTENSION_REQUEST.now) attributes

abbrev pub first_value : Attribute → Option (List ℕ)
first_value a = slice_get a.values 0

unfoldable pub asked_in : Option (List ℕ) → Option Extensions
asked_in value = value >>= λ v. value_of extensions v

unfoldable pub asked_extensions : List Attribute → Option Extensions
asked_extensions attributes = asked_attribute attributes >>= λ a. asked_in (first_value a)

unfoldable pub rules_of : CertificationRequestInfo → List Rule
rules_of r =
    shared_rules r.subject (extensions_in (asked_extensions r.attributes)) (said_of (extensions_in (asked_extensions r.attributes))) r.subject_public_key_info
    ++ when (not (raw_value r.version == 0)) RequestVersion
    ++ attribute_rules r.attributes

abbrev pub request_found : Bool → Option CertificationRequestInfo → List Rule
request_found strict None = []
request_found strict (Some r) = rules_of r ++ when (not strict) NotStrictDer

-- of the request to be signed; none where the octets can't be read
unfoldable pub request_rules : List ℕ → List Rule
request_rules message = request_found (is_strict message) (value_of certification_request_info message)
