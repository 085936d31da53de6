-- E-mail addresses within a subject (RFC 5280, 4.1.2.6), to which constraints apply where a certificate has no alternative names (4.2.1.10).
use Rattle.std.specs.Prelude.{Bool, List, None, Option, Some, cond, nat_lt, ℕ, []}
use Rattle.std.specs.List.{filter_map, flat_map, list_all}
use Rattle.der_tree.specs.Element.{one_element}
use Rattle.pkix_name.specs.Names.{name_parts}
use Rattle.pkix_name.specs.declared.general_name.GeneralName.{GeneralName}
use Rattle.pkix_name.specs.declared.general_name.GeneralName.TheVariants.{Rfc822Name}
use Rattle.pkix_name.specs.declared.name.AttributeTypeAndValue.{AttributeTypeAndValue}
use Rattle.pkix_name.specs.declared.name.Name.{Name}
use Rattle.pkix_rules.specs.Extensions.{same_id}
use Rattle.pkix_rules.specs.declared.identifiers.TheConstants.{EMAIL_ADDRESS}

-- a text that isn't ASCII is no address that a constraint is of
abbrev pub ascii_or_none : List ℕ → List ℕ
ascii_or_none octets = cond (list_all (λ b. nat_lt b 128) octets) octets []

-- whatever type of text the value has, so that no other type escapes
abbrev pub text_in : AttributeTypeAndValue → List ℕ
text_in a = elim (one_element a.value) [ None ↦ [] | Some s ↦ ascii_or_none s.content ]

unfoldable pub address_in : AttributeTypeAndValue → Option GeneralName
address_in a = cond (same_id a.attr_type EMAIL_ADDRESS.now) (Some (Rfc822Name (text_in a))) None

abbrev pub addresses_in : Name → List GeneralName
addresses_in name = flat_map (λ part. filter_map address_in part.0) (name_parts name)
