-- What the extensions say that most rules look at (RFC 5280, 4.2.1).
use Rattle.std.specs.Prelude.{Bool, List, None, Option, Some, false, is_some, refl, ℕ}
use Rattle.std.specs.List.{list_any}
use Rattle.asn1_core.specs.Bits.{Bits, has_bit}
use Rattle.der_tree.specs.Codec.{Codec}
use Rattle.der_tree.specs.Grammar.{sequence_of}
use Rattle.der_tree.specs.PrimitiveTypes.{bit_string, object_identifier, octet_string}
use Rattle.pkix_cert.specs.Constraints.{basic_constraints}
use Rattle.pkix_cert.specs.ExtensionIds.{ce_authority_key_identifier, ce_basic_constraints, ce_ext_key_usage, ce_key_usage, ce_subject_key_identifier, id_ce}
use Rattle.pkix_cert.specs.KeyIdentifiers.{authority_key_identifier}
use Rattle.pkix_cert.specs.declared.constraint.BasicConstraints.{BasicConstraints}
use Rattle.pkix_cert.specs.declared.extension.Extension.{Extension}
use Rattle.pkix_cert.specs.declared.key_identifier.AuthorityKeyIdentifier.{AuthorityKeyIdentifier}
use Rattle.pkix_rules.specs.Extensions.{extension_at, said, same_id}
use Rattle.pkix_rules.specs.declared.said.Said.{Said}

-- the first extension under id-ce with this arc
abbrev pub ce_extension : ℕ → List Extension → Option Extension
ce_extension arc es = extension_at (id_ce arc) es

-- ExtKeyUsageSyntax (RFC 5280, 4.2.1.12): purposes, each by its arcs
abbrev pub ext_key_usage : Codec (List (List ℕ))
ext_key_usage = sequence_of object_identifier 0 None refl

unfoldable pub said_of : List Extension → Said
said_of es = record {
  constraints = said basic_constraints (ce_extension ce_basic_constraints es);
  key_usage = said bit_string (ce_extension ce_key_usage es);
  purposes = said ext_key_usage (ce_extension ce_ext_key_usage es);
  authority_key_id = said authority_key_identifier (ce_extension ce_authority_key_identifier es);
  subject_key_id = said octet_string (ce_extension ce_subject_key_identifier es);
}

-- cA (RFC 5280, 4.2.1.9)
abbrev pub is_authority : Option BasicConstraints → Bool
is_authority None = false
is_authority (Some b) = b.ca

-- pathLenConstraint (RFC 5280, 4.2.1.9)
abbrev pub path_length_in : Option BasicConstraints → Option (List ℕ)
path_length_in None = None
path_length_in (Some b) = b.path_len_constraint

abbrev pub has_path_length : Option BasicConstraints → Bool
has_path_length b = is_some (path_length_in b)

-- key usage is there and has the bit
abbrev pub has_usage : ℕ → Option Bits → Bool
has_usage i None = false
has_usage i (Some usage) = has_bit usage i

-- bits of key usage (RFC 5280, 4.2.1.3)
abbrev pub digital_signature : ℕ
digital_signature = 0

abbrev pub non_repudiation : ℕ
non_repudiation = 1

abbrev pub key_encipherment : ℕ
key_encipherment = 2

abbrev pub data_encipherment : ℕ
data_encipherment = 3

abbrev pub key_agreement : ℕ
key_agreement = 4

abbrev pub key_cert_sign : ℕ
key_cert_sign = 5

abbrev pub crl_sign : ℕ
crl_sign = 6

abbrev pub encipher_only : ℕ
encipher_only = 7

abbrev pub decipher_only : ℕ
decipher_only = 8

-- the purpose is among those of the key (RFC 5280, 4.2.1.12)
abbrev pub has_purpose : List ℕ → Option (List (List ℕ)) → Bool
has_purpose id None = false
has_purpose id (Some purposes) = list_any (λ p. same_id p id) purposes

-- keyIdentifier of authorityKeyIdentifier (RFC 5280, 4.2.1.1)
abbrev pub key_identifier_in : Option AuthorityKeyIdentifier → Option (List ℕ)
key_identifier_in None = None
key_identifier_in (Some a) = a.key_identifier
