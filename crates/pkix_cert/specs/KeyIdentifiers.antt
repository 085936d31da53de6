-- Identifiers of keys, and what keys are for (RFC 5280, 4.2.1.1 to 4.2.1.3 and 4.2.1.12).
use Rattle.std.specs.Prelude.{None, refl}
use Rattle.der_tree.specs.Codec.{Codec, Struct}
use Rattle.der_tree.specs.Grammar.{as_struct, implicitly, optional, sequence, sequence_of, ◌&◌, ◌⊗◌}
use Rattle.der_tree.specs.PrimitiveTypes.{integer, octet_string}
use Rattle.der_tree.specs.Tags.{context, universal}
use Rattle.pkix_name.specs.GeneralNames.{general_name}
use Rattle.pkix_cert.specs.declared.key_identifier.AuthorityKeyIdentifier.{AuthorityKeyIdentifier}

unfoldable pub authority_key_identifier_fields : Struct AuthorityKeyIdentifier
authority_key_identifier_fields = as_struct (
    optional (implicitly (context 0) octet_string refl)
    & optional (implicitly (context 1) (sequence_of general_name 0 None refl) refl)
    & optional (implicitly (context 2) integer refl)
    ) refl
    (λ v. v.key_identifier ⊗ v.authority_cert_issuer ⊗ v.authority_cert_serial_number)
    (λ key_identifier authority_cert_issuer authority_cert_serial_number. record {
      key_identifier = key_identifier;
      authority_cert_issuer = authority_cert_issuer;
      authority_cert_serial_number = authority_cert_serial_number;
    }) (λ v. refl) (λ f. refl)

abbrev pub no_identifier : AuthorityKeyIdentifier
no_identifier = record { key_identifier = None; authority_cert_issuer = None; authority_cert_serial_number = None }

abbrev pub authority_key_identifier : Codec AuthorityKeyIdentifier
authority_key_identifier = sequence (universal 16) authority_key_identifier_fields
