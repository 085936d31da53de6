-- Identifiers of keys, as extensions have them (RFC 5280, 4.2.1.1 and 4.2.1.2).
use Rattle.std.specs.Prelude.{ℕ, Bool, cond, false, List, Option, Some, None}
use Rattle.der_tree.specs.PrimitiveTypes.{octet_string}
use Rattle.pkix_cert.specs.ExtensionIds.{ce_authority_key_identifier, ce_subject_key_identifier, id_ce}
use Rattle.pkix_cert.specs.KeyIdentifiers.{authority_key_identifier}
use Rattle.pkix_cert.specs.declared.key_identifier.AuthorityKeyIdentifier.{AuthorityKeyIdentifier}
use Rattle.rcgen_sign.specs.KeyIds.{Method, key_id}
use Rattle.rcgen_text.specs.declared.basic_constraints.IsCa.{IsCa}
use Rattle.rcgen_text.specs.declared.basic_constraints.IsCa.TheVariants.{NoCa, ExplicitNoCa, Ca}
use Rattle.rcgen_certificate.specs.ExtensionRows.{ExtensionRow, extension_row}

-- the identifier of the issuer's key alone
abbrev pub authority_key : List ℕ → AuthorityKeyIdentifier
authority_key id = record { key_identifier = Some id; authority_cert_issuer = None; authority_cert_serial_number = None }

-- the identifier of the subject's key with this info, by the method
abbrev pub subject_key : Method → List ℕ → List ℕ
subject_key method info = key_id method info

-- the identifier of the issuer's key, where it is asked for
abbrev pub authority_key_if : Bool → List ℕ → Option AuthorityKeyIdentifier
authority_key_if asked id = cond asked (Some (authority_key id)) None

-- the identifier of the subject's key, where the certificate says whether it is an authority
abbrev pub subject_key_if : IsCa → List ℕ → Option (List ℕ)
subject_key_if NoCa id = None
subject_key_if ExplicitNoCa id = Some id
subject_key_if (Ca c) id = Some id

-- the extension on the issuer's key (RFC 5280, 4.2.1.1)
abbrev pub authority_key_row : Bool → List ℕ → List ExtensionRow
authority_key_row asked id = extension_row (id_ce ce_authority_key_identifier) false authority_key_identifier (authority_key_if asked id)

-- the extension on the subject's key (RFC 5280, 4.2.1.2)
abbrev pub subject_key_row : IsCa → List ℕ → List ExtensionRow
subject_key_row is_ca id = extension_row (id_ce ce_subject_key_identifier) false octet_string (subject_key_if is_ca id)
