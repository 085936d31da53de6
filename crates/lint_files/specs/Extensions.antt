-- What extensions say of keys (RFC 5280, 4.2.1.1 and 4.2.1.2).
use Rattle.std.specs.Prelude.{List, None, Option, Some, find, nat_eq, ℕ}
use Rattle.std.specs.Cmp.Lexicographic.{pointwise}
use Rattle.asn1_core.specs.Binds.{◌>>=◌}
use Rattle.der_tree.specs.Codec.{Codec}
use Rattle.der_tree.specs.Form.{value_of}
use Rattle.der_tree.specs.PrimitiveTypes.{octet_string}
use Rattle.pkix_cert.specs.ExtensionIds.{ce_authority_key_identifier, ce_subject_key_identifier, id_ce}
use Rattle.pkix_cert.specs.Held.{extensions_in}
use Rattle.pkix_cert.specs.KeyIdentifiers.{authority_key_identifier}
use Rattle.pkix_cert.specs.declared.extension.Extension.{Extension}
use Rattle.pkix_cert.specs.declared.extension.Extensions.{Extensions}
use Rattle.pkix_cert.specs.declared.key_identifier.AuthorityKeyIdentifier.{AuthorityKeyIdentifier}

-- the contents of the first one with the identifier
abbrev pub contents_at : List ℕ → List Extension → Option (List ℕ)
contents_at id es = find (λ e. pointwise nat_eq e.extn_id id) es >>= λ e. Some e.extn_value

-- what it says, where it is there and can be read
unfoldable pub said_in : {A : Type 0} → Codec A → List ℕ → List Extension → Option A
said_in c id es = contents_at id es >>= value_of c

abbrev pub key_identifier_in : Option AuthorityKeyIdentifier → Option (List ℕ)
key_identifier_in None = None
key_identifier_in (Some a) = a.key_identifier

-- the identifier of the issuer's key
unfoldable pub named_key : Option Extensions → Option (List ℕ)
named_key es = key_identifier_in (said_in authority_key_identifier (id_ce ce_authority_key_identifier) (extensions_in es))

-- the identifier of the subject's key
unfoldable pub own_key : Option Extensions → Option (List ℕ)
own_key es = said_in octet_string (id_ce ce_subject_key_identifier) (extensions_in es)
