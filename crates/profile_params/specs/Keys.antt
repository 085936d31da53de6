-- The purposes of a key, and how its identifier is made: a row for each word.
use Rattle.rcgen_sign.specs.KeyIds.{Method, by_sha256, by_sha384, by_sha512, pre_specified}
use Rattle.rcgen_certificate.specs.ExtendedKeyUsages.{Purpose, any_purpose, server_auth, client_auth, code_signing, email_protection, time_stamping}
use Rattle.rcgen_certificate.specs.ExtendedKeyUsages.{ocsp_signing, other}
use Rattle.toml_format.specs.declared.key_id.KeyId.{KeyId}
use Rattle.toml_format.specs.declared.key_id.KeyId.TheVariants.{Sha256, Sha384, Sha512, PreSpecified}
use Rattle.toml_format.specs.declared.purpose.Purpose.{Purpose as PurposeWord}
use Rattle.toml_format.specs.declared.purpose.Purpose.TheVariants as purposes

-- the purposes of a key (RFC 5280, 4.2.1.12); arcs stay arcs, be they those of a purpose with a name
abbrev pub purpose_of_profile : PurposeWord → Purpose
purpose_of_profile purposes.Any = any_purpose
purpose_of_profile purposes.ServerAuth = server_auth
purpose_of_profile purposes.ClientAuth = client_auth
purpose_of_profile purposes.CodeSigning = code_signing
purpose_of_profile purposes.EmailProtection = email_protection
purpose_of_profile purposes.TimeStamping = time_stamping
purpose_of_profile purposes.OcspSigning = ocsp_signing
purpose_of_profile (purposes.Other arcs) = other arcs

-- how the identifier of a key is made
abbrev pub method_of_profile : KeyId → Method
method_of_profile Sha256 = by_sha256
method_of_profile Sha384 = by_sha384
method_of_profile Sha512 = by_sha512
method_of_profile (PreSpecified id) = pre_specified id
