-- What the program writes.
use Rattle.std.specs.Prelude.{ℕ, ◌+◌, List, ◌∷◌, ◌++◌, codes}
use Rattle.hex.specs.Hex.{encode_lower}
use Rattle.rcgen_text.specs.Causes.{Cause, not_certificate, not_request, request_signature, name_type, printable_text, universal_text, ia5_text, teletex_text, bmp_text}
use Rattle.rcgen_text.specs.Causes.{address_length, unsupported_extension, unsupported_algorithm, time, unsupported_in_csr, next_update, not_crl_signer, empty_uris}
use Rattle.rcgen_text.specs.Causes.{x509, identifier, attribute_values}
use Rattle.toml_format.specs.Reason.{reason_number}
use Rattle.toml_format.specs.declared.reason.Reason.{Reason}

-- the bytes in hexadecimal digits
abbrev pub hex_line : List ℕ → List ℕ
hex_line bytes = encode_lower bytes ++ codes "\n"

-- the reason why an input is none that its command takes
abbrev pub bad_profile_line : Reason → List ℕ
bad_profile_line reason = codes "bad profile " ++ (48 + reason_number reason) ∷ codes "\n"

-- the name of the error's variant, by where the error comes from
abbrev pub cause_name : Cause → List ℕ
cause_name not_certificate = codes "CouldNotParseCertificate"
cause_name not_request = codes "CouldNotParseCertificationRequest"
cause_name request_signature = codes "InvalidCertificationRequestSignature"
cause_name name_type = codes "InvalidNameType"
cause_name (printable_text text) = codes "InvalidAsn1String"
cause_name (universal_text text) = codes "InvalidAsn1String"
cause_name (ia5_text text) = codes "InvalidAsn1String"
cause_name (teletex_text text) = codes "InvalidAsn1String"
cause_name (bmp_text text) = codes "InvalidAsn1String"
cause_name (address_length n) = codes "InvalidIpAddressOctetLength"
cause_name unsupported_extension = codes "UnsupportedExtension"
cause_name unsupported_algorithm = codes "UnsupportedSignatureAlgorithm"
cause_name time = codes "Time"
cause_name unsupported_in_csr = codes "UnsupportedInCsr"
cause_name next_update = codes "InvalidCrlNextUpdate"
cause_name not_crl_signer = codes "IssuerNotCrlSigner"
cause_name empty_uris = codes "EmptyCrlDistributionPointUris"
cause_name (x509 text) = codes "X509"
cause_name identifier = codes "InvalidObjectIdentifier"
cause_name attribute_values = codes "InvalidAttributeValues"

abbrev pub key_name : List ℕ
key_name = codes "RemoteKeyError"

-- the line of a cause, by its name
abbrev pub refused_line : List ℕ → List ℕ
refused_line name = codes "refused " ++ name ++ codes "\n"

-- the statuses, as `--help` lists them after the words
abbrev pub status_lines : List ℕ
status_lines =
    codes "\n"
    ++ codes "It ends with the status\n"
    ++ codes "0  where all was written\n"
    ++ codes "1  where reading failed\n"
    ++ codes "2  where writing failed\n"
    ++ codes "3  where the input is longer than 1048576 bytes\n"
    ++ codes "4  where the input is none that is asked for: `bad profile` and the number of the reason is written\n"
    ++ codes "5  where what the input asks for can't be done: `refused` and the name of the cause is written\n"
    ++ codes "6  where the words are none of these\n"
    ++ codes "7  where memory was refused\n"

-- the name and the version
abbrev pub version_text : List ℕ
version_text = codes "certify 0.1.0\n"
