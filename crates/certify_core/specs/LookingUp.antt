-- Serial numbers that are looked up in a revocation list.
use Rattle.std.specs.Prelude.{ℕ, List, ◌++◌, flat_map, codes, decimal, Option, Some, None, Result}
use Rattle.std.specs.Option.{ok_or}
use Rattle.asn1_core.specs.Twos.{unsigned}
use Rattle.der_tree.specs.Form.{value_of}
use Rattle.pkix_cert.specs.Revocations.{certificate_list}
use Rattle.pkix_cert.specs.declared.revocation.CertificateList.{CertificateList}
use Rattle.pkix_cert.specs.declared.revocation.RevokedCertificate.{RevokedCertificate}
use Rattle.crl_index.specs.Search.{first_place}
use Rattle.certify_core.specs.Listing.{hex}
use Rattle.certify_core.specs.CommandSpec.{CommandSpec, coming_to, of_document}
use Rattle.certify_core.specs.Outcome.{done}
use Rattle.toml_format.specs.Document.{document_of}
use Rattle.certify_profile.specs.RevokedSerials.{revoked}
use Rattle.toml_format.specs.declared.reason.Reason.{Reason}
use Rattle.toml_format.specs.declared.reason.Reason.TheVariants.{NotOneValue}
use Rattle.certify_profile.specs.declared.revoked_serials.RevokedProfile.{RevokedProfile}

-- the profile that the bytes are, or the least reason why they are none
abbrev pub revoked_profile_of : List ℕ → Result RevokedProfile Reason
revoked_profile_of = document_of revoked.read

-- the list whose form the bytes are
abbrev pub revocation_list_of : List ℕ → Result CertificateList Reason
revocation_list_of bytes = ok_or (value_of certificate_list bytes) NotOneValue

-- where the list has a serial number first
unfoldable pub revocation_text : Option ℕ → List ℕ
revocation_text None = codes "good"
revocation_text (Some place) = codes "revoked " ++ decimal place

-- the bytes of a serial number, and its place in the list, if any
unfoldable pub serial_line : List ℕ → Option ℕ → List ℕ
serial_line serial place = hex serial ++ codes " " ++ revocation_text place ++ codes "\n"

-- the same by plain search; the bytes are a number that isn't negative
abbrev pub revocation_line : List RevokedCertificate → List ℕ → List ℕ
revocation_line entries serial = serial_line serial (first_place (unsigned serial) entries)

abbrev pub revocation_lines : List RevokedCertificate → List (List ℕ) → List ℕ
revocation_lines entries serials = flat_map (revocation_line entries) serials

-- what is written of the serial numbers and a list
abbrev pub looking_up_in : List (List ℕ) → CertificateList → CommandSpec
looking_up_in serials list = coming_to (done (revocation_lines list.tbs_cert_list.revoked_certificates serials))

abbrev pub looking_up : RevokedProfile → CommandSpec
looking_up p = of_document (looking_up_in p.serials) (revocation_list_of p.list)
