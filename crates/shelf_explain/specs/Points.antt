-- Where something is found, and keys that are named (RFC 5280, 4.2.1.1, 4.2.1.13, 5.2.5).
use Rattle.std.specs.Prelude.{ℕ, Bool, true, false, List, [], ◌++◌, codes, Option, Some, None}
use Rattle.asn1_core.specs.Bits.{Bits}
use Rattle.pkix_cert.specs.declared.distribution.DistributionPoint.{DistributionPoint}
use Rattle.pkix_cert.specs.declared.distribution.DistributionPointName.{DistributionPointName}
use Rattle.pkix_cert.specs.declared.distribution.DistributionPointName.TheVariants.{FullName, NameRelativeToCrlIssuer}
use Rattle.pkix_cert.specs.declared.distribution.IssuingDistributionPoint.{IssuingDistributionPoint}
use Rattle.pkix_cert.specs.declared.key_identifier.AuthorityKeyIdentifier.{AuthorityKeyIdentifier}
use Rattle.pkix_cert.specs.declared.revocation.CrlReason.{CrlReason}
use Rattle.pkix_cert.specs.declared.revocation.CrlReason.TheVariants as reason
use Rattle.pkix_name.specs.declared.general_name.GeneralName.{GeneralName}
use Rattle.shelf_explain.specs.BitNames.{names_text, reason_names}
use Rattle.shelf_explain.specs.GeneralNames.{each_text, general_name_text}
use Rattle.shelf_explain.specs.Lines.{hex_text, labelled, next_line}
use Rattle.shelf_explain.specs.Names.{relative_name_text}
use Rattle.shelf_explain.specs.Numbers.{serial_text}

-- names on lines of their own, after what they are
unfoldable pub named_text : List ℕ → List GeneralName → List ℕ
named_text label names = next_line ++ labelled label (each_text general_name_text names)

unfoldable pub issuers_text : List ℕ → Option (List GeneralName) → List ℕ
issuers_text label None = []
issuers_text label (Some names) = named_text label names

-- ---- the key of the issuer (4.2.1.1)

unfoldable pub key_id_text : Option (List ℕ) → List ℕ
key_id_text None = codes "no identifier"
key_id_text (Some id) = hex_text id

unfoldable pub serial_of_text : List ℕ → List ℕ
serial_of_text serial = next_line ++ labelled (codes "serial ") (serial_text serial)

unfoldable pub some_serial_text : Option (List ℕ) → List ℕ
some_serial_text None = []
some_serial_text (Some serial) = serial_of_text serial

unfoldable pub authority_key_text : AuthorityKeyIdentifier → List ℕ
authority_key_text a = key_id_text a.key_identifier ++ issuers_text (codes "issuer ") a.authority_cert_issuer ++ some_serial_text a.authority_cert_serial_number

-- ---- where lists are (4.2.1.13)

unfoldable pub place_name_text : DistributionPointName → List ℕ
place_name_text (FullName names) = each_text general_name_text names
place_name_text (NameRelativeToCrlIssuer name) = labelled (codes "below the issuer: ") (relative_name_text name)

unfoldable pub place_text : Option DistributionPointName → List ℕ
place_text None = codes "no name"
place_text (Some name) = place_name_text name

unfoldable pub for_reasons_text : Bits → List ℕ
for_reasons_text reasons = next_line ++ labelled (codes "reasons ") (names_text reason_names reasons)

unfoldable pub some_reasons_text : Option Bits → List ℕ
some_reasons_text None = []
some_reasons_text (Some reasons) = for_reasons_text reasons

unfoldable pub point_text : DistributionPoint → List ℕ
point_text p = place_text p.distribution_point ++ some_reasons_text p.reasons ++ issuers_text (codes "CRL issuer ") p.crl_issuer

-- ---- what a list is about (5.2.5)

unfoldable pub flag_text : Bool → List ℕ → List ℕ
flag_text true name = next_line ++ name
flag_text false name = []

unfoldable pub flags_text : IssuingDistributionPoint → List ℕ
flags_text p =
    flag_text p.only_contains_user_certs (codes "only user certificates") ++ flag_text p.only_contains_ca_certs (codes "only CA certificates")
    ++ flag_text p.only_contains_attribute_certs (codes "only attribute certificates") ++ flag_text p.indirect_crl (codes "indirect")

unfoldable pub issuing_point_text : IssuingDistributionPoint → List ℕ
issuing_point_text p = place_text p.distribution_point ++ flags_text p ++ some_reasons_text p.only_some_reasons

-- why a certificate was revoked (5.3.1)
unfoldable pub crl_reason_text : CrlReason → List ℕ
crl_reason_text reason.Unspecified = codes "unspecified"
crl_reason_text reason.KeyCompromise = codes "key compromise"
crl_reason_text reason.CaCompromise = codes "CA compromise"
crl_reason_text reason.AffiliationChanged = codes "affiliation changed"
crl_reason_text reason.Superseded = codes "superseded"
crl_reason_text reason.CessationOfOperation = codes "cessation of operation"
crl_reason_text reason.CertificateHold = codes "certificate hold"
crl_reason_text reason.RemoveFromCRL = codes "removed from the list"
crl_reason_text reason.PrivilegeWithdrawn = codes "privilege withdrawn"
crl_reason_text reason.AaCompromise = codes "AA compromise"
