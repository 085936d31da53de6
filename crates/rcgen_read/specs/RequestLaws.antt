-- A request as it is written, read, and answered by a certificate (RFC 2986, 3; RFC 5280, 4.2.1).
use Rattle.std.specs.Prelude.{◌≡◌, ℕ, ◌==◌, true, false, not, List, [], ◌∷◌, ◌++◌, length, map, filter, Contains, None, Ok, Some, refl}
use Rattle.std.specs.Option.{option_map}
use Rattle.asn1_core.specs.Binds.{◌>>=◌}
use Rattle.der_tree.specs.Element.{Element, element_octets}
use Rattle.der_tree.specs.Form.{IsDerOf}
use Rattle.der_tree.specs.Grammar.{sequence_of}
use Rattle.der_tree.specs.PrimitiveTypes.{object_identifier}
use Rattle.pkix_cert.specs.Algorithms.{algorithm_identifier, subject_public_key_info}
use Rattle.pkix_cert.specs.Certificates.{certificate}
use Rattle.pkix_cert.specs.declared.certificate.Certificate.{Certificate}
use Rattle.rcgen_text.specs.Names.{all_pushed}
use Rattle.rcgen_sign.specs.KeyIds.{by_sha256}
use Rattle.rcgen_sign.specs.Keys.{Key, key_info_octets}
use Rattle.rcgen_sign.specs.Listed.{listed}
use Rattle.rcgen_sign.specs.declared.sign_algo.SignatureAlgorithm.{SignatureAlgorithm}
use Rattle.rcgen_certificate.specs.BasicConstraints.{basic_constraints_row}
use Rattle.rcgen_certificate.specs.ExtendedKeyUsages.{Purpose, ext_key_usage, ext_key_usage_row, purpose_oid, same_purpose}
use Rattle.rcgen_certificate.specs.ExtensionRows.{ExtensionRow, extension_row}
use Rattle.rcgen_certificate.specs.Issue.{IsIssued}
use Rattle.pkix_cert.specs.ExtensionIds.{ce_ext_key_usage, id_ce}
use Rattle.rcgen_certificate.specs.IssuedExtensions.{extension_rows}
use Rattle.rcgen_certificate.specs.Issuers.{IssuerView}
use Rattle.rcgen_certificate.specs.KeyIdentifiers.{subject_key, subject_key_row}
use Rattle.rcgen_certificate.specs.KeyUsages.{bit_of, is_listed, key_usage_row}
use Rattle.rcgen_certificate.specs.KeyValues.{key_value, signature_identifier}
use Rattle.rcgen_certificate.specs.Requests.{Requests, request_rows}
use Rattle.rcgen_certificate.specs.SubjectAltNames.{subject_alt_name_row}
use Rattle.rcgen_text.specs.declared.key_usage.KeyUsagePurpose.{KeyUsagePurpose}
use Rattle.rcgen_certificate.specs.ParamsView.{ParamsView, params_view}
use Rattle.rcgen_certificate.specs.declared.params.CertificateParams.{CertificateParams}
use Rattle.rcgen_read.specs.ExtensionReading.{Asked, all_usages, purposes_listed}
use Rattle.rcgen_read.specs.NamesReadBack.{HasDistinctOids, by_arcs}
use Rattle.rcgen_read.specs.ReceivedRequests.{ReceivedRequest, child, front_at, received_at}
use Rattle.rcgen_read.specs.RequestReading.{Accepts, AreParamsOf, ReadRequest, read_request}

-- ---- what is read of a request that was written

-- the usages in the order of their bits, each once
abbrev pub usages_in_order : List KeyUsagePurpose → List KeyUsagePurpose
usages_in_order us = filter (λ u. is_listed us (bit_of u)) all_usages

-- each purpose once, where it first occurs
abbrev pub each_once : List Purpose → List Purpose
each_once [] = []
each_once (p ∷ ps) = p ∷ filter (λ q. not (same_purpose p q)) (each_once ps)

-- the purposes with these identifiers: those that have a name in their fixed order, then the others in the given order,
-- each once
abbrev pub purposes_in_order : List (List ℕ) → List Purpose
purposes_in_order ids = each_once (purposes_listed ids)

-- what the request of these parameters asks for
abbrev pub asked_by : ParamsView → Asked
asked_by params = record {
  names = params.subject_alt_names;
  usages = usages_in_order params.key_usages;
  purposes = purposes_in_order (map purpose_oid params.extended_key_usages);
  is_ca = params.is_ca;
}

abbrev pub read_back : ParamsView → Key → ReadRequest
read_back params key = record { key = key; name = all_pushed (map by_arcs params.distinguished_name); asked = asked_by params }

-- no extension is given beside those that parameters have a field for
abbrev pub HasNoCustomExtension : ParamsView → Type 0
HasNoCustomExtension params = params.custom_extensions ≡ []

-- one of the algorithms that are looked for
abbrev pub IsListed : SignatureAlgorithm → Type 0
IsListed a = Contains listed a

-- accepts says yes to what is signed, and to the key's info and the signature's algorithm in their forms, under the signature
abbrev pub IsAccepted : Accepts → Key → List ℕ → List ℕ → Type 0
IsAccepted accepts key message signature =
    (key_info algorithm : List ℕ) → IsDerOf subject_public_key_info (key_value key.algorithm key.octets) key_info
    → IsDerOf algorithm_identifier (signature_identifier key.algorithm) algorithm → accepts message key_info algorithm signature ≡ true

-- The request that is written for the parameters and the key, without other attributes and with a signature that is accepted, is read back,
-- whatever follows it.
abbrev pub WrittenIsRead : ParamsView → Type 0
WrittenIsRead params =
    HasNoCustomExtension params → (key : Key) → IsListed key.algorithm → (accepts : Accepts) (der rest : List ℕ)
    → Requests params key [] (IsAccepted accepts key) der → read_request accepts (der ++ rest) ≡ Ok (read_back params key)

-- ---- what is issued as it was requested

-- octets are a part of what is signed, counted from 0, in the element at the start of the bytes
abbrev pub StandsAt : List ℕ → ℕ → List ℕ → Type 0
StandsAt bytes place octets =
    (signed : Element) × (part : Element) × ((front_at bytes >>= child 0) ≡ Some signed) × (child place signed ≡ Some part)
    × (octets ≡ element_octets part)

-- The certificate has the key's info of the request, and its subject where no identifier occurs twice in that: the same
-- octets. They are the third part and the second of the info, and the seventh and the sixth of the certificate, in
-- which the version is first.
pub record IsForRequest (der : List ℕ) (received : ReceivedRequest) (c : Certificate) (issued : List ℕ) : Type 0 where
  pub key_info : c.tbs_certificate.subject_public_key_info ≡ received.request.info.subject_public_key_info
  pub key_octets : List ℕ
  pub key_requested : StandsAt der 2 key_octets
  pub key_issued : StandsAt issued 6 key_octets
  pub subject : HasDistinctOids received.request.info.subject → c.tbs_certificate.subject ≡ received.request.info.subject
  pub subject_octets : List ℕ
  pub subject_requested : StandsAt der 1 subject_octets
  pub subject_issued : HasDistinctOids received.request.info.subject → StandsAt issued 5 subject_octets

-- what is issued, by whichever issuer, for parameters and key that are what was read of a request
abbrev pub IssuedAsRequested : Type 0
IssuedAsRequested =
    (accepts : Accepts) (der : List ℕ) (read : ReadRequest) (received : ReceivedRequest) (params : CertificateParams) (issuer : IssuerView)
    (c : Certificate) (issued : List ℕ) → read_request accepts der ≡ Ok read → received_at der ≡ Some received → AreParamsOf read.name read.asked params
    → IsIssued (params_view params) read.key issuer c → IsDerOf certificate c issued → IsForRequest der received c issued

-- ---- which extensions are issued

abbrev pub names_row : ParamsView → List ExtensionRow
names_row params = subject_alt_name_row (length params.distinguished_name == 0) params.subject_alt_names

abbrev pub usages_row : ParamsView → List ExtensionRow
usages_row params = key_usage_row params.key_usages

abbrev pub purposes_row : ParamsView → List ExtensionRow
purposes_row params = ext_key_usage_row params.extended_key_usages

-- it is present where the one of the request is, with its purposes in that order, each once
abbrev pub ordered_purposes_row : ParamsView → List ExtensionRow
ordered_purposes_row params =
    extension_row (id_ce ce_ext_key_usage) false (sequence_of object_identifier 0 None refl)
    (option_map (λ ids. map purpose_oid (purposes_in_order ids)) (ext_key_usage params.extended_key_usages))

-- where something is said of an authority: the identifier of the key, by SHA-256
abbrev pub sha256_key_row : ParamsView → Key → List ExtensionRow
sha256_key_row params key = subject_key_row params.is_ca (subject_key by_sha256 (key_info_octets key))

abbrev pub constraints_row : ParamsView → List ExtensionRow
constraints_row params = basic_constraints_row params.is_ca

-- the request of some parameters has these extensions
abbrev pub requested : ParamsView → List ExtensionRow
requested params = usages_row params ++ names_row params ++ purposes_row params ++ constraints_row params

-- a certificate has these for it, of which those on alternative names, key usage and basic constraints are the request's own
abbrev pub answered : ParamsView → Key → List ExtensionRow
answered params key =
    names_row params ++ usages_row params ++ ordered_purposes_row params ++ sha256_key_row params key ++ constraints_row params

-- They are what is requested for the parameters, and what is issued, by whichever issuer, for other parameters that are what was read of that
-- request.
pub record ExtensionsAreKept (params : ParamsView) (key : Key) : Type 0 where
  pub requested_rows : request_rows params ≡ requested params
  pub issued_rows : (issuer : IssuerView) (issued : CertificateParams) → AreParamsOf (read_back params key).name (read_back params key).asked issued
      → extension_rows (params_view issued) key issuer ≡ answered params key
