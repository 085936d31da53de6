-- How a certification request is read, and its first fault (RFC 2986, 4).
use Rattle.std.specs.Prelude.{◌≡◌, ℕ, Bool, cond, List, map, Option, Result, Ok, Err, ok_or}
use Rattle.pkix_cert.specs.declared.algorithm.AlgorithmIdentifier.{AlgorithmIdentifier}
use Rattle.pkix_cert.specs.declared.extension.Extension.{Extension}
use Rattle.pkix_cert.specs.declared.request.CertificationRequest.{CertificationRequest}
use Rattle.pkix_name.specs.declared.name.Name.{Name}
use Rattle.rcgen_text.specs.AlternativeNames.{alternative_name}
use Rattle.rcgen_text.specs.Causes.{Cause, not_request, request_signature, unsupported_algorithm}
use Rattle.rcgen_text.specs.Names.{Entry}
use Rattle.rcgen_sign.specs.Keys.{Key, key_of_parts}
use Rattle.rcgen_sign.specs.Listed.{identified_by}
use Rattle.rcgen_sign.specs.declared.key_info.KeyAlgorithm.{KeyAlgorithm}
use Rattle.rcgen_sign.specs.declared.sign_algo.SignatureAlgorithm.{SignatureAlgorithm}
use Rattle.rcgen_certificate.specs.ExtendedKeyUsages.{purpose_of}
use Rattle.rcgen_certificate.specs.Params.{IsDefaultBut}
use Rattle.rcgen_certificate.specs.declared.params.CertificateParams.{CertificateParams}
use Rattle.rcgen_read.specs.ExtensionReading.{Asked, read_extensions}
use Rattle.rcgen_read.specs.NameReading.{read_name}
use Rattle.rcgen_read.specs.Reading.{and_then}
use Rattle.rcgen_read.specs.ReceivedRequests.{ReceivedRequest, received_at}
use Rattle.rcgen_read.specs.declared.request.CertificateSigningRequestParams.{CertificateSigningRequestParams}

-- which info, key info and algorithm a verifier accepts under which signature
abbrev pub Accepts : Type 0
Accepts = List ℕ → List ℕ → List ℕ → List ℕ → Bool

-- the verifier is asked about the input's own octets
unfoldable pub verified : Accepts → ReceivedRequest → Result (Unit {0}) Cause
verified accepts r = cond (accepts r.signed.info r.signed.key_info r.signed.algorithm r.request.signature.bytes) (Ok tt) (Err request_signature)

-- the same identifier, as keys have it
abbrev pub key_algorithm_of : AlgorithmIdentifier → KeyAlgorithm
key_algorithm_of a = record { algorithm = a.algorithm; parameters = a.parameters }

-- the first of the listed ones with the identifier of the signature, whatever its parameters, and with that of the key
unfoldable pub algorithm_of : CertificationRequest → Option SignatureAlgorithm
algorithm_of r = identified_by r.signature_algorithm.algorithm (key_algorithm_of r.info.subject_public_key_info.algorithm)

-- what is read of a request
pub record ReadRequest : Type 0 where
  pub key : Key
  pub name : List Entry
  pub asked : Asked

abbrev pub read_request_of : ReceivedRequest → SignatureAlgorithm → List Entry → Asked → ReadRequest
read_request_of r algorithm name asked = record {
  key = key_of_parts algorithm r.request.info.subject_public_key_info.subject_public_key.bytes;
  name = name;
  asked = asked;
}

-- a request without unused bits, whose extensions can be found; its signature; its algorithm; its subject; its extensions
abbrev pub read_request : Accepts → List ℕ → Result ReadRequest Cause
read_request accepts der =
    and_then (ok_or (received_at der) not_request) (λ r.
    and_then (verified accepts r) (λ u.
    and_then (ok_or (algorithm_of r.request) unsupported_algorithm) (λ algorithm.
    and_then (read_name r.request.info.subject) (λ name.
    and_then (read_extensions r.extensions) (λ asked.
    Ok (read_request_of r algorithm name asked))))))

-- the parameters have what was read, and else the defaults
abbrev pub AreParamsOf : List Entry → Asked → CertificateParams → Type 0
AreParamsOf name asked params =
    IsDefaultBut (λ names. map alternative_name names ≡ asked.names) name asked.is_ca asked.usages
    (λ purposes. map purpose_of purposes ≡ asked.purposes) params

-- a subject, and what extensions ask for
pub record AskedOf : Type 0 where
  pub name : List Entry
  pub asked : Asked

unfoldable pub asked_of : Name → List Extension → Result AskedOf Cause
asked_of subject extensions =
    and_then (read_name subject) (λ name.
    and_then (read_extensions extensions) (λ asked.
    Ok (record { name = name; asked = asked })))

abbrev pub IsAskedFor : CertificateParams → AskedOf → Type 0
IsAskedFor params a = AreParamsOf a.name a.asked params

-- the key too
pub record IsReadAs (r : CertificateSigningRequestParams) (read : ReadRequest) : Type 0 where
  pub params : AreParamsOf read.name read.asked r.params
  pub public_key : r.public_key ≡ read.key
