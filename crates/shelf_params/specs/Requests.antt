-- What a request decides of what an order takes of it.
use Rattle.std.specs.Prelude.{ℕ, Bool, true, false, ◌&&◌, ◌||◌, ◌==◌, not, is_some, length, if◌then◌else◌, List, [], Option, Some, None, Result, Ok, Err}
use Rattle.std.specs.Option.{option_map_or}
use Rattle.asn1_core.specs.Bits.{Bits}
use Rattle.der_tree.specs.Form.{value_of}
use Rattle.pkix_cert.specs.Algorithms.{algorithm_identifier, subject_public_key_info}
use Rattle.pkix_cert.specs.Requests.{certification_request, certification_request_info}
use Rattle.pkix_cert.specs.Versions.{raw_value}
use Rattle.pkix_cert.specs.declared.request.CertificationRequest.{CertificationRequest}
use Rattle.pkix_name.specs.Names.{name_parts}
use Rattle.pkix_name.specs.declared.name.Name.{Name}
use Rattle.pkix_name.specs.declared.name.Name.TheVariants.{RdnSequence}
use Rattle.rcgen_certificate.specs.ExtendedKeyUsages.{Purpose}
use Rattle.rcgen_certificate.specs.ParamsView.{ParamsView}
use Rattle.rcgen_read.specs.ReceivedRequests.{has_unused_bits}
use Rattle.rcgen_read.specs.RequestReading.{AskedOf, asked_of}
use Rattle.rcgen_sign.specs.KeyIds.{pre_specified}
use Rattle.rcgen_text.specs.AlternativeNames.{AlternativeName}
use Rattle.rcgen_text.specs.declared.basic_constraints.IsCa.{IsCa}
use Rattle.rcgen_text.specs.declared.basic_constraints.IsCa.TheVariants.{Ca, ExplicitNoCa, NoCa}
use Rattle.shelf_fault.specs.Faults.{and_then, by_cause, some_or}
use Rattle.shelf_fault.specs.declared.fault.Fault.{Fault}
use Rattle.shelf_fault.specs.declared.fault.Fault.TheVariants.{Obstacle, RequestNotRead, RequestNotSigned, RequestPurposes, RequestUnchecked}
use Rattle.shelf_fault.specs.declared.fault.Obstacle.TheVariants.{RequestNotRead as NotRead}
use Rattle.shelf_profile.specs.declared.request_use.RequestUse.{RequestUse}
use Rattle.signature_verifier.specs.Accepted.{accepts, is_taken}
use Rattle.signature_verifier.specs.Schemes.{kind_named, scheme_named}
use Rattle.shelf_keys.specs.Refusing.{refuse}
use Rattle.shelf_keys.specs.Encoded.{encoded}
use Rattle.shelf_keys.specs.Signatures.{verifier}
use Rattle.shelf_params.specs.Allowed.{names_allowed}
use Rattle.shelf_params.specs.AllowedSubjects.{subject_allowed}
use Rattle.shelf_params.specs.AskedExtensions.{asked_extensions, asked_key_id}
use Rattle.shelf_params.specs.AskedNames.{names_of_their_kinds, subject_is_shown, visible_names}

-- why the signature over a request's info isn't its key's: it doesn't verify, or that isn't decided and nobody says that it was looked at
abbrev pub unsigned_fault : Bool → Bool → Bool → Result (Unit {0}) Fault
unsigned_fault true is_decided is_unchecked = Ok tt
unsigned_fault false true is_unchecked = Err RequestNotSigned
unsigned_fault false false true = Ok tt
unsigned_fault false false false = Err RequestUnchecked

-- the signature, without unused bits, is that of the key with this info over the message
abbrev pub is_signed : List ℕ → List ℕ → List ℕ → Bits → Bool
is_signed message info algorithm signature = (signature.unused == 0) && accepts verifier message info algorithm signature.bytes

-- signatures by the algorithm of this identifier are taken: it names a scheme, which isn't one with SHA-1
abbrev pub is_taken_by_name : List ℕ → Bool
is_taken_by_name algorithm = option_map_or (λ scheme. is_taken verifier scheme) (scheme_named algorithm) false

-- the verifier decides on a signature by this algorithm under a key of that one: it takes the first, and knows the kind of keys that the second names
abbrev pub is_decided : List ℕ → List ℕ → Bool
is_decided algorithm key_algorithm = is_taken_by_name algorithm && is_some (kind_named key_algorithm)

-- the signature of the request is that of its own key over its info (RFC 2986, 4.2)
unfoldable pub own_signature : CertificationRequest → Bool → Result (Unit {0}) Fault
own_signature r is_unchecked =
    and_then (encoded certification_request_info RequestNotRead r.info) (λ message.
    and_then (encoded subject_public_key_info RequestNotRead r.info.subject_public_key_info) (λ info.
    and_then (encoded algorithm_identifier RequestNotRead r.info.subject_public_key_info.algorithm) (λ key_algorithm.
    and_then (encoded algorithm_identifier RequestNotRead r.signature_algorithm) (λ algorithm.
    unsigned_fault (is_signed message info algorithm r.signature) (is_decided algorithm key_algorithm) is_unchecked))))

-- not v1, which is 0 and the only version that there is (RFC 2986, 4.1)
abbrev pub is_other_version : CertificationRequest → Bool
is_other_version r = not (raw_value r.info.version == 0)

-- the request that the octets are, of version 1 and signed by its own key
unfoldable pub request_of : List ℕ → Bool → Result CertificationRequest Fault
request_of octets is_unchecked =
    and_then (some_or (value_of certification_request octets) RequestNotRead) (λ r.
    and_then (refuse (is_other_version r) RequestNotRead) (λ v.
    and_then (own_signature r is_unchecked) (λ u. Ok r)))

-- what a request may decide of the certificate, beside its subject
pub record Named : Type 0 where
  pub alt_names : List AlternativeName
  pub purposes : List Purpose

abbrev pub named_in : AskedOf → Named
named_in a = record { alt_names = a.asked.names; purposes = a.asked.purposes }

-- the same of parameters that were read of it
abbrev pub named_by : ParamsView → Named
named_by p = record { alt_names = p.subject_alt_names; purposes = p.extended_key_usages }

-- the name without parts
abbrev pub no_name : Name
no_name = RdnSequence []

-- what the request asks for by extensions that are known, but for those that are passed over
unfoldable pub asked_for : Bool → List (List ℕ) → CertificationRequest → Result Named Fault
asked_for skips ignored r =
    and_then (asked_extensions skips ignored r.info.attributes) (λ extensions.
    and_then (refuse (has_unused_bits r) (Obstacle NotRead)) (λ u.
    and_then (by_cause (asked_of no_name extensions)) (λ asked.
    Ok (named_in asked))))

-- a subject that is taken has texts as its values, without hidden characters, and alternative names have visible
-- texts, DNS names such as hosts have
unfoldable pub names_taken : RequestUse → CertificationRequest → Named → Result (Unit {0}) Fault
names_taken taken r asked =
    and_then (subject_is_shown taken.takes_subject r.info.subject) (λ u.
    and_then (visible_names taken.takes_alt_names asked.alt_names) (λ u.
    names_of_their_kinds taken.takes_alt_names asked.alt_names))

-- the purposes that are taken are some: a key without them is for any (RFC 5280, 4.2.1.12)
abbrev pub some_purposes : Bool → List Purpose → Result (Unit {0}) Fault
some_purposes is_taken purposes = refuse (is_taken && length purposes == 0) RequestPurposes

abbrev pub takes_some : RequestUse → Bool
takes_some taken = taken.takes_subject || taken.takes_alt_names || taken.takes_purposes || taken.takes_key_id

-- ---- the identifier of the key

-- the subject is to be an authority
abbrev pub names_authority : IsCa → Bool
names_authority NoCa = false
names_authority ExplicitNoCa = false
names_authority (Ca _) = true

-- the identifier that is asked for is passed over where it is taken by itself, or of a subject that is no authority, below which nothing names it
abbrev pub skips_key_id : RequestUse → ParamsView → Bool
skips_key_id taken params = taken.takes_key_id || not (names_authority params.is_ca)

-- the identifier, where it is taken
abbrev pub key_id_taken : Bool → CertificationRequest → Result (Option (List ℕ)) Fault
key_id_taken false r = Ok None
key_id_taken true r = and_then (asked_key_id r.info.attributes) (λ id. Ok (Some id))

-- the parameters with this identifier of the subject's key, where there is one
abbrev pub with_key_id : ParamsView → Option (List ℕ) → ParamsView
with_key_id params None = params
with_key_id params (Some id) = record (params) { key_identifier_method = pre_specified id }

-- ---- what is taken

-- a subject is taken that has no part
abbrev pub takes_no_name : RequestUse → Name → Bool
takes_no_name taken subject = taken.takes_subject && length (name_parts subject) == 0

-- The parameters with what is taken of what the request asks for. Its subject takes the place of their name later; whether that has a part decides
-- on the extension for alternative names (RFC 5280, 4.2.1.6), so that they say it too.
abbrev pub with_asked : ParamsView → CertificationRequest → RequestUse → Named → ParamsView
with_asked params r taken asked = record (params) {
  distinguished_name = if takes_no_name taken r.info.subject then [] else params.distinguished_name;
  subject_alt_names = if taken.takes_alt_names then asked.alt_names else params.subject_alt_names;
  extended_key_usages = if taken.takes_purposes then asked.purposes else params.extended_key_usages;
}

-- the same where the names and purposes that are taken may be
unfoldable pub named_taken : ParamsView → CertificationRequest → RequestUse → Result ParamsView Fault
named_taken params r taken =
    and_then (asked_for (skips_key_id taken params) taken.ignored_extensions r) (λ asked.
    and_then (names_taken taken r asked) (λ u.
    and_then (names_allowed taken.takes_alt_names taken.allowed asked.alt_names) (λ u.
    and_then (subject_allowed taken.takes_subject taken.allowed r.info.subject) (λ u.
    and_then (some_purposes taken.takes_purposes asked.purposes) (λ u.
    Ok (with_asked params r taken asked))))))

abbrev pub taken_of : Bool → ParamsView → CertificationRequest → RequestUse → Result ParamsView Fault
taken_of false params r taken = Ok params
taken_of true params r taken =
    and_then (named_taken params r taken) (λ named.
    and_then (key_id_taken taken.takes_key_id r) (λ id.
    Ok (with_key_id named id)))

-- the parameters with what is taken of the request
unfoldable pub with_taken : ParamsView → CertificationRequest → RequestUse → Result ParamsView Fault
with_taken params r taken = taken_of (takes_some taken) params r taken
