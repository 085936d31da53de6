-- What an order comes to with the blocks after it, what is to be signed for it, and what is issued.
use Rattle.std.specs.Option.{option_map}
use Rattle.std.specs.Prelude.{◌≡◌, ◌⊎◌, true, false, ℕ, ℤ, Bool, cond, int_le, not, is_some, codes, List, [], Option, Some, None, Result, Ok, Err}
use Rattle.attr_issue.specs.AttributeCauses.{AttributeCause, first_attribute_cause, no_attributes, refused, repeated_attribute}
use Rattle.attr_issue.specs.declared.error.AttrError.{AttrError}
use Rattle.attr_issue.specs.declared.error.AttrError.TheVariants as error
use Rattle.der_tree.specs.Form.{value_of}
use Rattle.pkix_cert.specs.Algorithms.{subject_public_key_info}
use Rattle.pkix_cert.specs.declared.algorithm.SubjectPublicKeyInfo.{SubjectPublicKeyInfo}
use Rattle.pkix_cert.specs.declared.request.CertificationRequest.{CertificationRequest}
use Rattle.pkix_name.specs.Names.{name as name_codec}
use Rattle.pkix_name.specs.declared.name.Name.{Name}
use Rattle.pkix_name.specs.declared.name.Name.TheVariants.{RdnSequence}
use Rattle.pkix_name.specs.declared.name.RelativeDistinguishedName.{RelativeDistinguishedName}
use Rattle.profile_params.specs.RevocationLists.{list_of_profile}
use Rattle.rcgen_certificate.specs.Issue.{first_cause}
use Rattle.rcgen_certificate.specs.Issuers.{IssuerView, encodable_name, issuer_view, own_view}
use Rattle.rcgen_certificate.specs.ParamsView.{ParamsView}
use Rattle.rcgen_certificate.specs.Requests.{first_request_cause}
use Rattle.rcgen_issue.specs.Lists.{first_crl_cause}
use Rattle.rcgen_sign.specs.Keys.{Key}
use Rattle.rcgen_tbs.specs.Deltas.{IsListMessage, IsListOver}
use Rattle.rcgen_tbs.specs.Messages.{IsAttributeMessage, IsAttributeOver}
use Rattle.rcgen_tbs.specs.Named.{IsCertificateMessageAs, IsCertificateOverAs}
use Rattle.rcgen_tbs.specs.declared.subject.Subject.{Subject}
use Rattle.rcgen_tbs.specs.declared.subject.Subject.TheVariants.{Known, Other}
use Rattle.shelf_fault.specs.Faults.{and_then, fault_by_cause, fault_of, no_cause, some_or}
use Rattle.shelf_fault.specs.declared.fault.Fault.{Fault}
use Rattle.shelf_fault.specs.declared.fault.Fault.TheVariants.{EndsFirst, Issuer, Missing, NameNotKept, Obstacle, OutOfMemory, Unused}
use Rattle.shelf_fault.specs.declared.fault.Fault.TheVariants as fault
use Rattle.shelf_fault.specs.declared.fault.IssuerFault.TheVariants.{NoCertSign, NoDigitalSignature}
use Rattle.shelf_fault.specs.declared.fault.KeyFault.TheVariants.{NotRead, Unknown}
use Rattle.shelf_fault.specs.declared.fault.Label.TheVariants as block
use Rattle.shelf_fault.specs.declared.fault.Obstacle.TheVariants as obstacle
use Rattle.shelf_fault.specs.declared.fault.Place.{Place}
use Rattle.shelf_fault.specs.declared.fault.Place.TheVariants as place
use Rattle.toml_format.specs.declared.certificate.CertificateContent.{CertificateContent}
use Rattle.shelf_profile.specs.declared.access.Access.{Access}
use Rattle.shelf_profile.specs.declared.attribute_certificate.AttributeOrder.{AttributeOrder}
use Rattle.shelf_profile.specs.declared.certificate.CertificateOrder.{CertificateOrder}
use Rattle.shelf_profile.specs.declared.order.Order.{Order}
use Rattle.shelf_profile.specs.declared.order.Order.TheVariants as ordered
use Rattle.shelf_profile.specs.declared.preset.Preset.{Preset}
use Rattle.shelf_profile.specs.declared.preset.Preset.TheVariants.{Authority, Client, Root, Server}
use Rattle.shelf_profile.specs.declared.request.RequestOrder.{RequestOrder}
use Rattle.shelf_profile.specs.declared.request_use.RequestUse.{RequestUse}
use Rattle.shelf_profile.specs.declared.revocation_list.ListOrder.{ListOrder}
use Rattle.shelf_profile.specs.declared.signing.Signing.{Signing}
use Rattle.shelf_keys.specs.Encoded.{encoded}
use Rattle.shelf_keys.specs.Refusing.{refuse}
use Rattle.shelf_job.specs.Issuers.{attribute_authority_key, authority_key, certified, signs_certificates, signs_digitally, with_key}
use Rattle.shelf_keys.specs.Keys.{any_signing, key_of_info, public_key}
use Rattle.shelf_params.specs.AttributeCertificates.{attribute_params}
use Rattle.shelf_params.specs.CommonNames.{with_common_names}
use Rattle.shelf_params.specs.Parameters.{certificate_params, content_params}
use Rattle.shelf_params.specs.Requests.{request_of, takes_some, with_taken}
use Rattle.shelf_keys.specs.Signatures.{checked}
use Rattle.shelf_job.specs.Asked.{AttributeAsked, CertificateAsked, ListAsked, RequestAsked}
use Rattle.shelf_job.specs.NamedRequests.{IsRequestMessageAs, IsRequestOverAs}
use Rattle.shelf_job.specs.declared.job.Job.{Job}
use Rattle.shelf_job.specs.declared.job.Job.TheVariants as job
use Rattle.shelf_input.specs.declared.blocks.Blocks.{Blocks}
use Rattle.pkix_rules.specs.Attributes.{attribute_certificate_rules}
use Rattle.pkix_rules.specs.Certificates.{certificate_rules}
use Rattle.pkix_rules.specs.Lists.{list_rules}
use Rattle.pkix_rules.specs.Requests.{request_rules}
use Rattle.rule_table.specs.declared.rule.Rule.{Rule}
use Rattle.shelf_job.specs.WeakKeys.{with_weak_key}

-- ---- certificates

-- the root of a preset is its own issuer, and the others aren't
abbrev pub fits_preset : Option Preset → Bool → Result (Unit {0}) Fault
fits_preset (Some Root) has_issuer = refuse has_issuer (Unused block.Certificate)
fits_preset (Some Authority) has_issuer = refuse (not has_issuer) (Missing block.Certificate)
fits_preset (Some Server) has_issuer = refuse (not has_issuer) (Missing block.Certificate)
fits_preset (Some Client) has_issuer = refuse (not has_issuer) (Missing block.Certificate)
fits_preset None has_issuer = Ok tt

-- a subject by its key, or where that is of no known algorithm by its info
abbrev pub subject_by : Result Key Fault → SubjectPublicKeyInfo → Result Subject Fault
subject_by (Ok key) info = Ok (Known key)
subject_by (Err (fault.Key place (Unknown id))) info = Ok (Other info)
subject_by (Err other) info = Err other

-- the subject whose key has this info
unfoldable pub subject_with : Place → Signing → SubjectPublicKeyInfo → Result Subject Fault
subject_with place signing info = subject_by (key_of_info place signing info) info

-- the subject whose key's SubjectPublicKeyInfo the octets are
unfoldable pub subject_in : List ℕ → Signing → Result Subject Fault
subject_in octets signing =
    and_then (some_or (value_of subject_public_key_info octets) (fault.Key place.PublicKey NotRead)) (subject_with place.PublicKey signing)

-- the subject's name, octet by octet: the request's where it is taken, and else the own one
abbrev pub name_by : Bool → Name → Option Name → Option Name
name_by true asked own = Some asked
name_by false asked own = own

-- the subject whose request this is, its name, and the parameters with what the request decides
unfoldable pub requested_subject : CertificationRequest → Signing → RequestUse → Option Name → ParamsView → Result (Subject × Option Name × ParamsView) Fault
requested_subject r signing taken own params =
    and_then (subject_with place.Request signing r.info.subject_public_key_info) (λ subject.
    and_then (with_taken params r taken) (λ decided. Ok (subject, name_by taken.takes_subject r.info.subject own, decided)))

-- the subject, its name, and the parameters with what its request decides
abbrev pub subject_of : Option (List ℕ) → Option (List ℕ) → Signing → RequestUse → Option Name → ParamsView → Result (Subject × Option Name × ParamsView) Fault
subject_of (Some info) None signing taken own params =
    and_then (refuse (takes_some taken) (Missing block.Request)) (λ u.
    and_then (subject_in info signing) (λ subject. Ok (subject, own, params)))
subject_of None (Some octets) signing taken own params =
    and_then (request_of octets taken.is_unchecked) (λ r. requested_subject r signing taken own params)
subject_of (Some info) (Some octets) signing taken own params = Err (Unused block.PublicKey)
subject_of None None signing taken own params = Err (Missing block.PublicKey)

-- how the subject's own key signs, where it does
abbrev pub own_signing : Bool → Signing → Signing
own_signing has_issuer signing = cond has_issuer any_signing signing

-- it doesn't end before it begins (RFC 5280, 4.1.2.5)
abbrev pub ends_last : ℤ → ℤ → Result (Unit {0}) Fault
ends_last start end = refuse (not (int_le start end)) EndsFirst

-- the subject's own key, where it is one that signs
abbrev pub own_key : Place → Subject → Result Key Fault
own_key place (Known key) = Ok key
own_key place (Other info) = Err (fault.Key place (Unknown info.algorithm.algorithm))

-- the block that the subject's key is in
abbrev pub subject_place : Option (List ℕ) → Place
subject_place (Some request) = place.Request
subject_place None = place.PublicKey

-- the key that signs
abbrev pub signing_key : Option (List ℕ) → Signing → Place → Subject → Result Key Fault
signing_key (Some issuer) signing place subject = authority_key issuer signing
signing_key None signing place subject = own_key place subject

-- what the certificate says, but for what its request decides
unfoldable pub params_asked : CertificateContent → Option ℕ → Access → Option Preset → Bool → Result ParamsView Fault
params_asked content days access preset has_issuer =
    and_then (fits_preset preset has_issuer) (λ u.
    and_then (certificate_params content days access) (λ params.
    and_then (ends_last params.not_before params.not_after) (λ u. Ok params)))

-- the name of these parts
abbrev pub name_of : Option (List RelativeDistinguishedName) → Option Name
name_of parts = option_map RdnSequence parts

unfoldable pub certificate_asked : CertificateOrder → Option Preset → Blocks → Result CertificateAsked Fault
certificate_asked order preset blocks =
    and_then (params_asked order.content order.days order.access preset (is_some blocks.certificate)) (λ params.
    and_then (subject_of blocks.public_key blocks.request (own_signing (is_some blocks.certificate) order.signing) order.request (name_of order.parts) params)
    (λ subject.
    and_then (with_common_names order.copy_cn order.request subject.1 subject.2) (λ named.
    and_then (signing_key blocks.certificate order.signing (subject_place blocks.request) subject.0) (λ key.
    Ok (record { params = named; name = subject.1; subject = subject.0; issuer = blocks.certificate; key = key; weak_key = order.weak_key })))))

-- ---- requests, revocation lists and attribute certificates

-- the info of the key that a request is for, which alone comes after its order
unfoldable pub request_info : Blocks → Result (List ℕ) Fault
request_info blocks =
    and_then (refuse (is_some blocks.request) (Unused block.Request)) (λ u.
    and_then (refuse (is_some blocks.certificate) (Unused block.Certificate)) (λ u.
    some_or blocks.public_key (Missing block.PublicKey)))

unfoldable pub request_asked : RequestOrder → Blocks → Result RequestAsked Fault
request_asked order blocks =
    and_then (request_info blocks) (λ info.
    and_then (public_key place.PublicKey info order.signing) (λ key.
    and_then (content_params order.content) (λ params.
    Ok (record { params = params; name = name_of order.parts; key = key; weak_key = order.weak_key }))))

-- the issuer's certificate, which alone comes after the order
unfoldable pub issuer_alone : Blocks → Result (List ℕ) Fault
issuer_alone blocks =
    and_then (refuse (is_some blocks.public_key) (Unused block.PublicKey)) (λ u.
    and_then (refuse (is_some blocks.request) (Unused block.Request)) (λ u.
    some_or blocks.certificate (Missing block.Certificate)))

unfoldable pub list_asked : ListOrder → Blocks → Result ListAsked Fault
list_asked order blocks =
    and_then (issuer_alone blocks) (λ issuer.
    and_then (authority_key issuer order.signing) (λ key.
    Ok (record { params = list_of_profile order.content; base = order.base; issuer = issuer; key = key })))

unfoldable pub attribute_asked : AttributeOrder → Blocks → Result AttributeAsked Fault
attribute_asked order blocks =
    and_then (issuer_alone blocks) (λ issuer.
    and_then (attribute_authority_key issuer order.signing) (λ key.
    and_then (attribute_params order) (λ params.
    and_then (ends_last params.not_before params.not_after) (λ u.
    Ok (record { params = params; issuer = issuer; key = key })))))

-- what an order comes to with the blocks after it
unfoldable pub job_of : Order → Blocks → Result Job Fault
job_of (ordered.Certificate order preset) blocks = and_then (certificate_asked order preset blocks) (λ a. Ok (job.Certificate a))
job_of (ordered.Request order) blocks = and_then (request_asked order blocks) (λ a. Ok (job.Request a))
job_of (ordered.List order) blocks = and_then (list_asked order blocks) (λ a. Ok (job.List a))
job_of (ordered.Attribute order) blocks = and_then (attribute_asked order blocks) (λ a. Ok (job.Attribute a))

-- ---- who issues

-- a certificate's subject whose key may sign certificates (RFC 5280, 4.2.1.3)
unfoldable pub certificate_issuer : List ℕ → Key → Result IssuerView Fault
certificate_issuer issuer key =
    and_then (certified issuer) (λ c.
    and_then (refuse (not (signs_certificates c.usages)) (Issuer NoCertSign)) (λ u.
    Ok (with_key c key)))

-- the subject as its own issuer, under its name
abbrev pub own_named : Option Name → ParamsView → Key → IssuerView
own_named None params key = own_view params key
own_named (Some name) params key = issuer_view (encodable_name name) params.key_identifier_method params.key_usages key

-- the subject itself, where no certificate of an issuer comes after the order
abbrev pub issuer_by : Option (List ℕ) → Option Name → ParamsView → Key → Result IssuerView Fault
issuer_by None name params key = Ok (own_named name params key)
issuer_by (Some issuer) name params key = certificate_issuer issuer key

abbrev pub issuer_in : CertificateAsked → Result IssuerView Fault
issuer_in a = issuer_by a.issuer a.name a.params a.key

-- that of a list; whether its key may sign lists is a cause of the list
unfoldable pub list_issuer : List ℕ → Key → Result IssuerView Fault
list_issuer issuer key = and_then (certified issuer) (λ c. Ok (with_key c key))

abbrev pub list_issuer_in : ListAsked → Result IssuerView Fault
list_issuer_in a = list_issuer a.issuer a.key

-- that of an attribute certificate: its key may sign (RFC 5755, 4.5)
unfoldable pub attribute_issuer : List ℕ → Key → Result IssuerView Fault
attribute_issuer issuer key =
    and_then (certified issuer) (λ c.
    and_then (refuse (not (signs_digitally c.usages)) (Issuer NoDigitalSignature)) (λ u.
    Ok (with_key c key)))

abbrev pub attribute_issuer_in : AttributeAsked → Result IssuerView Fault
attribute_issuer_in a = attribute_issuer a.issuer a.key

-- ---- what is to be signed

abbrev pub fault_by_attribute_cause : AttributeCause → Fault
fault_by_attribute_cause no_attributes = Obstacle obstacle.NoAttributes
fault_by_attribute_cause repeated_attribute = Obstacle obstacle.RepeatedAttribute
fault_by_attribute_cause (refused c) = fault_by_cause c

abbrev pub fault_by_attribute_error : AttrError → Fault
fault_by_attribute_error error.NoAttributes = Obstacle obstacle.NoAttributes
fault_by_attribute_error error.RepeatedAttribute = Obstacle obstacle.RepeatedAttribute
fault_by_attribute_error (error.Refused e) = fault_of e
fault_by_attribute_error error.OutOfMemory = OutOfMemory

-- there is no cause against an attribute certificate
abbrev pub no_attribute_cause : Option AttributeCause → Result (Unit {0}) Fault
no_attribute_cause None = Ok tt
no_attribute_cause (Some c) = Err (fault_by_attribute_cause c)

-- the info of the subject's key has a DER encoding, as each that was read has
abbrev pub has_info : Subject → Result (Unit {0}) Fault
has_info (Known key) = Ok tt
has_info (Other info) = and_then (encoded subject_public_key_info (fault.Key place.PublicKey NotRead) info) (λ octets. Ok tt)

-- the subject's name has a DER encoding, as each that was read has
abbrev pub has_name_octets : Option Name → Result (Unit {0}) Fault
has_name_octets None = Ok tt
has_name_octets (Some name) = and_then (encoded name_codec NameNotKept name) (λ octets. Ok tt)

-- why nothing is to be signed for it
abbrev pub ready : Job → Result (Unit {0}) Fault
ready (job.Certificate a) =
    and_then (issuer_in a) (λ issuer.
    and_then (has_info a.subject) (λ u.
    and_then (has_name_octets a.name) (λ u. no_cause (first_cause a.params issuer.name))))
ready (job.Request a) = and_then (has_name_octets a.name) (λ u. no_cause (first_request_cause a.params []))
ready (job.List a) = and_then (list_issuer_in a) (λ issuer. no_cause (first_crl_cause a.params issuer))
ready (job.Attribute a) = and_then (attribute_issuer_in a) (λ issuer. no_attribute_cause (first_attribute_cause a.params issuer.name))

-- the message is the DER of what is to be signed for it
abbrev pub IsMessage : Job → List ℕ → Type 0
IsMessage (job.Certificate a) message =
    (issuer : IssuerView) × (issuer_in a ≡ Ok issuer) × IsCertificateMessageAs a.params a.subject a.name issuer message
IsMessage (job.Request a) message = IsRequestMessageAs a.params a.key a.name message
IsMessage (job.List a) message = (issuer : IssuerView) × (list_issuer_in a ≡ Ok issuer) × IsListMessage a.base a.params issuer message
IsMessage (job.Attribute a) message =
    (issuer : IssuerView) × (attribute_issuer_in a ≡ Ok issuer) × IsAttributeMessage a.params issuer message

-- the one signature that is taken
abbrev pub Is : List ℕ → List ℕ → List ℕ → Type 0
Is given message signature = signature ≡ given

-- der is what is issued for it over the message with this signature
abbrev pub IsSealed : Job → List ℕ → List ℕ → List ℕ → Type 0
IsSealed (job.Certificate a) message signature der =
    (issuer : IssuerView) × (issuer_in a ≡ Ok issuer) × IsCertificateOverAs a.params a.subject a.name issuer (Is signature) message der
IsSealed (job.Request a) message signature der = IsRequestOverAs a.params a.key a.name (Is signature) message der
IsSealed (job.List a) message signature der =
    (issuer : IssuerView) × (list_issuer_in a ≡ Ok issuer) × IsListOver a.base a.params issuer (Is signature) message der
IsSealed (job.Attribute a) message signature der =
    (issuer : IssuerView) × (attribute_issuer_in a ≡ Ok issuer) × IsAttributeOver a.params issuer (Is signature) message der

-- the label of the text of what is issued (RFC 7468, 5 to 7 and 12)
abbrev pub label : Job → List ℕ
label (job.Certificate a) = codes "CERTIFICATE"
label (job.Request a) = codes "CERTIFICATE REQUEST"
label (job.List a) = codes "X509 CRL"
label (job.Attribute a) = codes "ATTRIBUTE CERTIFICATE"

-- the key that signs
abbrev pub key_of : Job → Key
key_of (job.Certificate a) = a.key
key_of (job.Request a) = a.key
key_of (job.List a) = a.key
key_of (job.Attribute a) = a.key

-- der is what is issued for it with this signature, which is taken over its message
pub record IsSealedWith (j : Job) (message signature der : List ℕ) : Type 0 where
  pub ready : ready j ≡ Ok tt
  pub is_message : IsMessage j message
  pub taken : checked (key_of j) message signature ≡ Ok tt
  pub sealed : IsSealed j message signature der

-- this signature isn't taken over its message
pub record IsNotTaken (j : Job) (signature : List ℕ) (fault : Fault) : Type 0 where
  pub message : List ℕ
  pub ready : ready j ≡ Ok tt
  pub is_message : IsMessage j message
  pub refused : checked (key_of j) message signature ≡ Err fault

-- why nothing is issued for it with this signature
abbrev pub HasSealFault : Job → List ℕ → Fault → Type 0
HasSealFault j signature fault = (ready j ≡ Err fault) ⊎ IsNotTaken j signature fault

-- the rules that what is to be signed breaks, beside its issuer's certificate, and that a weak key isn't accepted
abbrev pub broken_rules : Job → List ℕ → List Rule
broken_rules (job.Certificate a) message = with_weak_key a.weak_key (certificate_rules message a.issuer)
broken_rules (job.Request a) message = with_weak_key a.weak_key (request_rules message)
broken_rules (job.List a) message = list_rules message (Some a.issuer)
broken_rules (job.Attribute a) message = attribute_certificate_rules message (Some a.issuer)
