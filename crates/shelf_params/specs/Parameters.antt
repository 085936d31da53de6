-- What the order of a certificate asks for, as parameters.
use Rattle.std.specs.Prelude.{ℕ, ℤ, pos, ◌+ℤ◌, ◌*ℤ◌, nat_eq, Bool, true, false, ◌&&◌, ◌||◌, not, cond, List, [], ◌∷◌, ◌++◌, Option, Some, None, Result, Ok, refl}
use Rattle.std.specs.Cmp.Lexicographic.{pointwise}
use Rattle.std.specs.List.{list_all, list_any}
use Rattle.asn1_core.specs.StringTypes.{ia5}
use Rattle.asn1_core.specs.Texts.{text_of}
use Rattle.der_tree.specs.Codec.{Codec}
use Rattle.der_tree.specs.Grammar.{sequence_of}
use Rattle.pkix_cert.specs.ExtensionIds.{ce_certificate_policies, id_ce}
use Rattle.pkix_name.specs.declared.general_name.GeneralName.TheVariants.{Uri}
use Rattle.pkix_trust.specs.Accesses.{access_description}
use Rattle.pkix_trust.specs.Policies.{policy_information}
use Rattle.pkix_trust.specs.declared.access.AccessDescription.{AccessDescription}
use Rattle.pkix_trust.specs.declared.policy.PolicyInformation.{PolicyInformation}
use Rattle.toml_format.specs.declared.certificate.CertificateContent.{CertificateContent}
use Rattle.toml_format.specs.declared.certificate.Constraints.{Constraints}
use Rattle.toml_format.specs.declared.certificate.ExtensionEntry.{ExtensionEntry}
use Rattle.toml_format.specs.declared.issuer.Name.{Name}
use Rattle.toml_format.specs.declared.issuer.Name.TheVariants.{CommonName, Default, Subject}
use Rattle.toml_format.specs.declared.subtree.Subtree.{Subtree}
use Rattle.profile_params.specs.Certificates.{params_of_profile}
use Rattle.profile_params.specs.Names.{name_of_profile}
use Rattle.rcgen_certificate.specs.CustomExtensions.{Custom, not_critical}
use Rattle.rcgen_certificate.specs.ParamsView.{ParamsView}
use Rattle.rcgen_certificate.specs.WrittenTimes.{is_utc}
use Rattle.rcgen_text.specs.Names.{Entry, has_type}
use Rattle.shelf_fault.specs.Faults.{and_then, identifier, some_or}
use Rattle.shelf_fault.specs.declared.fault.Fault.{Fault}
use Rattle.shelf_fault.specs.declared.fault.Fault.TheVariants.{Obstacle}
use Rattle.shelf_fault.specs.declared.fault.Obstacle.TheVariants as obstacle
use Rattle.shelf_profile.specs.declared.access.Access.{Access}
use Rattle.shelf_keys.specs.Encoded.{encoded}
use Rattle.shelf_keys.specs.Refusing.{refuse}
use Rattle.strict_der.specs.Strict.{is_strict}

-- ---- until when

-- the instant so many days later, each of 86,400 seconds, where both have a form in UTC
abbrev pub later : ℤ → ℕ → Option ℤ
later start days = let end = start +ℤ pos days *ℤ pos 86_400_000_000_000 in cond (is_utc start && is_utc end) (Some end) None

-- so many days after the start
unfoldable pub end_after : ℤ → ℕ → Result ℤ Fault
end_after start days = some_or (later start days) (Obstacle obstacle.Time)

-- the same where days are given, and else this instant
abbrev pub end_of : ℤ → Option ℕ → ℤ → Result ℤ Fault
end_of start None at = Ok at
end_of start (Some days) at = end_after start days

-- ---- where more is found, and policies

-- what is made of each, in order, or the first fault
abbrev pub each_of : {A B : Type 0} → (A → Result B Fault) → List A → Result (List B) Fault
each_of make [] = Ok []
each_of make (x ∷ xs) = and_then (make x) (λ y. and_then (each_of make xs) (λ ys. Ok (y ∷ ys)))

-- id-pe-authorityInfoAccess, id-ad-ocsp and id-ad-caIssuers (RFC 5280, 4.2.2.1)
abbrev pub id_pe_authority_info_access : List ℕ
id_pe_authority_info_access = 1 ∷ 3 ∷ 6 ∷ 1 ∷ 5 ∷ 5 ∷ 7 ∷ 1 ∷ 1 ∷ []

abbrev pub id_ad_ocsp : List ℕ
id_ad_ocsp = 1 ∷ 3 ∷ 6 ∷ 1 ∷ 5 ∷ 5 ∷ 7 ∷ 48 ∷ 1 ∷ []

abbrev pub id_ad_ca_issuers : List ℕ
id_ad_ca_issuers = 1 ∷ 3 ∷ 6 ∷ 1 ∷ 5 ∷ 5 ∷ 7 ∷ 48 ∷ 2 ∷ []

abbrev pub bad_identifier : Fault
bad_identifier = Obstacle obstacle.Identifier

-- the text as a URI (RFC 5280, 4.2.1.6)
abbrev pub uri : List ℕ → Result (List ℕ) Fault
uri text = some_or (text_of ia5 text) (Obstacle obstacle.Text)

-- what is found at a URI, by a method
unfoldable pub access : List ℕ → List ℕ → Result AccessDescription Fault
access method text = and_then (uri text) (λ t. Ok (record { access_method = method; access_location = Uri t }))

-- what is found at these URIs, by a method
abbrev pub accesses : List ℕ → List (List ℕ) → Result (List AccessDescription) Fault
accesses method uris = each_of (access method) uris

-- the extension with these values, not critical; none where there are no values
abbrev pub extension_of_list : {A : Type 0} → Codec A → List ℕ → List A → Result (List Custom) Fault
extension_of_list c id [] = Ok []
extension_of_list c id (x ∷ rest) =
    and_then (encoded (sequence_of c 0 None refl) bad_identifier (x ∷ rest)) (λ contents.
    Ok (not_critical id contents ∷ []))

-- responders, and then certificates (RFC 5280, 4.2.2.1); no extension where neither is given
unfoldable pub access_extension : List (List ℕ) → List (List ℕ) → Result (List Custom) Fault
access_extension ocsp ca_issuers =
    and_then (accesses id_ad_ocsp ocsp) (λ responders.
    and_then (accesses id_ad_ca_issuers ca_issuers) (λ certificates.
    extension_of_list access_description id_pe_authority_info_access (responders ++ certificates)))

-- a policy without qualifiers
unfoldable pub policy : List ℕ → Result PolicyInformation Fault
policy arcs = and_then (identifier arcs) (λ id. Ok (record { policy_identifier = id; policy_qualifiers = None }))

abbrev pub policies_of : List (List ℕ) → Result (List PolicyInformation) Fault
policies_of policies = each_of policy policies

-- a policy occurs again further on
abbrev pub repeats_policy : List PolicyInformation → Bool
repeats_policy [] = false
repeats_policy (p ∷ ps) = list_any (λ other. pointwise nat_eq other.policy_identifier p.policy_identifier) ps || repeats_policy ps

-- the policies that it is issued under, each once (RFC 5280, 4.2.1.4); no extension where none are given
unfoldable pub policy_extension : List (List ℕ) → Result (List Custom) Fault
policy_extension policies =
    and_then (policies_of policies) (λ list.
    and_then (refuse (repeats_policy list) (Obstacle obstacle.RepeatedPolicy)) (λ u.
    extension_of_list policy_information (id_ce ce_certificate_policies) list))

-- both, before the extensions that are given
unfoldable pub with_access : Access → List Custom → Result (List Custom) Fault
with_access access given =
    and_then (policy_extension access.policies) (λ policies.
    and_then (access_extension access.ocsp access.ca_issuers) (λ places.
    Ok (policies ++ places ++ given)))

-- ---- names

-- the attributes of a name as the order gives them, one by one
abbrev pub given_attributes : Name → List Entry
given_attributes (Subject attributes) = attributes
given_attributes (CommonName text) = []
given_attributes Default = []

-- the type of some attribute occurs again further on
abbrev pub has_repeated_type : List Entry → Bool
has_repeated_type [] = false
has_repeated_type (e ∷ es) = list_any (has_type e.dn_type) es || has_repeated_type es

-- no type occurs twice in the name: of two the last alone would stay
abbrev pub types_once : Name → Result (Unit {0}) Fault
types_once n = refuse (has_repeated_type (given_attributes n)) (Obstacle obstacle.RepeatedType)

-- the name, where no type occurs twice
unfoldable pub distinct_name : Name → Result (List Entry) Fault
distinct_name n = and_then (types_once n) (λ u. Ok (name_of_profile n))

-- what the order says, where no type occurs twice in its subject
unfoldable pub named_params : CertificateContent → Result ParamsView Fault
named_params content = and_then (types_once content.name) (λ u. Ok (params_of_profile content))

-- the contents of each extension that the order gives are one element of strict DER (RFC 5280, 4.1: "the DER encoding of an ASN.1 value")
abbrev pub contents_strict : List ExtensionEntry → Result (Unit {0}) Fault
contents_strict extensions = refuse (not (list_all (λ e. is_strict e.content) extensions)) (Obstacle obstacle.ExtensionContent)

-- the same, where they are
unfoldable pub content_params : CertificateContent → Result ParamsView Fault
content_params content = and_then (contents_strict content.extensions) (λ u. named_params content)

-- the list is there, and no subtree in it
abbrev pub has_no_subtree : Option (List Subtree) → Bool
has_no_subtree (Some []) = true
has_no_subtree _ = false

-- a list of subtrees has one at least (RFC 5280, 4.2.1.10)
unfoldable pub subtrees_said : Constraints → Result (Unit {0}) Fault
subtrees_said c = refuse (has_no_subtree c.permitted || has_no_subtree c.excluded) (Obstacle obstacle.NoSubtree)

-- ---- the parameters

-- with this end, and these extensions
abbrev pub params_with : ParamsView → ℤ → List Custom → ParamsView
params_with params end extensions = record (params) { not_after = end; custom_extensions = extensions }

-- the end, and the extensions that the order asks for beside the parameters
abbrev pub completed : ParamsView → Option ℕ → Access → Result ParamsView Fault
completed params days access =
    and_then (end_of params.not_before days params.not_after) (λ end.
    and_then (with_access access params.custom_extensions) (λ extensions.
    Ok (params_with params end extensions)))

-- what the order says, but for what its request may decide
unfoldable pub certificate_params : CertificateContent → Option ℕ → Access → Result ParamsView Fault
certificate_params content days access =
    and_then (subtrees_said content.constraints) (λ u.
    and_then (content_params content) (λ params. completed params days access))
