-- Why no attribute certificate is issued, and which error a first cause explains.
use Rattle.std.specs.Prelude.{◌≡◌, ◌==◌, ◌<◌, ℕ, Bool, true, false, ◌&&◌, ◌||◌, not, nat_eq, cond, length, List, [], ◌∷◌, map, Option, Some, None, is_some}
use Rattle.std.specs.Cmp.Lexicographic.{pointwise}
use Rattle.std.specs.List.{list_all, list_any, slice_get}
use Rattle.std.specs.Option.{option_map, option_or}
use Rattle.asn1_core.specs.Arcs.{is_oid}
use Rattle.pkix_name.specs.declared.name.Name.{Name}
use Rattle.rcgen_text.specs.Causes.{Cause, Origin, attribute_values, cause, first, identifier, key, memory, origin_of, time, when}
use Rattle.rcgen_text.specs.declared.error.Error.{Error}
use Rattle.rcgen_text.specs.declared.error.Error.TheVariants.{OutOfMemory as NoMemory}
use Rattle.rcgen_certificate.specs.NameValues.{issuer_name}
use Rattle.rcgen_certificate.specs.Requests.{Given, values_of}
use Rattle.rcgen_certificate.specs.WrittenTimes.{is_utc}
use Rattle.attr_issue.specs.AttributeCertificateView.{AttributeCertificateView}
use Rattle.attr_issue.specs.declared.error.AttrError.{AttrError}
use Rattle.attr_issue.specs.declared.error.AttrError.TheVariants as error

-- ---- the types of attributes (RFC 5755, 4.2.7)

-- the arcs of each one's type
abbrev pub types_of : List Given → List (List ℕ)
types_of attributes = map (λ a. a.oid) attributes

-- some arcs occur again further on; the law `repeated_type_exactly` says so by their places
abbrev pub is_repeated : List (List ℕ) → Bool
is_repeated [] = false
is_repeated (t ∷ ts) = list_any (λ u. pointwise nat_eq u t) ts || is_repeated ts

-- the same arcs occur at two places
pub record StandsTwice (types : List (List ℕ)) : Type 0 where
  pub arcs : List ℕ
  pub earlier : ℕ
  pub later : ℕ
  pub in_order : earlier < later
  pub at_earlier : slice_get types earlier ≡ Some arcs
  pub at_later : slice_get types later ≡ Some arcs

-- ---- an attribute that is given

-- its type is an object identifier
abbrev pub has_type : Given → Bool
has_type a = is_oid a.oid

-- its octets are the form of a set of some values
abbrev pub has_set : Given → Bool
has_set a = is_some (values_of a.values)

-- ---- causes

pub data AttributeCause : Type 0 where
  no_attributes : AttributeCause
  repeated_attribute : AttributeCause
  -- one of those against any kind that is issued
  refused : Cause → AttributeCause

-- there is no attribute (RFC 5755, 4.2.7), or two have the same type (4.2.7: each type once)
abbrev pub attributes_cause : List Given → Option AttributeCause
attributes_cause attributes =
    cond (length attributes == 0) (Some no_attributes) (cond (is_repeated (types_of attributes)) (Some repeated_attribute) None)

-- both times have a form in UTC
abbrev pub has_times : AttributeCertificateView → Bool
has_times params = is_utc params.not_before && is_utc params.not_after

-- each type of the name of the holder's issuer and each attribute is named by an object identifier
abbrev pub all_oids_valid : AttributeCertificateView → Bool
all_oids_valid params = is_some (issuer_name params.holder_issuer) && list_all has_type params.attributes

-- of those against any kind that is issued: a time is none in UTC from 0000 to 9999 (RFC 5755, 4.2.6), an identifier is
-- none (4.2.2, 4.2.3, 4.2.7), or the values of an attribute aren't a set of at least one (4.2.7)
abbrev pub refused_cause : AttributeCertificateView → Option Name → Option Cause
refused_cause params issuer = first (
    when (not (has_times params)) time
    ∷ when (not (is_some issuer && all_oids_valid params)) identifier
    ∷ when (not (list_all has_set params.attributes)) attribute_values
    ∷ [])

-- why nothing is issued for the parameters under the issuer's name: the attributes' own causes come before the others
abbrev pub first_attribute_cause : AttributeCertificateView → Option Name → Option AttributeCause
first_attribute_cause params issuer = option_or (attributes_cause params.attributes) (option_map refused (refused_cause params issuer))

-- none against the times and the identifiers, for each part
pub record HasNoEarlyCause (params : AttributeCertificateView) (issuer : Option Name) : Type 0 where
  pub not_before : is_utc params.not_before ≡ true
  pub not_after : is_utc params.not_after ≡ true
  pub issuer_types : is_some issuer ≡ true
  pub holder_types : is_some (issuer_name params.holder_issuer) ≡ true
  pub attribute_types : list_all has_type params.attributes ≡ true

-- ---- errors

-- an error of another kind, as this kind has it
abbrev pub attribute_error : Error → AttrError
attribute_error NoMemory = error.OutOfMemory
attribute_error e = error.Refused e

-- where an error comes from
pub data AttributeOrigin : Type 0 where
  from_no_attributes : AttributeOrigin
  from_repeated_attribute : AttributeOrigin
  from_refusal : Origin → AttributeOrigin
  from_memory : AttributeOrigin

abbrev pub attribute_origin : AttrError → AttributeOrigin
attribute_origin error.NoAttributes = from_no_attributes
attribute_origin error.RepeatedAttribute = from_repeated_attribute
attribute_origin (error.Refused e) = from_refusal (origin_of e)
attribute_origin error.OutOfMemory = from_memory

-- lack of memory isn't a refusal, a key refuses only where there is no cause, and a cause is the one that was found
abbrev pub ExplainsRefused : Option AttributeCause → Type 0 → Origin → Type 0
ExplainsRefused found refuses memory = ⊥
ExplainsRefused found refuses key = (found ≡ None) × refuses
ExplainsRefused found refuses (cause c) = found ≡ Some (refused c)

-- memory may run out at any time
abbrev pub ExplainsAttribute : Option AttributeCause → Type 0 → AttrError → Type 0
ExplainsAttribute found refuses error.NoAttributes = found ≡ Some no_attributes
ExplainsAttribute found refuses error.RepeatedAttribute = found ≡ Some repeated_attribute
ExplainsAttribute found refuses (error.Refused e) = ExplainsRefused found refuses (origin_of e)
ExplainsAttribute found refuses error.OutOfMemory = Unit {0}
