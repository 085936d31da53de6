-- Where an error comes from, and which one a call may answer.
use Rattle.std.specs.Prelude.{◌≡◌, ℕ, Bool, cond, List, [], ◌∷◌, Option, Some, None, Result, Ok, Err, string_bytes}
use Rattle.std.specs.Option.{option_or}
use Rattle.rcgen_text.specs.declared.error.Error.{Error}
use Rattle.rcgen_text.specs.declared.error.Error.TheVariants as error
use Rattle.rcgen_text.specs.declared.error.InvalidAsn1String.{InvalidAsn1String}
use Rattle.rcgen_text.specs.declared.error.InvalidAsn1String.TheVariants as invalid

-- a cause that lies in what is asked for or read, with the bytes of its text
pub data Cause : Type 0 where
  not_certificate : Cause
  not_request : Cause
  request_signature : Cause
  name_type : Cause
  printable_text : List ℕ → Cause
  universal_text : List ℕ → Cause
  ia5_text : List ℕ → Cause
  teletex_text : List ℕ → Cause
  bmp_text : List ℕ → Cause
  address_length : ℕ → Cause
  unsupported_extension : Cause
  unsupported_algorithm : Cause
  time : Cause
  unsupported_in_csr : Cause
  next_update : Cause
  not_crl_signer : Cause
  empty_uris : Cause
  x509 : List ℕ → Cause
  identifier : Cause
  attribute_values : Cause

-- where an error comes from
pub data Origin : Type 0 where
  memory : Origin
  key : Origin
  cause : Cause → Origin

abbrev pub text_cause : InvalidAsn1String → Cause
text_cause (invalid.PrintableString s) = printable_text (string_bytes s)
text_cause (invalid.UniversalString s) = universal_text (string_bytes s)
text_cause (invalid.Ia5String s) = ia5_text (string_bytes s)
text_cause (invalid.TeletexString s) = teletex_text (string_bytes s)
text_cause (invalid.BmpString s) = bmp_text (string_bytes s)

abbrev pub origin_of : Error → Origin
origin_of error.CouldNotParseCertificate = cause not_certificate
origin_of error.CouldNotParseCertificationRequest = cause not_request
origin_of error.InvalidCertificationRequestSignature = cause request_signature
origin_of error.InvalidNameType = cause name_type
origin_of (error.InvalidAsn1String e) = cause (text_cause e)
origin_of (error.InvalidIpAddressOctetLength n) = cause (address_length n)
origin_of error.UnsupportedExtension = cause unsupported_extension
origin_of error.UnsupportedSignatureAlgorithm = cause unsupported_algorithm
origin_of error.Time = cause time
origin_of error.RemoteKeyError = key
origin_of error.UnsupportedInCsr = cause unsupported_in_csr
origin_of error.InvalidCrlNextUpdate = cause next_update
origin_of error.IssuerNotCrlSigner = cause not_crl_signer
origin_of error.EmptyCrlDistributionPointUris = cause empty_uris
origin_of (error.X509 s) = cause (x509 (string_bytes s))
origin_of error.InvalidObjectIdentifier = cause identifier
origin_of error.InvalidAttributeValues = cause attribute_values
origin_of error.OutOfMemory = memory

abbrev pub when : Bool → Cause → Option Cause
when b c = cond b (Some c) None

-- the first of those that there are
abbrev pub first : List (Option Cause) → Option Cause
first [] = None
first (o ∷ os) = option_or o (first os)

-- a call that takes memory, which may run out at any time; one that takes none
abbrev pub TakesMemory : Type 0
TakesMemory = Unit {0}

abbrev pub TakesNone : Type 0
TakesNone = ⊥

-- No key is asked. Memory runs out only where some is taken, and a cause is the one that there is.
abbrev pub MayAnswer : Type 0 → Option Cause → Origin → Type 0
MayAnswer takes found memory = takes
MayAnswer takes found key = ⊥
MayAnswer takes found (cause c) = found ≡ Some c

-- what is made where there is no cause, and else the cause
abbrev pub Makes : {A : Type 0} → Type 0 → Option Cause → (A → Type 0) → Result A Error → Type 0
Makes takes found IsMade (Ok made) = IsMade made × (found ≡ None)
Makes takes found IsMade (Err e) = MayAnswer takes found (origin_of e)

-- Memory may run out at any time, a key refuses only where there is no cause, and a cause is the one that was found.
abbrev pub Explains : Option Cause → Type 0 → Origin → Type 0
Explains found refuses memory = Unit {0}
Explains found refuses key = (found ≡ None) × refuses
Explains found refuses (cause c) = found ≡ Some c
