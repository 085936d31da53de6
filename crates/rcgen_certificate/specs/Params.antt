-- What parameters say.
use Rattle.std.specs.Prelude.{◌≡◌, ℕ, ℤ, true, pos, ◌⊎◌, List, [], ◌∷◌, ◌++◌, codes}
use Rattle.std.specs.List.{AllByRecursion, AllZip}
use Rattle.rcgen_text.specs.Addresses.{IsAddressText}
use Rattle.rcgen_text.specs.AlternativeNames.{AlternativeName, dns_name, ip_address, alternative_name}
use Rattle.rcgen_text.specs.Causes.{cause, ia5_text, origin_of}
use Rattle.rcgen_text.specs.Dates.{IsMidnight}
use Rattle.rcgen_text.specs.Names.{Entry, common_name_alone}
use Rattle.rcgen_text.specs.declared.error.Error.{Error}
use Rattle.rcgen_text.specs.declared.ip.IpAddr.{IpAddr}
use Rattle.rcgen_text.specs.declared.san.SanType.{SanType}
use Rattle.rcgen_certificate.specs.AsciiTexts.{is_ascii}
use Rattle.rcgen_certificate.specs.ParamsView.{defaults_but, params_view}
use Rattle.rcgen_text.specs.declared.basic_constraints.IsCa.{IsCa}
use Rattle.rcgen_text.specs.declared.basic_constraints.IsCa.TheVariants.{NoCa}
use Rattle.rcgen_certificate.specs.declared.extended_key_usage.ExtendedKeyUsagePurpose.{ExtendedKeyUsagePurpose}
use Rattle.rcgen_text.specs.declared.key_usage.KeyUsagePurpose.{KeyUsagePurpose}
use Rattle.rcgen_certificate.specs.declared.params.CertificateParams.{CertificateParams}

-- both say the same, and their times by the same clocks
pub record SaysSame (params copy : CertificateParams) : Type 0 where
  pub view : params_view copy ≡ params_view params
  pub not_before : copy.not_before ≡ params.not_before
  pub not_after : copy.not_after ≡ params.not_after

-- ---- what they say where nothing is given

-- the years with whose first midnights the validity begins and ends
abbrev pub default_start : ℤ
default_start = pos 1975

abbrev pub default_end : ℤ
default_end = pos 4096

abbrev pub default_name : List Entry
default_name = common_name_alone (codes "rcgen self signed cert")

-- the defaults, but for what a request can ask for: the alternative names, of which this holds, the name, whether the subject is an authority, the
-- usages, and the purposes, of which this holds
pub record IsDefaultBut (AreNames : List SanType → Type 0) (name : List Entry) (authority : IsCa) (usages : List KeyUsagePurpose)
    (ArePurposes : List ExtendedKeyUsagePurpose → Type 0) (params : CertificateParams) : Type 0 where
  pub not_before : IsMidnight default_start 1 1 params.not_before
  pub not_after : IsMidnight default_end 1 1 params.not_after
  pub subject_alt_names : AreNames params.subject_alt_names.items
  pub distinguished_name : params.distinguished_name ≡ name
  pub is_ca : params.is_ca ≡ authority
  pub key_usages : params.key_usages.items ≡ usages
  pub extended_key_usages : ArePurposes params.extended_key_usages.items
  pub rest : params_view params ≡ defaults_but (params_view params)

-- the defaults, but for the alternative names, of which this holds
abbrev pub IsDefaultWith : (List SanType → Type 0) → CertificateParams → Type 0
IsDefaultWith AreNames params = IsDefaultBut AreNames default_name NoCa [] (λ purposes. purposes ≡ []) params

abbrev pub IsDefault : CertificateParams → Type 0
IsDefault params = IsDefaultWith (λ names. names ≡ []) params

-- ---- alternative names from texts (RFC 5280, 4.2.1.6)

-- the text is that of an IP address
abbrev pub HasAddress : List ℕ → Type 0
HasAddress text = (address : IpAddr) × IsAddressText text address

-- an address where the text is one, and else the DNS name of the text, which is ASCII
abbrev pub IsNameOfText : List ℕ → AlternativeName → Type 0
IsNameOfText text (ip_address address) = IsAddressText text address
IsNameOfText text (dns_name name) = ¬ (HasAddress text) × (is_ascii text ≡ true) × (name ≡ text)
IsNameOfText text _ = ⊥

-- the text is an address or ASCII
abbrev pub HasName : List ℕ → Type 0
HasName text = HasAddress text ⊎ (is_ascii text ≡ true)

-- the names are those of the texts, one for each, in order
abbrev pub AreNamesOfTexts : List (List ℕ) → List SanType → Type 0
AreNamesOfTexts texts names = AllZip (λ text name. IsNameOfText text (alternative_name name)) texts names

-- the error has the first of the texts that is neither an address nor ASCII
pub record IsFirstNameless (texts : List (List ℕ)) (e : Error) : Type 0 where
  pub before : List (List ℕ)
  pub text : List ℕ
  pub after : List (List ℕ)
  pub place : texts ≡ before ++ text ∷ after
  pub named : AllByRecursion HasName before
  pub nameless : ¬ (HasName text)
  pub error : origin_of e ≡ cause (ia5_text text)
