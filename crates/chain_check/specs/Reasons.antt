-- Why a certificate isn't taken at its place of a path (RFC 5280, 6.1.3 and 6.1.4).
use Rattle.std.specs.Prelude.{Bool, List, MatchOption, drop, false, length, nat_lt, true, ℕ, [], ◌||◌, ◌+◌, ◌<ℤ◌, ◌<◌, ◌∷◌, ◌≡◌, ◌⊎◌}
use Rattle.std.specs.List.{list_any}
use Rattle.jiff.specs.Types.{DateTime}
use Rattle.jiff.specs.Words.{civil_nanos}
use Rattle.asn1_core.specs.Bits.{has_bit}
use Rattle.asn1_core.specs.Twos.{is_negative, number}
use Rattle.der_tree.specs.Form.{IsDerOf}
use Rattle.pkix_cert.specs.Algorithms.{algorithm_identifier, subject_public_key_info}
use Rattle.pkix_cert.specs.Certificates.{tbs_certificate}
use Rattle.pkix_cert.specs.declared.certificate.Certificate.{Certificate}
use Rattle.pkix_cert.specs.Times.{moment_of}
use Rattle.chain_check.specs.Extensions.{AreReadable, basic_constraints_of, extensions_of, is_unhandled, key_usage_of}
use Rattle.chain_check.specs.Inputs.{Inputs, Place}
use Rattle.chain_check.specs.declared.error.ChainReason.{ChainReason}
use Rattle.chain_check.specs.declared.error.ChainReason.TheVariants.{Empty, NotCertificate, AlgorithmsDiffer, NotYetValid, Expired, BadExtension}
use Rattle.chain_check.specs.declared.error.ChainReason.TheVariants.{UnhandledCritical, NotCa, NoCertSign, PathTooLong, NameMismatch, BadSignature}

abbrev pub IsEarlier : DateTime → DateTime → Type 0
IsEarlier a b = civil_nanos a <ℤ civil_nanos b

-- its issuer and its subject are one (RFC 5280, 6.1)
abbrev pub IsSelfIssued : Certificate → Type 0
IsSelfIssued c = c.tbs_certificate.issuer ≡ c.tbs_certificate.subject

-- so many of the certificates aren't self-issued
abbrev pub AreNotSelfIssued : List Certificate → ℕ → Type 0
AreNotSelfIssued [] n = n ≡ 0
AreNotSelfIssued (c ∷ cs) n = (IsSelfIssued c × AreNotSelfIssued cs n) ⊎ (¬ (IsSelfIssued c) × ((m : ℕ) × (n ≡ m + 1) × AreNotSelfIssued cs m))

-- a negative number is below every count
abbrev pub is_below : List ℕ → ℕ → Bool
is_below n count = is_negative n || nat_lt (number n) count

-- it is at the second place or a later one, so it issued another of the chain
abbrev pub IsIssuing : Place → Type 0
IsIssuing p = 0 < length p.before

-- the signature has whole octets, and is accepted of the very octets that are signed, under the key of the next certificate
pub record IsSigned (x : Inputs) (p : Place) : Type 0 where
  pub info : List ℕ
  pub key_info : List ℕ
  pub algorithm : List ℕ
  pub is_info : IsDerOf tbs_certificate p.this.tbs_certificate info
  pub is_key_info : IsDerOf subject_public_key_info p.issuer.tbs_certificate.subject_public_key_info key_info
  pub is_algorithm : IsDerOf algorithm_identifier p.this.signature_algorithm algorithm
  pub whole : p.this.signature_value.unused ≡ 0
  pub accepted : x.accepts info key_info algorithm p.this.signature_value.bytes ≡ true

-- the condition of each reason; the first two are of the whole input, and not of a place within a path
abbrev pub Breaks : Inputs → Place → ChainReason → Type 0
Breaks x p Empty = ⊥
Breaks x p NotCertificate = ⊥
Breaks x p AlgorithmsDiffer = ¬ (p.this.tbs_certificate.signature ≡ p.this.signature_algorithm)
Breaks x p NotYetValid = IsEarlier x.at (moment_of p.this.tbs_certificate.validity.not_before)
Breaks x p Expired = IsEarlier (moment_of p.this.tbs_certificate.validity.not_after) x.at
Breaks x p BadExtension = ¬ (AreReadable (extensions_of p.this))
Breaks x p UnhandledCritical = list_any is_unhandled (extensions_of p.this) ≡ true
Breaks x p NotCa = IsIssuing p × MatchOption (basic_constraints_of p.this) (Unit {0}) (λ b. b.ca ≡ false)
Breaks x p NoCertSign = IsIssuing p × MatchOption (key_usage_of p.this) ⊥ (λ usage. has_bit usage 5 ≡ false)
Breaks x p PathTooLong = IsIssuing p × MatchOption (basic_constraints_of p.this) ⊥ (λ b. MatchOption b.path_len_constraint ⊥
    (λ most. (n : ℕ) × AreNotSelfIssued (drop 1 p.before) n × (is_below most n ≡ true)))
Breaks x p NameMismatch = ¬ (p.this.tbs_certificate.issuer ≡ p.issuer.tbs_certificate.subject)
Breaks x p BadSignature = ¬ (IsSigned x p)
