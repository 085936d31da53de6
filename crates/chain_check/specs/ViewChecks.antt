-- The same over the parts of certificates as they are in the input: what private steps answer; no promise cites this.
use Rattle.std.specs.Prelude.{Bool, List, None, Option, Some, cond, int_lt, not, false, true, ℕ, [], ◌&&◌, ◌+◌, ◌==◌, ◌||◌, ◌∷◌}
use Rattle.std.specs.List.{list_any}
use Rattle.std.specs.Option.{option_or}
use Rattle.std.specs.Str.{bytes_eq}
use Rattle.jiff.specs.Types.{DateTime}
use Rattle.jiff.specs.Words.{civil_nanos}
use Rattle.asn1_core.specs.Binds.{◌>>=◌}
use Rattle.asn1_core.specs.Bits.{Bits, has_bit}
use Rattle.der_tree.specs.Form.{value_of}
use Rattle.der_tree.specs.PrimitiveTypes.{bit_string}
use Rattle.pkix_cert.specs.Constraints.{basic_constraints}
use Rattle.pkix_cert.specs.ExtensionIds.{ce_basic_constraints, ce_ext_key_usage, ce_key_usage, ce_subject_alt_name, id_ce_der}
use Rattle.pkix_cert.specs.Times.{moment_of, validity}
use Rattle.pkix_cert.specs.Views.{CertificateParts, ExtensionParts}
use Rattle.pkix_cert.specs.declared.constraint.BasicConstraints.{BasicConstraints}
use Rattle.pkix_cert.specs.declared.time.Validity.{Validity}
use Rattle.extension_lookup.specs.Lookup.{are_distinct, contents_at, ids_of, is_one_value, read_from}
use Rattle.chain_check.specs.Outcomes.{Outcome, valid, invalid}
use Rattle.chain_check.specs.declared.extension.CaExtensions.{CaExtensions}
use Rattle.chain_check.specs.Reasons.{is_below}
use Rattle.chain_check.specs.declared.error.ChainReason.{ChainReason}
use Rattle.chain_check.specs.declared.error.ChainReason.TheVariants.{AlgorithmsDiffer, NotYetValid, Expired, BadExtension}
use Rattle.chain_check.specs.declared.error.ChainReason.TheVariants.{UnhandledCritical, NotCa, NoCertSign, PathTooLong, NameMismatch, BadSignature}

-- ---- what a certificate says of itself

abbrev pub is_earlier : DateTime → DateTime → Bool
is_earlier a b = int_lt (civil_nanos a) (civil_nanos b)

unfoldable pub algorithms_differ : CertificateParts → Bool
algorithms_differ p = not (bytes_eq p.tbs_signature p.signature_algorithm)

unfoldable pub validity_reason : DateTime → Validity → Option ChainReason
validity_reason at v = cond (is_earlier at (moment_of v.not_before)) (Some NotYetValid) (cond (is_earlier (moment_of v.not_after) at) (Some Expired) None)

-- each view has a validity
unfoldable pub time_reason : DateTime → Option Validity → Option ChainReason
time_reason at None = Some NotYetValid
time_reason at (Some v) = validity_reason at v

unfoldable pub own_reason : DateTime → CertificateParts → Option ChainReason
own_reason at p = cond (algorithms_differ p) (Some AlgorithmsDiffer) (time_reason at (value_of validity p.validity))

-- ---- extensions

abbrev pub bad_extension : List ExtensionParts → Bool
bad_extension es =
    not (are_distinct (ids_of es) && is_one_value bit_string (contents_at (id_ce_der ce_key_usage) es) && is_one_value basic_constraints (contents_at (id_ce_der ce_basic_constraints) es))

-- what key usage and basic constraints say
abbrev pub said : List ExtensionParts → CaExtensions
said es = record { usage = read_from bit_string (contents_at (id_ce_der ce_key_usage) es); constraints = read_from basic_constraints (contents_at (id_ce_der ce_basic_constraints) es) }

unfoldable pub read_ca_extensions : List ExtensionParts → Option CaExtensions
read_ca_extensions es = cond (bad_extension es) None (Some (said es))

unfoldable pub handled : List ℕ → Bool
handled id = bytes_eq id (id_ce_der ce_key_usage) || bytes_eq id (id_ce_der ce_subject_alt_name) || bytes_eq id (id_ce_der ce_basic_constraints) || bytes_eq id (id_ce_der ce_ext_key_usage)

abbrev pub unhandled : ExtensionParts → Bool
unhandled e = e.critical && not (handled e.id)

-- ---- what a certificate is for that issued another

unfoldable pub not_ca : Option BasicConstraints → Bool
not_ca None = true
not_ca (Some b) = not b.ca

unfoldable pub no_cert_sign : Option Bits → Bool
no_cert_sign None = false
no_cert_sign (Some usage) = not (has_bit usage 5)

abbrev pub most_below : ℕ → Option (List ℕ) → Bool
most_below others None = false
most_below others (Some most) = is_below most others

unfoldable pub too_long : ℕ → Option BasicConstraints → Bool
too_long others None = false
too_long others (Some b) = most_below others b.path_len_constraint

unfoldable pub issuing_reason : ℕ → CaExtensions → Option ChainReason
issuing_reason others s =
    cond (not_ca s.constraints) (Some NotCa) (cond (no_cert_sign s.usage) (Some NoCertSign) (cond (too_long others s.constraints) (Some PathTooLong) None))

-- others is how many between the certificate and the leaf aren't self-issued; none where it is the leaf
abbrev pub judged : Option ℕ → Bool → Option CaExtensions → Option ChainReason
judged others critical None = Some BadExtension
judged others critical (Some s) = cond critical (Some UnhandledCritical) (others >>= λ n. issuing_reason n s)

unfoldable pub extension_reason : Option ℕ → List ExtensionParts → Option ChainReason
extension_reason others es = judged others (list_any unhandled es) (read_ca_extensions es)

-- ---- what its issuer says of it

-- each view has a signature
unfoldable pub bad_signature : (List ℕ → Bool) → Option Bits → Bool
bad_signature accepts None = true
bad_signature accepts (Some signature) = not (signature.unused == 0 && accepts signature.bytes)

unfoldable pub issued_reason : (List ℕ → List ℕ → List ℕ → List ℕ → Bool) → CertificateParts → CertificateParts → Option ChainReason
issued_reason accepts p q =
    cond (not (bytes_eq p.issuer q.subject)) (Some NameMismatch)
    (cond (bad_signature (accepts p.tbs q.key_info p.signature_algorithm) (value_of bit_string p.signature)) (Some BadSignature) None)

-- ---- a place, and all of them

unfoldable pub place_reason : (List ℕ → List ℕ → List ℕ → List ℕ → Bool) → DateTime → Option ℕ → CertificateParts → CertificateParts → Option ChainReason
place_reason accepts at others p q = option_or (own_reason at p) (option_or (extension_reason others p.extensions) (issued_reason accepts p q))

abbrev pub self_issued : CertificateParts → Bool
self_issued p = bytes_eq p.issuer p.subject

-- one more place passed
unfoldable pub others_after : Option ℕ → CertificateParts → Option ℕ
others_after None p = Some 0
others_after (Some others) p = cond (self_issued p) (Some others) (Some (others + 1))

abbrev pub stop_at : ℕ → Option ChainReason → Outcome → Outcome
stop_at place None outcome = outcome
stop_at place (Some reason) outcome = invalid place reason

-- the outcome of what is left after so many places
abbrev pub walk : (List ℕ → List ℕ → List ℕ → List ℕ → Bool) → DateTime → ℕ → Option ℕ → List CertificateParts → Outcome
walk accepts at passed others [] = valid passed
walk accepts at passed others (p ∷ []) = valid passed
walk accepts at passed others (p ∷ q ∷ ps) =
    stop_at (passed + 1) (place_reason accepts at others p q) (walk accepts at (passed + 1) (others_after others p) (q ∷ ps))
