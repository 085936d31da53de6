-- What is sealed, and of what: one thing each.
use Rattle.std.specs.Prelude.{◌≡◌, ℕ, Bool, true, false, List, Option, Some, None}
use Rattle.std.proofs.Common.{ap, subst, sym, ◌∙◌}
use Rattle.std.proofs.lemmas.Bool.{false≢true}
use Rattle.std.proofs.lemmas.Slice.Eq.{bytes_eq-Decides}
use Rattle.std.specs.Str.{bytes_eq}
use Rattle.asn1_core.specs.Binds.{some_is}
use Rattle.asn1_core.specs.Bits.{bits}
use Rattle.der_tree.proofs.FormLaws.{same_form, value_again}
use Rattle.der_tree.specs.Form.{IsDerOf, value_of}
use Rattle.der_tree.specs.Grammar.{any}
use Rattle.pkix_cert.specs.Algorithms.{algorithm_identifier}
use Rattle.pkix_cert.specs.Views.{CertificateParts, certificate_parts}
use Rattle.pkix_cert.specs.declared.algorithm.AlgorithmIdentifier.{AlgorithmIdentifier}
use Rattle.rcgen_certificate.specs.Signed.{signed, signed_value}
use Rattle.signature_verifier.specs.Accepted.{accepts}
use Rattle.register_steps.proofs.Trees.{as_octets}
use Rattle.register_steps.specs.Messages.{algorithm_in}
use Rattle.register_steps.specs.Sealing.{ExplainsOpen, ExplainsSeal, HasVerdict, IsOpened, IsSealed, verifier}
use Rattle.register_steps.specs.SignedOctets.{signed_octets}
use Rattle.register_steps.specs.declared.sealing.SealError.{SealError}
use Rattle.register_steps.specs.declared.sealing.SealError.TheVariants as seal
use Rattle.register_steps.specs.declared.signed_octets.SignedOctets.{SignedOctets}

-- ---- one verdict, one algorithm, one form

pub same_algorithm : (i m s t : List ℕ) (a c : AlgorithmIdentifier) (b d : Bool) → HasVerdict i m s a b → HasVerdict i m t c d → a ≡ c
same_algorithm i m s t a c b d h k = some_is a c (sym h.algorithm_is ∙ k.algorithm_is)

same_octets : (a c : AlgorithmIdentifier) (x y : List ℕ) → a ≡ c → IsDerOf algorithm_identifier a x → IsDerOf algorithm_identifier c y → x ≡ y
same_octets a c x y e h k = same_form algorithm_identifier c x y (subst (λ (z : AlgorithmIdentifier). IsDerOf algorithm_identifier z x) e h) k

same_accepted : (m s x y : List ℕ) (p q : CertificateParts) → p ≡ q → x ≡ y → accepts verifier m p.key_info x s ≡ accepts verifier m q.key_info y s
same_accepted m s x y p q e f = ap (λ (r : CertificateParts). accepts verifier m r.key_info x s) e ∙ ap (λ (z : List ℕ). accepts verifier m q.key_info z s) f

pub same_verdict : (i m s : List ℕ) (a c : AlgorithmIdentifier) (b d : Bool) → HasVerdict i m s a b → HasVerdict i m s c d → b ≡ d
same_verdict i m s a c b d h k =
    let parts = some_is h.parts k.parts (sym h.issuer_is ∙ k.issuer_is) in
    let octets = same_octets a c h.algorithm_octets k.algorithm_octets (same_algorithm i m s s a c b d h k) h.algorithm_form k.algorithm_form in
    sym h.verdict_is ∙ same_accepted m s h.algorithm_octets k.algorithm_octets h.parts k.parts parts octets ∙ k.verdict_is

sealed_once : (i m s d e : List ℕ) → IsSealed i m s d → IsSealed i m s e → d ≡ e
sealed_once i m s d e h k =
    let same = same_algorithm i m s s h.algorithm k.algorithm true true h.accepted k.accepted in
    same_form (signed any) (signed_value m k.algorithm (bits 0 s)) d e
    (subst (λ (a : AlgorithmIdentifier). IsDerOf (signed any) (signed_value m a (bits 0 s)) d) same h.form) k.form

-- ---- what is opened

abbrev parts_of : List ℕ → AlgorithmIdentifier → List ℕ → SignedOctets
parts_of m a s = record { to_be_signed = m; algorithm = a; signature = bits 0 s }

opened_parts : (i m s octets : List ℕ) → (k : IsSealed i m s octets) → value_of signed_octets octets ≡ Some (parts_of m k.algorithm s)
opened_parts i m s octets k = value_again signed_octets octets (parts_of m k.algorithm s) (as_octets m k.algorithm (bits 0 s) octets k.form)

-- the same octets are of one message and one signature
read_parts : (i m s octets : List ℕ) (p : SignedOctets) → value_of signed_octets octets ≡ Some p → (k : IsSealed i m s octets) → p ≡ parts_of m k.algorithm s
read_parts i m s octets p e k = some_is p (parts_of m k.algorithm s) (sym e ∙ opened_parts i m s octets k)

read_message : (i m s octets : List ℕ) (p : SignedOctets) → value_of signed_octets octets ≡ Some p → IsSealed i m s octets → p.to_be_signed ≡ m
read_message i m s octets p e k = ap (λ (x : SignedOctets). x.to_be_signed) (read_parts i m s octets p e k)

read_signature : (i m s octets : List ℕ) (p : SignedOctets) → value_of signed_octets octets ≡ Some p → IsSealed i m s octets → p.signature.bytes ≡ s
read_signature i m s octets p e k = ap (λ (x : SignedOctets). x.signature.bytes) (read_parts i m s octets p e k)

-- it is sealed of what was read
as_read : (i m s octets : List ℕ) (p : SignedOctets) → value_of signed_octets octets ≡ Some p → IsSealed i m s octets
    → IsSealed i p.to_be_signed p.signature.bytes octets
as_read i m s octets p e k =
    subst (λ (x : List ℕ). IsSealed i x p.signature.bytes octets) (sym (read_message i m s octets p e k))
    (subst (λ (x : List ℕ). IsSealed i m x octets) (sym (read_signature i m s octets p e k)) k)

pub same_opened : (i octets m n : List ℕ) → IsOpened i octets m → IsOpened i octets n → m ≡ n
same_opened i octets m n h k =
    let e = opened_parts i m h.0 octets h.1 in
    read_message i n k.0 octets (parts_of m h.1.algorithm h.0) e k.1

-- ---- refusals

none_is_none : {A : Type 0} (o : Option A) (v : A) → o ≡ None → o ≡ Some v → ⊥
none_is_none None v e f = absurd cc
none_is_none (Some w) v e f = absurd cc

pub unread : (i octets : List ℕ) → value_of signed_octets octets ≡ None → (m : List ℕ) → IsOpened i octets m → ⊥
unread i octets e m k = none_is_none (value_of signed_octets octets) (parts_of m k.1.algorithm k.0) e (opened_parts i m k.0 octets k.1)

not_sealed : (i octets : List ℕ) (p : SignedOctets) → value_of signed_octets octets ≡ Some p → (IsSealed i p.to_be_signed p.signature.bytes octets → ⊥)
    → (m : List ℕ) → IsOpened i octets m → ⊥
not_sealed i octets p e none m k = none (as_read i m k.0 octets p e k.1)

no_issuer : (i m s octets : List ℕ) → certificate_parts i ≡ None → IsSealed i m s octets → ⊥
no_issuer i m s octets e k = none_is_none (certificate_parts i) k.accepted.parts e k.accepted.issuer_is

no_message : (i m s octets : List ℕ) → algorithm_in m ≡ None → IsSealed i m s octets → ⊥
no_message i m s octets e k = none_is_none (algorithm_in m) k.algorithm e k.accepted.algorithm_is

wrong : (i m s octets : List ℕ) (a : AlgorithmIdentifier) → HasVerdict i m s a false → IsSealed i m s octets → ⊥
wrong i m s octets a h k = let e = same_verdict i m s a k.algorithm false true h k.accepted in absurd cc

-- what is refused of the parts that were read is refused of the octets
pub refused : (i octets : List ℕ) (p : SignedOctets) (e : SealError) → value_of signed_octets octets ≡ Some p
    → ExplainsSeal i p.to_be_signed p.signature.bytes e → ExplainsOpen i octets e
refused i octets p seal.NoIssuer h why = not_sealed i octets p h (no_issuer i p.to_be_signed p.signature.bytes octets why)
refused i octets p seal.NotMessage h why = not_sealed i octets p h (no_message i p.to_be_signed p.signature.bytes octets why)
refused i octets p seal.WrongSignature h why = not_sealed i octets p h (wrong i p.to_be_signed p.signature.bytes octets why.0 why.1)
refused i octets p seal.OtherIssuer h why = absurd why
refused i octets p seal.OutOfMemory h why = tt

-- other octets are sealed of these parts
pub others : (i octets der : List ℕ) (p : SignedOctets) → value_of signed_octets octets ≡ Some p → IsSealed i p.to_be_signed p.signature.bytes der
    → (der ≡ octets → ⊥) → (m : List ℕ) → IsOpened i octets m → ⊥
others i octets der p h k differ =
    not_sealed i octets p h (λ s. differ (sealed_once i p.to_be_signed p.signature.bytes der octets k s))

-- these octets are
pub found : (i octets der m s : List ℕ) → IsSealed i m s der → der ≡ octets → IsOpened i octets m
found i octets der m s k e = (s, subst (λ (x : List ℕ). IsSealed i m s x) e k)

-- ---- the same octets

pub same_bytes : (a b : List ℕ) → bytes_eq a b ≡ true → a ≡ b
same_bytes a b e = (bytes_eq-Decides a b).0 e

pub other_bytes : (a b : List ℕ) → bytes_eq a b ≡ false → a ≡ b → ⊥
other_bytes a b e p = false≢true (sym e ∙ (bytes_eq-Decides a b).1 p)
