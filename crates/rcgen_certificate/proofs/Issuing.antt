-- From what calls answered to what was issued.
use Rattle.std.specs.Prelude.{◌≡◌, ℕ, List, Option, None, Result, Ok, Err, IsErrAnd, IfErr}
use Rattle.std.proofs.Common.{sym, ap, subst}
use Rattle.asn1_core.specs.Bits.{Bits, bits}
use Rattle.der_tree.specs.Form.{IsDerOf}
use Rattle.pkix_cert.specs.Certificates.{certificate, certificate_fields, tbs_certificate}
use Rattle.pkix_cert.specs.declared.certificate.Certificate.{Certificate}
use Rattle.rcgen_text.specs.Causes.{Cause, Explains, Origin, memory, key, cause}
use Rattle.rcgen_sign.specs.Keys.{Key}
use Rattle.rcgen_certificate.specs.Issue.{IsToBeSigned, IssuesAs}
use Rattle.rcgen_certificate.specs.Issuers.{IssuerView}
use Rattle.rcgen_certificate.specs.KeyValues.{signature_identifier}
use Rattle.rcgen_certificate.specs.ParamsView.{ParamsView}
use Rattle.rcgen_certificate.specs.Signed.{signed, signed_fields, signed_value, IsSignedBy}

-- where an error of signing comes from, where there is no cause
pub explained : (found : Option Cause) (P Q : Type 0) (o : Origin) → found ≡ None → (P → Q) → Explains None P o → Explains found Q o
explained found P Q memory h f x = tt
explained found P Q key h f x = (h, f x.1)
explained found P Q (cause c) h f x = absurd cc

-- where an error before any signing comes from
pub unsigned : (found : Option Cause) (Q : Type 0) (o : Origin) → Explains found ⊥ o → Explains found Q o
unsigned found Q memory x = tt
unsigned found Q key x = absurd x.1
unsigned found Q (cause c) x = x

-- what is said of an error is said of it once it was passed on
pub passed : {B E : Type 0} (r : Result B E) (d : E) (P : E → Type 0) → IsErrAnd r (λ e. e ≡ d) → P d → IfErr r P
passed (Ok v) d P p x = absurd p
passed (Err e) d P p x = subst P (sym p) x

-- a certificate is what is signed, the algorithm and the signature
pub certificate_form : (c : Certificate) (der : List ℕ)
    → IsDerOf (signed tbs_certificate) (signed_value c.tbs_certificate c.signature_algorithm c.signature_value) der → IsDerOf certificate c der
unfolding signed_fields certificate_fields
certificate_form c der w = w

pub issues_as : (p : ParamsView) (s : Key) (i : IssuerView) (fits : List ℕ → List ℕ → Type 0) (c : Certificate) (der : List ℕ)
    → IsToBeSigned p s i c.tbs_certificate → c.signature_algorithm ≡ signature_identifier i.algorithm → c.signature_value ≡ bits 0 c.signature_value.bytes
    → IsSignedBy tbs_certificate c.tbs_certificate i.algorithm c.signature_value.bytes fits der → IssuesAs p s i fits c der
issues_as p s i fits c der h a g w = record {
  message = w.message;
  form = certificate_form c der (rw (a, g) w.form);
  message_form = w.message_form;
  issued = record { to_be_signed = h; signature_algorithm = a; no_unused_bits = ap (λ (b : Bits). b.unused) g };
  signed = w.fit;
}
