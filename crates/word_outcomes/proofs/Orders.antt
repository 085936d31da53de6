-- What `tbs`, `seal` and `lint` come to with an order.
use Rattle.std.specs.Prelude.{◌≡◌, ℕ, zero, suc, Bool, true, nat_lt, List, [], ◌∷◌, Result, Ok, Err, refl}
use Rattle.std.proofs.Common.{arith}
use Rattle.std.proofs.lemmas.Bool.{ltb-true}
use Rattle.asn1_core.specs.Binds.{and_true}
use Rattle.base64.specs.GeneralPurpose.{IsBytes}
use Rattle.outcomes.specs.Outcomes.{EachJobHasOneMessage, EachSignatureHasOneResult, are_octets}
use Rattle.pem.specs.Abnf.{is_label}
use Rattle.pem.specs.RoundTrip.{ReadBack}
use Rattle.rule_texts.specs.Lines.{finding_lines}
use Rattle.shelf_core.proofs.ReadAlone.{read_alone}
use Rattle.shelf_core.specs.Outcome.{Looks, Seals, SealsInto, SealsOver, Tells, faulty, sealed_text, unless_stopped}
use Rattle.shelf_fault.specs.declared.fault.Fault.{Fault}
use Rattle.shelf_job.specs.Jobs.{IsMessage, broken_rules, key_of, label}
use Rattle.shelf_job.specs.declared.job.Job.{Job}
use Rattle.shelf_job.specs.declared.job.Job.TheVariants as job
use Rattle.shelf_keys.specs.Signatures.{checked}
use Rattle.word_outcomes.specs.Limits.{AreWithin, IsWithin, IsWithinSigned}
use Rattle.word_outcomes.proofs.There.{There, of_message, on_pass}

pub told : EachJobHasOneMessage → (strict : Bool) (j : Job) → IsWithin j → There (Tells strict j)
told one strict j w =
    of_message j (λ message x. x ≡ unless_stopped strict (broken_rules j message) message (finding_lines (broken_rules j message)))
    (λ r. let m = one j r w.ascii w.size in record {
      message = m.message;
      is_message = m.is_message;
      comes = (unless_stopped strict (broken_rules j m.message) m.message (finding_lines (broken_rules j m.message)), refl);
    })

pub looked : EachJobHasOneMessage → (strict : Bool) (j : Job) → IsWithin j → There (Looks strict j)
looked one strict j w =
    of_message j (λ message x. x ≡ unless_stopped strict (broken_rules j message) [] (finding_lines (broken_rules j message)))
    (λ r. let m = one j r w.ascii w.size in record {
      message = m.message;
      is_message = m.is_message;
      comes = (unless_stopped strict (broken_rules j m.message) [] (finding_lines (broken_rules j m.message)), refl);
    })

-- ---- what is issued

are_labels : (j : Job) → is_label (label j) ≡ true
are_labels (job.Certificate a) = refl
are_labels (job.Request a) = refl
are_labels (job.List a) = refl
are_labels (job.Attribute a) = refl

are_bytes : (b : List ℕ) → are_octets b ≡ true → IsBytes b
are_bytes [] h i = omega arith
are_bytes (x ∷ xs) h zero = ltb-true x 256 (and_true (nat_lt x 256) (are_octets xs) h).0
are_bytes (x ∷ xs) h (suc i) = are_bytes xs (and_true (nat_lt x 256) (are_octets xs) h).1 i

into : EachSignatureHasOneResult → ReadBack → (strict is_der : Bool) (j : Job) (signature message : List ℕ) → IsMessage j message
    → AreWithin message signature → There (SealsInto strict is_der j signature message)
into results back strict is_der j signature message m w =
    let r = results j message signature m w.size in
    let octets = are_bytes r.der (r.octets w.message_octets w.signature_octets) in (
      unless_stopped strict (broken_rules j message) (sealed_text is_der (label j) r.der) [],
      record { der = r.der; sealed = r.sealed; read_back = read_alone (label j) r.der back (are_labels j) octets; comes = refl },
    )

pub sealed : EachJobHasOneMessage → EachSignatureHasOneResult → ReadBack → (strict is_der : Bool) (given : Result (List ℕ) Fault) (j : Job)
    → IsWithinSigned given j → There (Seals strict is_der given j)
sealed one results back strict is_der (Ok signature) j w =
    of_message j (SealsOver strict is_der j signature)
    (λ r. let m = one j r w.unsigned.ascii w.unsigned.size in record {
      message = m.message;
      is_message = m.is_message;
      comes = on_pass (checked (key_of j) m.message signature) (SealsInto strict is_der j signature m.message)
          (λ t. into results back strict is_der j signature m.message m.is_message (w.signed m.message signature m.is_message refl));
    })
sealed one results back strict is_der (Err f) j w = (faulty f, refl)
