-- What is judged, step by step.
use Rattle.std.proofs.Common.{◌≡◌, ◌∙◌, ◌≤◌, ◌-◌, ℕ, List, [], ◌∷◌, length, take, drop, get_or, Option, Result, Ok, Err, ap, sym, refl, arith}
use Rattle.std.proofs.lemmas.List.{take_all}
use Rattle.jiff.proofs.Family.{same_datetime}
use Rattle.jiff.specs.Types.{DateTime}
use Rattle.jiff.specs.Words.{civil_nanos}
use Rattle.path_validation.specs.declared.inputs.PathInputs.{PathInputs}
use Rattle.path_validation.specs.declared.inputs.TrustAnchor.{TrustAnchor}
use Rattle.pkix_cert.specs.Views.{CertificateParts}
use Rattle.shelf_fault.specs.declared.fault.Fault.{Fault}
use Rattle.shelf_path.specs.Asked.{Asked, anchor_of, asked_of, inputs_at, policy_set}
use Rattle.shelf_path.specs.RevocationLists.{RevocationData}
use Rattle.shelf_path.specs.Verdicts.{IsVerdict, Judges, Tells, verdict_at}
use Rattle.shelf_path.specs.declared.question.PathQuestion.{PathQuestion}
use Rattle.shelf_path.specs.declared.verdict.Verdict.{Verdict}

abbrev pub asked_with : PathQuestion → Option (List (List ℕ)) → TrustAnchor → List CertificateParts → RevocationData → Asked
asked_with q policies trusted path b =
    record { question = q; policies = policies; anchor = trusted; path = path; lists = b.lists; issuers = b.issuers }

-- what is asked, of what comes after the path, and of the certificates from the anchor's down
pub asked_is : (q : PathQuestion) (b : RevocationData) (xs : List CertificateParts) (p : CertificateParts) (trusted : TrustAnchor)
    (policies : Option (List (List ℕ))) → 1 ≤ length xs → p ≡ get_or xs 0 p → anchor_of (length xs) p ≡ Ok trusted → policy_set q.policies ≡ Ok policies
    → asked_of q b xs ≡ Ok (asked_with q policies trusted (take (length xs - 1) (drop 1 xs)) b)
asked_is q b [] p trusted policies l first h k = absurd (omega (arith, l))
asked_is q b (x ∷ xs) p trusted policies l first h k =
    let all : take (length (x ∷ xs) - 1) xs ≡ xs = take_all (length (x ∷ xs) - 1) xs (omega arith) in
    let known : anchor_of (length (x ∷ xs)) x ≡ Ok trusted = ap (λ (y : CertificateParts). anchor_of (length (x ∷ xs)) y) (sym first) ∙ h in
    rw (known, k, all) refl

-- the path, once all is known that is asked
pub judged : (x : PathInputs) (a : Asked) (found : Result Asked Fault) (r : Result Verdict Fault) → found ≡ Ok a → civil_nanos x.at ≡ a.question.at
    → x ≡ inputs_at x.at a → Tells (verdict_at a.question.revocation a.lists a.issuers x a.path) r → Judges found r
judged x a found (Ok v) is time same h =
    (a, is, record { at = x.at; time = time; comes = h ∙ ap (λ (y : PathInputs). verdict_at a.question.revocation a.lists a.issuers y a.path) same })
judged x a found (Err fault) is time same h = λ n. absurd (n h)

-- there is one time, and so one verdict
pub one : (a : Asked) (v w : Verdict) → IsVerdict a v → IsVerdict a w → v ≡ w
one a v w x y =
    x.comes
    ∙ ap (λ (t : DateTime). verdict_at a.question.revocation a.lists a.issuers (inputs_at t a) a.path) (same_datetime x.at y.at (x.time ∙ sym y.time))
    ∙ sym y.comes

pub same_asked : (a b : Asked) → ◌≡◌ {A = Result Asked Fault} (Ok a) (Ok b) → a ≡ b
same_asked a b e = cc
