-- What `path` comes to: the time of a question is one in UTC.
use Rattle.std.specs.Prelude.{◌≡◌, ℕ, ℤ, pos, Bool, true, false, List, [], ◌∷◌, codes, length, reverse, Option, Some, None, Result, Ok, Err, refl}
use Rattle.std.specs.Prelude.{if◌then◌else◌}
use Rattle.std.specs.Option.{ok_or}
use Rattle.std.proofs.Common.{◌∙◌, ap, subst}
use Rattle.asn1_core.specs.Binds.{bind_some, some_is}
use Rattle.outcomes.specs.Times.{EachInstantIsCivil}
use Rattle.rcgen_certificate.specs.WrittenTimes.{is_utc}
use Rattle.shelf_core.specs.Outcome.{Finds, faulty, verdict_outcome}
use Rattle.shelf_fault.specs.Faults.{and_then}
use Rattle.shelf_fault.specs.declared.fault.Fault.{Fault}
use Rattle.shelf_input.specs.Files.{files_blocks}
use Rattle.shelf_input.specs.Orders.{in_document}
use Rattle.pkix_cert.specs.Views.{CertificateParts}
use Rattle.shelf_path.specs.Asked.{Asked, anchor_of, asked_behind, asked_in, asked_of, inputs_at, policy_set}
use Rattle.shelf_path.specs.Certificates.{certificates_behind}
use Rattle.shelf_path.specs.Questions.{QuestionValues, question, question_in, question_of, question_values}
use Rattle.shelf_path.specs.RevocationLists.{RevocationData, certificate_blocks, certificate_count, list_blocks, lists_behind, no_data}
use Rattle.shelf_path.specs.Verdicts.{verdict_at}
use Rattle.shelf_path.specs.declared.question.PathQuestion.{PathQuestion}
use Rattle.toml.specs.Data.{Data, Members, get_member}
use Rattle.toml_format.specs.Document.{document_of, document_table}
use Rattle.toml_format.specs.Outcome.{and_then as read_then, both, mapped}
use Rattle.toml_format.specs.TableReading.{closed, no_more, read_checked, read_fields, read_none, read_required, required_at, then_read}
use Rattle.toml_format.specs.TimeText.{TimestampView, date_time}
use Rattle.toml_format.specs.UtcInstant.{has_utc_form, in_utc, instant_of, utc_instant}
use Rattle.toml_format.specs.ValueReading.{read_text, read_text_as}
use Rattle.toml_format.specs.declared.reason.Reason.{Reason}
use Rattle.toml_format.specs.declared.reason.Reason.TheVariants.{NotToml, WrongValue}
use Rattle.word_outcomes.proofs.There.{There}

-- ---- steps that pass

same : {A E : Type 0} (x y : A) → ◌≡◌ {A = Result A E} (Ok x) (Ok y) → x ≡ y
same x y e = cc

then_ok : {A B : Type 0} (r : Result A Fault) (f : A → Result B Fault) (y : B) → and_then r f ≡ Ok y → (x : A) × (r ≡ Ok x) × (f x ≡ Ok y)
then_ok (Ok x) f y e = (x, refl, e)
then_ok (Err d) f y e = absurd cc

read_ok : {A B : Type 0} (r : Result A Reason) (f : A → Result B Reason) (y : B) → read_then r f ≡ Ok y → (x : A) × (r ≡ Ok x) × (f x ≡ Ok y)
read_ok (Ok x) f y e = (x, refl, e)
read_ok (Err d) f y e = absurd cc

mapped_ok : {A B : Type 0} (r : Result A Reason) (f : A → B) (y : B) → mapped r f ≡ Ok y → (x : A) × (r ≡ Ok x) × (f x ≡ y)
mapped_ok (Ok x) f y e = (x, refl, same (f x) y e)
mapped_ok (Err d) f y e = absurd cc

both_ok : {A B : Type 0} (r : Result A Reason) (s : Result B Reason) (x : A × B) → both r s ≡ Ok x → (r ≡ Ok x.0) × (s ≡ Ok x.1)
unfolding both
both_ok {A} {B} (Ok p) (Ok q) x e =
    let h = same (p, q) x e in
    (ap (λ (y : A × B). let r : Result A Reason = Ok y.0 in r) h, ap (λ (y : A × B). let r : Result B Reason = Ok y.1 in r) h)
both_ok (Ok p) (Err d) x e = absurd cc
both_ok (Err d) (Ok q) x e = absurd cc
both_ok (Err d) (Err f) x e = absurd cc

in_document_ok : {A : Type 0} (r : Result A Reason) (x : A) → in_document r ≡ Ok x → r ≡ Ok x
in_document_ok {A} (Ok y) x e = ap (λ (z : A). let r : Result A Reason = Ok z in r) (same y x e)
in_document_ok (Err d) x e = absurd cc

-- ---- the time at its key

kept_if : (b : Bool) (n z : ℤ) → (if b then Some n else None) ≡ Some z → (b ≡ true) × (n ≡ z)
kept_if true n z e = (refl, some_is n z e)
kept_if false n z e = absurd cc

in_text : (text : List ℕ) (z : ℤ) → utc_instant text ≡ Some z → is_utc z ≡ true
unfolding utc_instant
in_text text z e =
    let t = bind_some (date_time text) (λ (t : TimestampView). in_utc (instant_of t)) z e in
    let k = kept_if (has_utc_form (instant_of t.0)) (instant_of t.0) z t.2 in
    subst (λ (n : ℤ). is_utc n ≡ true) k.1 k.0

of_value : (o : Option ℤ) (z : ℤ) → ok_or o WrongValue ≡ Ok z → o ≡ Some z
of_value (Some y) z e = ap (λ (n : ℤ). Some n) (same y z e)
of_value None z e = absurd cc

of_data : (o : Option Data) (z : ℤ) → required_at (read_text_as utc_instant) o ≡ Ok z → is_utc z ≡ true
unfolding read_text_as
of_data (Some d) z e =
    let s = read_ok (read_text d) (λ (text : List ℕ). ok_or (utc_instant text) WrongValue) z e in
    in_text s.0 z (of_value (utc_instant s.0) z s.2)
of_data None z e = absurd cc

at_is : (table : Members) (v : QuestionValues) → (question_values.read table).read ≡ Ok v → is_utc v.0.0.0.0.0.1 ≡ true
unfolding question_values then_read read_none read_required
at_is table v e =
    let h5 = (both_ok _ _ v e).0 in
    let h4 = (both_ok _ _ v.0 h5).0 in
    let h3 = (both_ok _ _ v.0.0 h4).0 in
    let h2 = (both_ok _ _ v.0.0.0 h3).0 in
    let h1 = (both_ok _ _ v.0.0.0.0 h2).0 in
    of_data (get_member (codes "at") table) v.0.0.0.0.0.1 (both_ok _ _ v.0.0.0.0.0 h1).1

abbrev time_of : Result PathQuestion Reason → ℤ
time_of (Ok q) = q.at
time_of (Err d) = pos 0

at_of : (v : QuestionValues) (q : PathQuestion) → question_of v ≡ Ok q → v.0.0.0.0.0.1 ≡ q.at
unfolding question_of
at_of ((((((u, at), policies), explicit), mapping), any), revocation) q e = ap time_of e

of_table : (table : Members) (q : PathQuestion) → closed (question.read table) ≡ Ok q → is_utc q.at ≡ true
unfolding closed read_fields read_checked
of_table table q e =
    let m = mapped_ok (both (question.read table).read (no_more (question.read table).left)) (λ (x : PathQuestion × Unit {0}). x.0) q e in
    let b = both_ok (question.read table).read (no_more (question.read table).left) m.0 m.1 in
    let v = read_ok (question_values.read table).read question_of m.0.0 b.0 in
    subst (λ (z : ℤ). is_utc z ≡ true) (at_of v.0 m.0.0 v.2 ∙ ap (λ (x : PathQuestion). x.at) m.2) (at_is table v.0 v.1)

of_text : (text : List ℕ) (q : PathQuestion) → question_in text ≡ Ok q → is_utc q.at ≡ true
unfolding question_in document_of
of_text text q e =
    let t = read_ok (ok_or (document_table text) NotToml) (λ (table : Members). closed (question.read table)) q
    (in_document_ok (read_then (ok_or (document_table text) NotToml) (λ (table : Members). closed (question.read table))) q e) in
    of_table t.0 q t.2

-- ---- what is asked

abbrev question_or : PathQuestion → Result Asked Fault → PathQuestion
question_or q (Ok a) = a.question
question_or q (Err f) = q

of_asked : (q : PathQuestion) (b : RevocationData) (ps : List CertificateParts) (a : Asked) → asked_of q b ps ≡ Ok a → q ≡ a.question
of_asked q b [] a e = absurd cc
of_asked q b (anchor ∷ path) a e =
    let t = then_ok (anchor_of (length (anchor ∷ path)) anchor) _ a e in
    let p = then_ok (policy_set q.policies) _ a t.2 in
    ap (question_or q) p.2

pub asked_time : (text : List ℕ) (files : List (List ℕ)) (a : Asked) → asked_in text files ≡ Ok a → is_utc a.question.at ≡ true
unfolding asked_in asked_behind
asked_time text files a e =
    let q = then_ok (question_in text) _ a e in
    let b = then_ok (files_blocks 0 [] files) _ a q.2 in
    let ps = then_ok (certificates_behind 0 (certificate_blocks q.0.revocation b.0)) _ a b.2 in
    let l = then_ok (lists_behind (certificate_count q.0.revocation b.0) no_data (list_blocks q.0.revocation b.0)) _ a ps.2 in
    subst (λ (x : PathQuestion). is_utc x.at ≡ true) (of_asked q.0 l.0 (reverse ps.0) a l.2) (of_text text q.0 q.1)

pub found : EachInstantIsCivil → (f : Result Asked Fault) → ((a : Asked) → f ≡ Ok a → is_utc a.question.at ≡ true) → There (Finds f)
found civil (Ok a) utc =
    let at = civil a.question.at (utc a refl) in
    let v = verdict_at a.question.revocation a.lists a.issuers (inputs_at at.0 a) a.path in
    (verdict_outcome v, record { verdict = v; judged = (a, refl, record { at = at.0; time = at.1.0; comes = refl }); comes = refl })
found civil (Err f) utc = (faulty f, refl)
