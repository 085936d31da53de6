-- A certificate that was issued, at its place and at the end of its path.
use Rattle.std.specs.Prelude.{◌*◌, List, None, Option, Some, cond, false, is_some, length, refl, suc, true, zero, ℕ, [], ◌++◌, ◌+◌, ◌<◌, ◌≤◌, ◌∷◌, ◌≡◌, ◌↔◌, ◌⊎◌}
use Rattle.std.specs.List.{list_any}
use Rattle.std.proofs.Common.{ap, arith, inl, inr, length-append, subst, sym, ◌∙◌}
use Rattle.std.proofs.lemmas.Bool.{ltb-true}
use Rattle.std.proofs.lemmas.List.{append-nil}
use Rattle.asn1_core.specs.Binds.{bind_is, bind_some, some_is}
use Rattle.der_tree.specs.Element.{element_at}
use Rattle.der_tree.specs.Form.{IsDerOf}
use Rattle.der_tree.proofs.FormLaws.{front_is, no_front, same_value}
use Rattle.pkix_cert.specs.Algorithms.{subject_public_key_info}
use Rattle.pkix_cert.specs.Certificates.{certificate}
use Rattle.pkix_cert.specs.Held.{IsOfCertificate}
use Rattle.pkix_cert.specs.Views.{CertificateParts, certificate_parts, parts_of}
use Rattle.pkix_cert.specs.declared.algorithm.SubjectPublicKeyInfo.{SubjectPublicKeyInfo}
use Rattle.pkix_cert.specs.declared.certificate.Certificate.{Certificate}
use Rattle.pkix_cert.specs.declared.certificate.TbsCertificate.{TbsCertificate}
use Rattle.pkix_name.specs.declared.name.Name.{Name}
use Rattle.path_names.specs.NameMatching.{names_match}
use Rattle.path_revocation.specs.Lists.{Accepts}
use Rattle.path_validation.specs.Certificates.{read_certificate}
use Rattle.path_policies.specs.Growth.{level_size, levels_size, node_size}
use Rattle.path_validation.specs.Limits.{count_of, most_pairs, most_policies}
use Rattle.path_validation.specs.Outcomes.{IsFirst, Outcome, holds, holds_from, holds_here, if_read, invalid, outcome, state_behind, valid}
use Rattle.path_validation.specs.Keys.{inherits, key_after}
use Rattle.path_validation.specs.Steps.{is_revoked, is_undetermined, status_at}
use Rattle.path_validation.specs.States.{first_state, next_state, with_policies_of}
use Rattle.path_validation.specs.declared.error.PathReason.{PathReason}
use Rattle.path_validation.specs.declared.error.PathReason.TheVariants as reason
use Rattle.path_validation.specs.declared.inputs.PathInputs.{PathInputs}
use Rattle.path_validation.specs.declared.inputs.ValidPath.{ValidPath}
use Rattle.rcgen_sign.specs.Keys.{Key}
use Rattle.rcgen_certificate.specs.Issue.{IsToBeSigned}
use Rattle.rcgen_certificate.specs.Issuers.{IssuerView}
use Rattle.rcgen_certificate.specs.ParamsView.{ParamsView}
use Rattle.rcgen_tbs.specs.Named.{IsCertificateOverAs, with_name}
use Rattle.rcgen_tbs.specs.Subjects.{IsToBeSignedWith, identified, stand_in}
use Rattle.rcgen_tbs.specs.declared.subject.Subject.{Subject}
use Rattle.rcgen_tbs.specs.declared.subject.Subject.TheVariants.{Known, Other}
use Rattle.issued_path.specs.Types.{PathState, ReadCertificate, ReadIdentity}
use Rattle.issued_path.specs.Causes.{Cause, IsAccepted, IsWorking, asks_policy, has_many_policies, is_constrained, is_wide, is_wide_subject}
use Rattle.issued_path.specs.Ends.{CauseBeneath, EndsAlone, EndsWith, IsAcceptedBeneathItsIssuer, IsAcceptedInItsPath, IsAcceptedUnderItsAnchor, IsAnchor, IsCertified, IsIssuedUnder}
use Rattle.issued_path.specs.Ends.{IsPlain, PlainIsValid, state_after}
use Rattle.issued_path.specs.Own.{are_unreadable, is_policy_constraints, is_unknown_critical}
use Rattle.issued_path.proofs.Parts.{Encoded}
use Rattle.issued_path.proofs.Reasons.{IsTable, causes_are, read_as}

-- ---- what the certificate says

of_known : (params : ParamsView) (key : Key) (issuer : IssuerView) (t : TbsCertificate) → IsToBeSigned params key issuer t → IsTable params None key issuer t
of_known params key issuer t w = record {
  version = w.version;
  signature = w.signature;
  issuer_name = w.issuer_name;
  not_before = w.not_before;
  not_after = w.not_after;
  subject_name = w.subject_name;
  extensions = w.extensions;
}

-- with another key nothing else changes
of_other : (params : ParamsView) (info : SubjectPublicKeyInfo) (issuer : IssuerView) (t : TbsCertificate) (w : IsToBeSignedWith params info issuer t)
    → IsTable (identified params w.info_octets) None (stand_in info) issuer t
of_other params info issuer t w =
    subst (λ (t : TbsCertificate). IsTable (identified params w.info_octets) None (stand_in info) issuer t) (sym w.replaced) (record {
      version = w.base_is.version;
      signature = w.base_is.signature;
      issuer_name = w.base_is.issuer_name;
      not_before = w.base_is.not_before;
      not_after = w.base_is.not_after;
      subject_name = w.base_is.subject_name;
      extensions = w.base_is.extensions;
    })

-- with another name nothing else changes
of_named : (params : ParamsView) (name : Name) (key : Key) (issuer : IssuerView) (base t : TbsCertificate) → t ≡ with_name name base
    → IsTable params None key issuer base → IsTable params (Some name) key issuer t
of_named params name key issuer base t replaced w =
    subst (λ (t : TbsCertificate). IsTable params (Some name) key issuer t) (sym replaced) (record {
      version = w.version;
      signature = w.signature;
      issuer_name = w.issuer_name;
      not_before = w.not_before;
      not_after = w.not_after;
      subject_name = refl;
      extensions = w.extensions;
    })

-- how the subject's key is identified is no cause
same_cause : (x : PathInputs) (passed : ℕ) (s : PathState) (params : ParamsView) (name : Option Name) (octets : List ℕ) (r : PathReason)
    → Cause x passed s (identified params octets) name r → Cause x passed s params name r
same_cause x passed s params name octets reason.Empty k = k
same_cause x passed s params name octets reason.BadExtension k = k
same_cause x passed s params name octets reason.AlgorithmsDiffer k = k
same_cause x passed s params name octets reason.BadSignature k = k
same_cause x passed s params name octets reason.NotYetValid k = k
same_cause x passed s params name octets reason.Expired k = k
same_cause x passed s params name octets reason.Revoked k = k
same_cause x passed s params name octets reason.Undetermined k = k
same_cause x passed s params name octets reason.NameMismatch k = k
same_cause x passed s params name octets reason.TooMuchWork k = k
same_cause x passed s params name octets reason.UnprocessedNameForm k = k
same_cause x passed s params name octets reason.NotPermitted k = k
same_cause x passed s params name octets reason.Excluded k = k
same_cause x passed s params name octets reason.NoPolicy k = k
same_cause x passed s params name octets reason.MappedAnyPolicy k = k
same_cause x passed s params name octets reason.NotCa k = k
same_cause x passed s params name octets reason.PathTooLong k = k
same_cause x passed s params name octets reason.NoCertSign k = k
same_cause x passed s params name octets reason.UnprocessedCritical k = k
same_cause x passed s params name octets reason.NoUserPolicy k = k

-- ---- its view

abbrev pub EachView : Type 0
EachView = (input : List ℕ) (p : CertificateParts) → certificate_parts input ≡ Some p → (c : Certificate) × IsOfCertificate c p × (input ≡ p.whole ++ p.after)

seen : (c : Certificate) (der : List ℕ) → IsDerOf certificate c der → (p : CertificateParts) × (certificate_parts der ≡ Some p)
unfolding certificate_parts
seen c der h =
    let f = front_is certificate der c der [] h (sym (append-nil der)) in (
      parts_of h.1 [],
      bind_is (element_at der) (λ x. cond (is_some (certificate.read_of x.0)) (Some (parts_of x.0 x.1)) None) (h.1, []) (Some (parts_of h.1 [])) f.0
          (ap (λ (o : Option Certificate). cond (is_some o) (Some (parts_of h.1 [])) None) f.1),
    )

of_it : EachView → (c : Certificate) (der : List ℕ) → IsDerOf certificate c der → (p : CertificateParts) → certificate_parts der ≡ Some p → IsOfCertificate c p
of_it each c der h p e =
    let v = each der p e in
    let nothing = no_front certificate certificate v.0 c p.whole der p.after v.1.whole h v.2 in
    let all : der ≡ p.whole = v.2 ∙ ap (λ (b : List ℕ). p.whole ++ b) nothing ∙ append-nil p.whole in
    subst (λ (d : Certificate). IsOfCertificate d p)
    (same_value certificate v.0 c der (subst (λ (b : List ℕ). IsDerOf certificate v.0 b) (sym all) v.1.whole) h) v.1

-- ---- at its place

pub record Laws : Type 0 where
  pub encoded : Encoded
  pub each : EachView
  pub matches : (n : Name) → names_match n n ≡ true
  pub first : (accepts : Accepts) (x : PathInputs) (ps : List CertificateParts) (i : ℕ) (r : PathReason) → (outcome accepts x ps ≡ invalid i r) ↔ IsFirst accepts x ps i r

module _ (laws : Laws) (params : ParamsView) (issuer : IssuerView) (accepts : Accepts) (message der : List ℕ) (x : PathInputs) (passed : ℕ) (s : PathState)
    (working : IsWorking issuer s) (p : CertificateParts) (viewed : certificate_parts der ≡ Some p) (signature : List ℕ)
    (accepted : IsAccepted accepts issuer message signature) where
  signed_so : (b : List ℕ) → b ≡ signature → IsAccepted accepts issuer message b
  signed_so b e = subst (λ (b : List ℕ). IsAccepted accepts issuer message b) (sym e) accepted

  at_place_over : (subject : Subject) (name : Option Name) → IsCertificateOverAs params subject name issuer (λ m s. s ≡ signature) message der
      → (r : PathReason) → holds_here accepts x passed true s p (read_certificate p) r ≡ true → Cause x passed s params name r
  at_place_over (Known key) None w r k =
      causes_are laws.encoded params None key issuer w.certificate p (of_it laws.each w.certificate der w.form p viewed)
      (of_known params key issuer w.certificate.tbs_certificate w.to_be_signed) accepts x passed s message w.message_form w.signature_algorithm w.no_unused_bits
      (signed_so w.certificate.signature_value.bytes w.signed) working laws.matches r k
  at_place_over (Other info) None w r k =
      same_cause x passed s params None w.to_be_signed.info_octets r
      (causes_are laws.encoded (identified params w.to_be_signed.info_octets) None (stand_in info) issuer w.certificate p
      (of_it laws.each w.certificate der w.form p viewed)
      (of_other params info issuer w.certificate.tbs_certificate w.to_be_signed) accepts x passed s message w.message_form w.signature_algorithm w.no_unused_bits
      (signed_so w.certificate.signature_value.bytes w.signed) working laws.matches r k)
  at_place_over (Known key) (Some name) w r k =
      causes_are laws.encoded params (Some name) key issuer w.certificate p (of_it laws.each w.certificate der w.form p viewed)
      (of_named params name key issuer w.to_be_signed.base w.certificate.tbs_certificate w.to_be_signed.replaced
      (of_known params key issuer w.to_be_signed.base w.to_be_signed.base_is)) accepts x passed s message w.message_form w.signature_algorithm w.no_unused_bits
      (signed_so w.certificate.signature_value.bytes w.signed) working laws.matches r k
  at_place_over (Other info) (Some name) w r k =
      let base = w.to_be_signed.base_is in
      same_cause x passed s params (Some name) base.info_octets r
      (causes_are laws.encoded (identified params base.info_octets) (Some name) (stand_in info) issuer w.certificate p
      (of_it laws.each w.certificate der w.form p viewed)
      (of_named (identified params base.info_octets) name (stand_in info) issuer w.to_be_signed.base w.certificate.tbs_certificate w.to_be_signed.replaced
      (of_other params info issuer w.to_be_signed.base base)) accepts x passed s message w.message_form w.signature_algorithm w.no_unused_bits
      (signed_so w.certificate.signature_value.bytes w.signed) working laws.matches r k)

at_place : Laws → (params : ParamsView) (subject : Subject) (name : Option Name) (issuer : IssuerView) (accepts : Accepts) (message der : List ℕ)
    → IsIssuedUnder params subject name issuer accepts message der → (x : PathInputs) (passed : ℕ) (s : PathState) → IsWorking issuer s
    → (p : CertificateParts) → certificate_parts der ≡ Some p
    → (r : PathReason) → holds_here accepts x passed true s p (read_certificate p) r ≡ true → Cause x passed s params name r
at_place laws params subject name issuer accepts message der w x passed s working p viewed =
    at_place_over laws params issuer accepts message der x passed s working p viewed w.signature w.accepted subject name w.issued

-- what was issued is a certificate
issued_form : (params : ParamsView) (subject : Subject) (name : Option Name) (issuer : IssuerView) (fits : List ℕ → List ℕ → Type 0) (message der : List ℕ)
    → IsCertificateOverAs params subject name issuer fits message der → (c : Certificate) × IsDerOf certificate c der
issued_form params subject None issuer fits message der w = (w.certificate, w.form)
issued_form params subject (Some name) issuer fits message der w = (w.certificate, w.form)

issued_view : (params : ParamsView) (subject : Subject) (name : Option Name) (issuer : IssuerView) (accepts : Accepts) (message der : List ℕ)
    → IsIssuedUnder params subject name issuer accepts message der → (p : CertificateParts) × (certificate_parts der ≡ Some p)
issued_view params subject name issuer accepts message der w =
    let f = issued_form params subject name issuer (λ m s. s ≡ w.signature) message der w.issued in seen f.0 der f.1

-- ---- at the end of its path

unread_follows : (o : Option ReadCertificate) → if_read o (λ c. false) ≡ true → ⊥
unread_follows None e = absurd cc
unread_follows (Some c) e = absurd cc

abbrev AtEnd : Accepts → PathInputs → ℕ → PathState → ℕ → ℕ → CertificateParts → PathReason → Type 0
AtEnd accepts x passed t count k p r = (k < count) ⊎ ((k ≡ count) × (holds_here accepts x (passed + count) true t p (read_certificate p) r ≡ true))

later : (accepts : Accepts) (x : PathInputs) (passed : ℕ) (t : PathState) (count k : ℕ) (p : CertificateParts) (r : PathReason) → AtEnd accepts x (passed + 1) t count k p r
    → AtEnd accepts x passed t (suc count) (suc k) p r
later accepts x passed t count k p r (inl l) = inl (omega (arith, l))
later accepts x passed t count k p r (inr (e, h)) =
    let moved : passed + 1 + count ≡ passed + suc count = omega arith in
    inr (ap (λ (n : ℕ). suc n) e, ap (λ (n : ℕ). holds_here accepts x n true t p (read_certificate p) r) (sym moved) ∙ h)

ends : (accepts : Accepts) (x : PathInputs) (passed : ℕ) (s : PathState) (before : List CertificateParts) (p : CertificateParts) (t : PathState)
    → state_after s before ≡ Some t → (k : ℕ) (r : PathReason) → holds_from accepts x passed s (before ++ p ∷ []) k r ≡ true
    → AtEnd accepts x passed t (length before) k p r
ends accepts x passed s [] p t e zero r h =
    let same : s ≡ t = some_is s t e in
    let moved : passed ≡ passed + 0 = omega arith in
    inr (
      refl,
      ap (λ (n : ℕ). holds_here accepts x n true t p (read_certificate p) r) (sym moved)
          ∙ ap (λ (z : PathState). holds_here accepts x passed true z p (read_certificate p) r) (sym same) ∙ h,
    )
ends accepts x passed s [] p t e (suc k) r h = absurd (unread_follows (read_certificate p) h)
ends accepts x passed s (q ∷ before) p t e zero r h = inl (omega arith)
ends accepts x passed s (q ∷ before) p t e (suc k) r h =
    let c = bind_some (read_certificate q) (λ c. state_after (state_behind s c) before) t e in
    later accepts x passed t (length before) k p r
    (ends accepts x (passed + 1) (state_behind s c.0) before p t c.2 k r
    (sym (ap (λ (o : Option ReadCertificate). if_read o (λ c. holds_from accepts x (passed + 1) (state_behind s c) (before ++ p ∷ []) k r)) c.1) ∙ h))

placed : (accepts : Accepts) (x : PathInputs) (before : List CertificateParts) (p : CertificateParts) (t : PathState)
    → state_after (first_state x (length before + 1)) before ≡ Some t → (k : ℕ) (r : PathReason) → holds accepts x (before ++ p ∷ []) (suc k) r ≡ true
    → AtEnd accepts x 0 t (length before) k p r
placed accepts x [] p t e k r h = ends accepts x 0 (first_state x 1) [] p t e k r h
placed accepts x (q ∷ before) p t e k r h =
    let count : length (q ∷ before) + 1 ≡ length (q ∷ before ++ p ∷ []) = sym (length-append (q ∷ before) (p ∷ [])) in
    ends accepts x 0 (first_state x (length (q ∷ before ++ p ∷ []))) (q ∷ before) p t
    (ap (λ (n : ℕ). state_after (first_state x n) (q ∷ before)) (sym count) ∙ e) k r h

-- what is said of each reason that holds is said of the outcome
by_reasons : Laws → (accepts : Accepts) (x : PathInputs) (ps : List CertificateParts) (P : Outcome → Type 0) → ((v : ValidPath) → P (valid v))
    → ((i : ℕ) (r : PathReason) → holds accepts x ps i r ≡ true → P (invalid i r)) → P (outcome accepts x ps)
by_reasons laws accepts x ps P v k =
    elim (outcome accepts x ps) as (λ o. outcome accepts x ps ≡ o → P o) [
      | valid w ↦ λ e. v w
      | invalid i r ↦ λ e. k i r ((laws.first accepts x ps i r).0 e).holds_there
    ] refl

module _ (accepts : Accepts) (x : PathInputs) (before : List CertificateParts) (p : CertificateParts) (t : PathState)
    (left : state_after (first_state x (length before + 1)) before ≡ Some t) (C : PathReason → Type 0)
    (causes : (r : PathReason) → holds_here accepts x (length before) true t p (read_certificate p) r ≡ true → C r) where
  at_one : (k : ℕ) (r : PathReason) → AtEnd accepts x 0 t (length before) k p r → EndsWith (length before) C (invalid (suc k) r)
  at_one k r (inl l) = inl (omega arith, omega (arith, l))
  at_one k r (inr (e, h)) =
      let same : length before ≡ 0 + length before = omega arith in
      inr (omega (arith, e), causes r (ap (λ (n : ℕ). holds_here accepts x n true t p (read_certificate p) r) same ∙ h))

  pub failing : (i : ℕ) (r : PathReason) → holds accepts x (before ++ p ∷ []) i r ≡ true → EndsWith (length before) C (invalid i r)
  failing zero r h = absurd cc
  failing (suc k) r h = at_one k r (placed accepts x before p t left k r h)

pub in_its_path : Laws → IsAcceptedInItsPath
in_its_path laws params subject name issuer accepts message der w x before s left working =
    let v = issued_view params subject name issuer accepts message der w in (
      v.0,
      v.1,
      by_reasons laws accepts x (before ++ v.0 ∷ []) (EndsWith (length before) (Cause x (length before) s params name)) (λ w. tt)
          (failing accepts x before v.0 s left (Cause x (length before) s params name)
          (at_place laws params subject name issuer accepts message der w x (length before) s working v.0 v.1)),
    )

-- ---- under its anchor

of_anchor : (issuer : IssuerView) (x : PathInputs) → IsAnchor issuer x → IsWorking issuer (first_state x 1)
unfolding first_state
of_anchor issuer x a = record { name = a.name; key = a.key }

alone : (C : PathReason → Type 0) (i : ℕ) (r : PathReason) → EndsWith 0 C (invalid i r) → EndsAlone C (invalid i r)
alone C i r (inl l) = absurd (omega (arith, l.0, l.1))
alone C i r (inr e) = e

module _ (laws : Laws) (params : ParamsView) (subject : Subject) (name : Option Name) (issuer : IssuerView) (accepts : Accepts) (message der : List ℕ)
    (w : IsIssuedUnder params subject name issuer accepts message der) (x : PathInputs) (a : IsAnchor issuer x) where
  abbrev view : (p : CertificateParts) × (certificate_parts der ≡ Some p)
  view = issued_view params subject name issuer accepts message der w

  causes_alone : (i : ℕ) (r : PathReason) → holds accepts x (view.0 ∷ []) i r ≡ true → EndsAlone (Cause x 0 (first_state x 1) params name) (invalid i r)
  causes_alone i r h =
      alone (Cause x 0 (first_state x 1) params name) i r
      (failing accepts x [] view.0 (first_state x 1) refl (Cause x 0 (first_state x 1) params name)
      (at_place laws params subject name issuer accepts message der w x 0 (first_state x 1) (of_anchor issuer x a) view.0 view.1) i r h)

  ends_alone : EndsAlone (Cause x 0 (first_state x 1) params name) (outcome accepts x (view.0 ∷ []))
  ends_alone = by_reasons laws accepts x (view.0 ∷ []) (EndsAlone (Cause x 0 (first_state x 1) params name)) (λ v. tt) causes_alone

pub under_its_anchor : Laws → IsAcceptedUnderItsAnchor
under_its_anchor laws params subject name issuer accepts message der w x a =
    let v = issued_view params subject name issuer accepts message der w in
    (v.0, v.1, ends_alone laws params subject name issuer accepts message der w x a)

-- ---- where there is no cause

module _ (params : ParamsView) (name : Option Name) (x : PathInputs) (plain : IsPlain params name x) where
  not_constrained : is_constrained (first_state x 1) ≡ true → ⊥
  unfolding first_state
  not_constrained = rw (plain.permitted, plain.excluded) (λ k. absurd cc)

  not_wide : is_wide (first_state x 1) ≡ true → ⊥
  unfolding first_state
  not_wide = rw plain.narrow (λ k. absurd cc)

  not_wide_subject : is_wide_subject name ≡ true → ⊥
  not_wide_subject = rw plain.narrow_subject (λ k. absurd cc)

  not_many : has_many_policies x (first_state x 1) ≡ true → ⊥
  unfolding first_state levels_size level_size node_size
  not_many k =
      let some = ltb-true most_pairs ((count_of x.user_initial_policy_set + 2) * (2 + most_policies)) k in
      let few = plain.few_policies in
      omega (arith, some, few)

  no_policy : asks_policy (first_state x 1) ≡ true → ⊥
  unfolding first_state
  no_policy = rw plain.explicit_policy (λ k. absurd cc)

  none_unreadable : are_unreadable params.custom_extensions ≡ true → ⊥
  none_unreadable = rw plain.own (λ k. absurd cc)

  none_unknown : list_any is_unknown_critical params.custom_extensions ≡ true → ⊥
  none_unknown = rw plain.own (λ k. absurd cc)

  none_of_policy : list_any is_policy_constraints params.custom_extensions ≡ true → ⊥
  none_of_policy = rw plain.own (λ k. absurd cc)

  none_revoked : is_revoked (status_at x.statuses 0) ≡ true → ⊥
  none_revoked = rw plain.statuses (λ k. absurd cc)

  none_undetermined : is_undetermined (status_at x.statuses 0) ≡ true → ⊥
  none_undetermined = rw plain.statuses (λ k. absurd cc)

  pub no_cause : (r : PathReason) → Cause x 0 (first_state x 1) params name r → ⊥
  no_cause reason.Empty k = k
  no_cause reason.BadExtension k = none_unreadable k
  no_cause reason.AlgorithmsDiffer k = k
  no_cause reason.BadSignature k = k
  no_cause reason.NotYetValid k = plain.started k
  no_cause reason.Expired k = plain.not_over k
  no_cause reason.Revoked k = none_revoked k
  no_cause reason.Undetermined k = none_undetermined k
  no_cause reason.NameMismatch k = k
  no_cause reason.TooMuchWork (inl k) = not_wide k
  no_cause reason.TooMuchWork (inr (inl k)) = not_wide_subject k
  no_cause reason.TooMuchWork (inr (inr (inl k))) = not_many k
  no_cause reason.TooMuchWork (inr (inr (inr k))) = not_constrained k
  no_cause reason.UnprocessedNameForm k = not_constrained k
  no_cause reason.NotPermitted k = not_constrained k
  no_cause reason.Excluded k = not_constrained k
  no_cause reason.NoPolicy k = no_policy k
  no_cause reason.MappedAnyPolicy k = k
  no_cause reason.NotCa k = k
  no_cause reason.PathTooLong k = k
  no_cause reason.NoCertSign k = k
  no_cause reason.UnprocessedCritical k = none_unknown k
  no_cause reason.NoUserPolicy (inl k) = no_policy k
  no_cause reason.NoUserPolicy (inr k) = none_of_policy k

valid_else : (o : Outcome) (C : PathReason → Type 0) → ((r : PathReason) → C r → ⊥) → EndsAlone C o → (v : ValidPath) × (o ≡ valid v)
valid_else (valid v) C none k = (v, refl)
valid_else (invalid i r) C none k = absurd (none r k.1)

pub plain_is_valid : Laws → PlainIsValid
plain_is_valid laws params subject name issuer accepts message der w x a plain =
    let v = under_its_anchor laws params subject name issuer accepts message der w x a in
    let y = valid_else (outcome accepts x (v.0 ∷ [])) (Cause x 0 (first_state x 1) params name) (no_cause params name x plain) v.2 in (v.0, y.0, v.1, y.1)

-- ---- beneath its issuer's certificate

leaves_its_subject : (c : Certificate) (q : CertificateParts) → IsOfCertificate c q → (d : ReadCertificate) → read_certificate q ≡ Some d
    → (d.identity.subject ≡ c.tbs_certificate.subject) × (d.identity.key_info ≡ c.tbs_certificate.subject_public_key_info)
leaves_its_subject c q h d e = let i = read_as c q h d e in (ap (λ (i : ReadIdentity). i.subject) i, ap (λ (i : ReadIdentity). i.key_info) i)

kept_key : (working own : SubjectPublicKeyInfo) → inherits working own ≡ false → key_after working own ≡ own
unfolding key_after
kept_key working own e = rw e refl

module _ (issuer : IssuerView) (c : Certificate) (octets : List ℕ) (is : IsCertified issuer c octets) (x : PathInputs)
    (own : inherits x.anchor.key_info c.tbs_certificate.subject_public_key_info ≡ false) (q : CertificateParts) (h : IsOfCertificate c q)
    (d : ReadCertificate) (e : read_certificate q ≡ Some d) where
  pub of_issuer : IsWorking issuer (state_behind (first_state x 2) d)
  unfolding first_state next_state with_policies_of
  of_issuer =
      let left = leaves_its_subject c q h d e in
      record {
        name = is.name ∙ ap (λ (n : Name). let o : Option Name = Some n in o) (sym left.0);
        key = subst (λ (k : SubjectPublicKeyInfo). IsDerOf subject_public_key_info k issuer.info)
            (sym (ap (key_after x.anchor.key_info) left.1 ∙ kept_key x.anchor.key_info c.tbs_certificate.subject_public_key_info own)) is.key;
      }

first_unread : (accepts : Accepts) (x : PathInputs) (q p : CertificateParts) → read_certificate q ≡ None → (i : ℕ) (r : PathReason)
    → holds accepts x (q ∷ p ∷ []) i r ≡ true → (0 < i) × (i ≤ 1)
first_unread accepts x q p none zero r h = absurd cc
first_unread accepts x q p none (suc zero) r h = (omega arith, omega arith)
first_unread accepts x q p none (suc (suc k)) r h = absurd (not_so (sym (ap (λ (o : Option ReadCertificate). if_read o
    (λ c. holds_from accepts x 1 (state_behind (first_state x 2) c) (p ∷ []) k r)) none) ∙ h))
  where
    not_so : false ≡ true → ⊥
    not_so e = absurd cc

module _ (laws : Laws) (params : ParamsView) (subject : Subject) (name : Option Name) (issuer : IssuerView) (accepts : Accepts) (message der : List ℕ)
    (w : IsIssuedUnder params subject name issuer accepts message der) (c : Certificate) (octets : List ℕ) (is : IsCertified issuer c octets) (x : PathInputs)
    (own : inherits x.anchor.key_info c.tbs_certificate.subject_public_key_info ≡ false) (q p : CertificateParts) (h : IsOfCertificate c q)
    (viewed : certificate_parts der ≡ Some p) where
  causes_beneath : (o : Option ReadCertificate) → read_certificate q ≡ o → (i : ℕ) (r : PathReason) → holds accepts x (q ∷ p ∷ []) i r ≡ true
      → EndsWith 1 (CauseBeneath x q params name) (invalid i r)
  causes_beneath None none i r k = inl (first_unread accepts x q p none i r k)
  causes_beneath (Some d) some i r k =
      let t : PathState = state_behind (first_state x 2) d in
      failing accepts x (q ∷ []) p t (bind_is (read_certificate q) (λ c. state_after (state_behind (first_state x 2) c) []) d (Some t) some refl)
      (CauseBeneath x q params name)
      (λ r k. (d, some, at_place laws params subject name issuer accepts message der w x 1 t (of_issuer issuer c octets is x own q h d some) p viewed r k)) i r k

  pub ends_beneath : EndsWith 1 (CauseBeneath x q params name) (outcome accepts x (q ∷ p ∷ []))
  ends_beneath =
      by_reasons laws accepts x (q ∷ p ∷ []) (EndsWith 1 (CauseBeneath x q params name)) (λ v. tt) (causes_beneath (read_certificate q) refl)

pub beneath_its_issuer : Laws → IsAcceptedBeneathItsIssuer
beneath_its_issuer laws params subject name issuer accepts message der w c octets is x own =
    let u = seen c octets is.form in
    let v = issued_view params subject name issuer accepts message der w in (
      u.0,
      v.0,
      u.1,
      v.1,
      ends_beneath laws params subject name issuer accepts message der w c octets is x own u.0 v.0 (of_it laws.each c octets is.form u.0 u.1) v.1,
    )
