-- What comes of an input.
use Rattle.std.specs.Prelude.{Err, IfErr, IfOk, List, None, Ok, Result, length, refl, ℕ, [], ◌++◌, ◌+◌, ◌<◌, ◌≤◌, ◌∷◌, ◌≡◌, ◌⊎◌, Bool}
use Rattle.std.proofs.Common.{ap, arith, inl, inr, subst, sym, ◌∙◌}
use Rattle.std.proofs.lemmas.List.{length-append}
use Rattle.jiff.specs.Types.{DateTime}
use Rattle.der_tree.proofs.FormLaws.{same_value}
use Rattle.pkix_cert.specs.Certificates.{certificate}
use Rattle.pkix_cert.specs.Views.{CertificateParts}
use Rattle.pkix_cert.specs.declared.certificate.Certificate.{Certificate}
use Rattle.chain_check.specs.Answers.{AreOfPath, Explains, IsNoPath, LacksAnchor, StopsAt, Tells}
use Rattle.chain_check.specs.Inputs.{BeginsWithAll, Inputs, IsPath, StandsAt, inputs}
use Rattle.chain_check.specs.Outcomes.{BreaksAt, HasNoAnchor, HasNoNext, Holds, IsFirst, IsOutcome, IsTestedBefore, IsValid, Outcome, invalid, round, valid}
use Rattle.chain_check.specs.ViewChecks.{walk}
use Rattle.chain_check.specs.declared.error.ChainError.{ChainError}
use Rattle.chain_check.specs.declared.error.ChainError.TheVariants.{Fault, OutOfMemory}
use Rattle.chain_check.specs.declared.error.ChainReason.{ChainReason}
use Rattle.chain_check.specs.declared.error.ChainReason.TheVariants.{Empty, NotCertificate, AlgorithmsDiffer, NotYetValid, Expired, BadExtension}
use Rattle.chain_check.specs.declared.error.ChainReason.TheVariants.{UnhandledCritical, NotCa, NoCertSign, PathTooLong, NameMismatch, BadSignature}
use Rattle.chain_check.proofs.Fronts.{AreOf, Ends, both, certificates_of, none_in_front, one_stop, only_view, same_length, without_only_view, without_view}
use Rattle.chain_check.proofs.Orders.{in_last_round, total}
use Rattle.chain_check.proofs.Walks.{BreaksIn, Told, told}

-- ---- of a path

module _ (x : Inputs) (chain : List Certificate) (anchor : Certificate) (path : IsPath x chain anchor) where
  one_path : (i : ℕ) (r : ChainReason) → BreaksAt x i r → BreaksIn x (chain ++ anchor ∷ []) i r
  one_path i r h =
      let c = (one_stop chain h.chain x.chain [] [] path.is_chain none_in_front h.path.is_chain none_in_front).0 in
      let a = same_value certificate anchor h.anchor x.anchor path.is_anchor h.path.is_anchor in
      let e : chain ++ anchor ∷ [] ≡ h.chain ++ h.anchor ∷ [] = (λ j. c j ++ a j ∷ []) in
      record { at = h.at; stands = subst (λ (cs : List Certificate). StandsAt cs i h.at) (sym e) h.stands; breaks = h.breaks }

  there : (i : ℕ) (r : ChainReason) → BreaksIn x (chain ++ anchor ∷ []) i r → BreaksAt x i r
  there i r h = record { chain = chain; anchor = anchor; path = path; at = h.at; stands = h.stands; breaks = h.breaks }

  holds_there : (i : ℕ) (r : ChainReason) → BreaksIn x (chain ++ anchor ∷ []) i r → Holds x i r
  holds_there i Empty h = absurd h.breaks
  holds_there i NotCertificate h = absurd h.breaks
  holds_there i AlgorithmsDiffer h = there i AlgorithmsDiffer h
  holds_there i NotYetValid h = there i NotYetValid h
  holds_there i Expired h = there i Expired h
  holds_there i BadExtension h = there i BadExtension h
  holds_there i UnhandledCritical h = there i UnhandledCritical h
  holds_there i NotCa h = there i NotCa h
  holds_there i NoCertSign h = there i NoCertSign h
  holds_there i PathTooLong h = there i PathTooLong h
  holds_there i NameMismatch h = there i NameMismatch h
  holds_there i BadSignature h = there i BadSignature h

  no_stop : (i : ℕ) → HasNoNext x i ⊎ HasNoAnchor x i → ⊥
  no_stop i (inl h) = h.left (sym (one_stop chain h.before x.chain [] h.rest path.is_chain none_in_front h.front h.none).1)
  no_stop i (inr h) = h.none (anchor, path.is_anchor)

  module _ (some : ¬ (x.chain ≡ [])) where
    in_path : (i : ℕ) (r : ChainReason) → Holds x i r → (round r ≡ 3) × BreaksIn x (chain ++ anchor ∷ []) i r
    in_path i Empty h = absurd (some h.1)
    in_path i NotCertificate h = absurd (no_stop i h)
    in_path i AlgorithmsDiffer h = (refl, one_path i AlgorithmsDiffer h)
    in_path i NotYetValid h = (refl, one_path i NotYetValid h)
    in_path i Expired h = (refl, one_path i Expired h)
    in_path i BadExtension h = (refl, one_path i BadExtension h)
    in_path i UnhandledCritical h = (refl, one_path i UnhandledCritical h)
    in_path i NotCa h = (refl, one_path i NotCa h)
    in_path i NoCertSign h = (refl, one_path i NoCertSign h)
    in_path i PathTooLong h = (refl, one_path i PathTooLong h)
    in_path i NameMismatch h = (refl, one_path i NameMismatch h)
    in_path i BadSignature h = (refl, one_path i BadSignature h)

    outcome_is : (o : Outcome) → Told x (chain ++ anchor ∷ []) o → IsOutcome x o
    outcome_is (valid n) h =
        let l = length-append chain (anchor ∷ []) in
        let m = h.0 in
        record { chain = chain; anchor = anchor; path = path; count = omega arith; no_reason = λ i r k. h.1 i r (in_path i r k).1 }
    outcome_is (invalid i r) h =
        record {
          holds = holds_there i r h.0;
          none_before = λ j s b k. let p = in_path j s k in h.1 j s (in_last_round j i s r p.0 b) p.1;
        }

of_views : (x : Inputs) (views : List CertificateParts) → AreOfPath x.chain x.anchor views → IsOutcome x (walk x.accepts x.at 0 None views)
of_views x views h =
    let c = certificates_of h.of_chain x.chain [] h.is_chain in
    let a = only_view x.anchor h.of_anchor h.is_anchor h.alone in
    let p : IsPath x c.0 a.0 = record { is_chain = c.1; is_anchor = a.2 } in
    let of : AreOf (c.0 ++ a.0 ∷ []) (h.of_chain ++ h.of_anchor ∷ []) = both c.0 (a.0 ∷ []) h.of_chain (h.of_anchor ∷ []) c.2 (a.1, tt) in
    let l : 0 < length (c.0 ++ a.0 ∷ []) = (let e = length-append c.0 (a.0 ∷ []) in omega arith) in
    outcome_is x c.0 a.0 p h.some (walk x.accepts x.at 0 None views)
    (subst (λ (ps : List CertificateParts). Told x (c.0 ++ a.0 ∷ []) (walk x.accepts x.at 0 None ps)) (sym h.parts) (told x (c.0 ++ a.0 ∷ [])
    (h.of_chain ++ h.of_anchor ∷ []) l of))

told_valid : (x : Inputs) (o : Outcome) → IsOutcome x o → (r : Result ℕ ChainError) → Tells r o → IfOk r (λ n. IsValid x n)
told_valid x o h (Ok n) t = subst (IsOutcome x) (sym t) h
told_valid x o h (Err e) t = tt

told_fault : (x : Inputs) (o : Outcome) → IsOutcome x o → (r : Result ℕ ChainError) → Tells r o → IfErr r (λ e. Explains x e)
told_fault x o h (Ok n) t = tt
told_fault x o h (Err (Fault place reason)) t = subst (IsOutcome x) (sym t) h
told_fault x o h (Err OutOfMemory) t = tt

pub valid_is : (chain anchor : List ℕ) (at : DateTime) (accepts : List ℕ → List ℕ → List ℕ → List ℕ
    → Bool) (views : List CertificateParts) (r : Result ℕ ChainError)
    → AreOfPath chain anchor views → Tells r (walk accepts at 0 None views) → IfOk r (λ n. IsValid (inputs chain anchor at accepts) n)
valid_is chain anchor at accepts views r h t =
    told_valid (inputs chain anchor at accepts) (walk accepts at 0 None views) (of_views (inputs chain anchor at accepts) views h) r t

pub fault_is : (chain anchor : List ℕ) (at : DateTime) (accepts : List ℕ → List ℕ → List ℕ → List ℕ
    → Bool) (views : List CertificateParts) (r : Result ℕ ChainError)
    → AreOfPath chain anchor views → Tells r (walk accepts at 0 None views) → IfErr r (λ e. Explains (inputs chain anchor at accepts) e)
fault_is chain anchor at accepts views r h t =
    told_fault (inputs chain anchor at accepts) (walk accepts at 0 None views) (of_views (inputs chain anchor at accepts) views h) r t

-- ---- of what is no path

-- what is tested before isn't of a later round
not_later : (i j : ℕ) (r s : ChainReason) → IsTestedBefore i r j s → round r ≤ round s
not_later i j r s (inl l) = omega arith
not_later i j r s (inr h) = let e = h.0 in omega arith

before_empty : (x : Inputs) (j : ℕ) (s : ChainReason) → IsTestedBefore j s 1 Empty → Holds x j s → ⊥
before_empty x j Empty (inl l) h = omega arith
before_empty x j Empty (inr (e, inl l)) h = let f = h.0 in omega arith
before_empty x j Empty (inr (e, inr k)) h = let f = k.1 in omega arith
before_empty x j NotCertificate b h = let l = not_later j 1 NotCertificate Empty b in omega arith
before_empty x j AlgorithmsDiffer b h = let l = not_later j 1 AlgorithmsDiffer Empty b in omega arith
before_empty x j NotYetValid b h = let l = not_later j 1 NotYetValid Empty b in omega arith
before_empty x j Expired b h = let l = not_later j 1 Expired Empty b in omega arith
before_empty x j BadExtension b h = let l = not_later j 1 BadExtension Empty b in omega arith
before_empty x j UnhandledCritical b h = let l = not_later j 1 UnhandledCritical Empty b in omega arith
before_empty x j NotCa b h = let l = not_later j 1 NotCa Empty b in omega arith
before_empty x j NoCertSign b h = let l = not_later j 1 NoCertSign Empty b in omega arith
before_empty x j PathTooLong b h = let l = not_later j 1 PathTooLong Empty b in omega arith
before_empty x j NameMismatch b h = let l = not_later j 1 NameMismatch Empty b in omega arith
before_empty x j BadSignature b h = let l = not_later j 1 BadSignature Empty b in omega arith

-- where the certificates at the start of the chain end, each way of reason 2
pub record StopsBehind (x : Inputs) (i : ℕ) : Type 0 where
  pub before : List Certificate
  pub rest : List ℕ
  pub front : BeginsWithAll before x.chain rest
  pub ends : Ends rest
  pub place : i ≡ length before + 1

stops_behind : (x : Inputs) (i : ℕ) → HasNoNext x i ⊎ HasNoAnchor x i → StopsBehind x i
stops_behind x i (inl h) = record { before = h.before; rest = h.rest; front = h.front; ends = h.none; place = h.place }
stops_behind x i (inr h) = record { before = h.before; rest = []; front = h.front; ends = none_in_front; place = h.place }

one_stop_place : (x : Inputs) (i j : ℕ) → StopsBehind x i → StopsBehind x j → i ≡ j
one_stop_place x i j h k =
    h.place ∙ ap (λ (cs : List Certificate). length cs + 1) (one_stop h.before k.before x.chain h.rest k.rest h.front h.ends k.front k.ends).0 ∙ sym k.place

before_none : (x : Inputs) → ¬ (x.chain ≡ []) → (i : ℕ) → HasNoNext x i ⊎ HasNoAnchor x i → (j : ℕ) (s : ChainReason) → IsTestedBefore j s i NotCertificate
    → Holds x j s → ⊥
before_none x some i h j Empty b k = some k.1
before_none x some i h j NotCertificate (inl l) k = omega arith
before_none x some i h j NotCertificate (inr (e, inl l)) k = let f = one_stop_place x j i (stops_behind x j k) (stops_behind x i h) in omega arith
before_none x some i h j NotCertificate (inr (e, inr m)) k = let f = m.1 in omega arith
before_none x some i h j AlgorithmsDiffer b k = let l = not_later j i AlgorithmsDiffer NotCertificate b in omega arith
before_none x some i h j NotYetValid b k = let l = not_later j i NotYetValid NotCertificate b in omega arith
before_none x some i h j Expired b k = let l = not_later j i Expired NotCertificate b in omega arith
before_none x some i h j BadExtension b k = let l = not_later j i BadExtension NotCertificate b in omega arith
before_none x some i h j UnhandledCritical b k = let l = not_later j i UnhandledCritical NotCertificate b in omega arith
before_none x some i h j NotCa b k = let l = not_later j i NotCa NotCertificate b in omega arith
before_none x some i h j NoCertSign b k = let l = not_later j i NoCertSign NotCertificate b in omega arith
before_none x some i h j PathTooLong b k = let l = not_later j i PathTooLong NotCertificate b in omega arith
before_none x some i h j NameMismatch b k = let l = not_later j i NameMismatch NotCertificate b in omega arith
before_none x some i h j BadSignature b k = let l = not_later j i BadSignature NotCertificate b in omega arith

stop_is : (x : Inputs) (i : ℕ) → StopsAt x.chain i ⊎ LacksAnchor x.chain x.anchor i → HasNoNext x i ⊎ HasNoAnchor x i
stop_is x i (inl h) =
    let c = certificates_of h.views x.chain h.rest h.front in
    inl (record {
      before = c.0;
      rest = h.rest;
      front = c.1;
      left = h.left;
      none = without_view h.rest h.none;
      place = h.place_is ∙ ap (λ (n : ℕ). n + 1) (same_length c.0 h.views c.2);
    })
stop_is x i (inr h) =
    let c = certificates_of h.views x.chain [] h.front in
    inr (record { before = c.0; front = c.1; none = without_only_view x.anchor h.none; place = h.place_is ∙ ap (λ (n : ℕ). n + 1) (same_length c.0 h.views c.2) })

empty_is : (x : Inputs) (i : ℕ) → (i ≡ 1) × (x.chain ≡ []) → IsFirst x i Empty
empty_is x i h =
    subst (λ (n : ℕ). IsFirst x n Empty) (sym h.0) (record { holds = (refl, h.1); none_before = λ j s b k. before_empty x j s b k })

no_path_is : (x : Inputs) (e : ChainError) → IsNoPath x.chain x.anchor e → Explains x e
no_path_is x (Fault i Empty) h = empty_is x i h
no_path_is x (Fault i NotCertificate) h =
    let s = stop_is x i h.1 in
    record { holds = s; none_before = λ j r b k. before_none x h.0 i s j r b k }
no_path_is x (Fault i AlgorithmsDiffer) h = absurd h
no_path_is x (Fault i NotYetValid) h = absurd h
no_path_is x (Fault i Expired) h = absurd h
no_path_is x (Fault i BadExtension) h = absurd h
no_path_is x (Fault i UnhandledCritical) h = absurd h
no_path_is x (Fault i NotCa) h = absurd h
no_path_is x (Fault i NoCertSign) h = absurd h
no_path_is x (Fault i PathTooLong) h = absurd h
no_path_is x (Fault i NameMismatch) h = absurd h
no_path_is x (Fault i BadSignature) h = absurd h
no_path_is x OutOfMemory h = tt

pub stopped_is : (chain anchor : List ℕ) (at : DateTime) (accepts : List ℕ → List ℕ → List ℕ → List ℕ → Bool) (e : ChainError) → IsNoPath chain anchor e
    → Explains (inputs chain anchor at accepts) e
stopped_is chain anchor at accepts e h = no_path_is (inputs chain anchor at accepts) e h

-- ---- one thing comes of an input

one_invalid : (x : Inputs) (i j : ℕ) (r s : ChainReason) → IsFirst x i r → IsFirst x j s
    → ((i ≡ j) × (r ≡ s)) ⊎ (IsTestedBefore i r j s ⊎ IsTestedBefore j s i r) → invalid i r ≡ invalid j s
one_invalid x i j r s h k (inl e) = ap (λ (n : ℕ). invalid n r) e.0 ∙ ap (λ (t : ChainReason). invalid j t) e.1
one_invalid x i j r s h k (inr (inl b)) = absurd (k.none_before i r b h.holds)
one_invalid x i j r s h k (inr (inr b)) = absurd (h.none_before j s b k.holds)

pub one_outcome_is : (x : Inputs) (a b : Outcome) → IsOutcome x a → IsOutcome x b → a ≡ b
one_outcome_is x (valid m) (valid n) h k =
    ap valid (h.count ∙ ap (λ (cs : List Certificate). length cs)
    (one_stop h.chain k.chain x.chain [] [] h.path.is_chain none_in_front k.path.is_chain none_in_front).0 ∙ sym k.count)
one_outcome_is x (valid m) (invalid i r) h k = absurd (h.no_reason i r k.holds)
one_outcome_is x (invalid i r) (valid n) h k = absurd (k.no_reason i r h.holds)
one_outcome_is x (invalid i r) (invalid j s) h k = one_invalid x i j r s h k (total i j r s)
