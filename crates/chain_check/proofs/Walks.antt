-- What the walk over the places of a path tells.
use Rattle.std.specs.Prelude.{Bool, IfSome, List, None, Option, Some, cond, drop, false, length, refl, true, ℕ, [], ◌++◌, ◌+◌, ◌<◌, ◌≤◌, ◌∷◌, ◌≡◌, ◌⊎◌}
use Rattle.std.specs.Bool.{Decides}
use Rattle.std.proofs.Common.{ap, append_assoc, arith, get_or, inl, inr, subst, sym, ◌∙◌}
use Rattle.std.proofs.lemmas.Bool.{cases_order}
use Rattle.std.proofs.lemmas.List.{drop_more, length-append}
use Rattle.jiff.specs.Types.{DateTime}
use Rattle.asn1_core.specs.Binds.{some_is}
use Rattle.pkix_name.specs.Names.{name}
use Rattle.pkix_cert.specs.Held.{IsOfCertificate}
use Rattle.pkix_cert.specs.Views.{CertificateParts}
use Rattle.pkix_cert.specs.declared.certificate.Certificate.{Certificate}
use Rattle.chain_check.specs.Inputs.{Inputs, Place, StandsAt}
use Rattle.chain_check.specs.Outcomes.{Outcome, invalid, valid}
use Rattle.chain_check.specs.ViewChecks.{others_after, place_reason, self_issued, stop_at, walk}
use Rattle.chain_check.specs.Reasons.{AreNotSelfIssued, Breaks, IsSelfIssued}
use Rattle.chain_check.specs.declared.error.ChainReason.{ChainReason}
use Rattle.chain_check.proofs.Fronts.{AreOf}
use Rattle.chain_check.proofs.Orders.{ComesBefore, IsLeast}
use Rattle.chain_check.proofs.PlaceTests.{IsCountBefore, first_at, forms_decide, no_some}

-- the reason holds at the place of the path
pub record BreaksIn (x : Inputs) (path : List Certificate) (i : ℕ) (r : ChainReason) : Type 0 where
  pub at : Place
  pub stands : StandsAt path i at
  pub breaks : Breaks x at r

abbrev pub Told : Inputs → List Certificate → Outcome → Type 0
Told x path (valid n) = (n + 1 ≡ length path) × ((i : ℕ) (r : ChainReason) → ¬ (BreaksIn x path i r))
Told x path (invalid i r) = BreaksIn x path i r × ((j : ℕ) (s : ChainReason) → ComesBefore j s i r → ¬ (BreaksIn x path j s))

-- ---- places

heads : (c d : Certificate) (cs ds : List Certificate) → c ∷ cs ≡ d ∷ ds → c ≡ d
heads c d cs ds e = cc

tails : (c d : Certificate) (cs ds : List Certificate) → c ∷ cs ≡ d ∷ ds → cs ≡ ds
tails c d cs ds e = cc

pub record SameSplit (xs ys : List Certificate) (c d e f : Certificate) : Type 0 where
  pub fronts : xs ≡ ys
  pub firsts : c ≡ e
  pub seconds : d ≡ f

same_split : (xs ys cs ds : List Certificate) (c d e f : Certificate) → xs ++ (c ∷ d ∷ cs) ≡ ys ++ (e ∷ f ∷ ds) → length xs ≡ length ys → SameSplit xs ys c d e f
same_split [] [] cs ds c d e f h l =
    record { fronts = refl; firsts = heads c e (d ∷ cs) (f ∷ ds) h; seconds = heads d f cs ds (tails c e (d ∷ cs) (f ∷ ds) h) }
same_split [] (b ∷ ys) cs ds c d e f h l = absurd (omega arith)
same_split (a ∷ xs) [] cs ds c d e f h l = absurd (omega arith)
same_split (a ∷ xs) (b ∷ ys) cs ds c d e f h l =
    let m : length xs ≡ length ys = omega arith in
    let k = same_split xs ys cs ds c d e f (tails a b (xs ++ (c ∷ d ∷ cs)) (ys ++ (e ∷ f ∷ ds)) h) m in
    record {
      fronts = ap (λ (c : Certificate). c ∷ xs) (heads a b (xs ++ (c ∷ d ∷ cs)) (ys ++ (e ∷ f ∷ ds)) h) ∙ ap (λ (zs : List Certificate). b ∷ zs) k.fronts;
      firsts = k.firsts;
      seconds = k.seconds;
    }

one_place : (path before after : List Certificate) (c d : Certificate) (i : ℕ) (p : Place) → path ≡ before ++ (c ∷ d ∷ after) → i ≡ length before + 1
    → StandsAt path i p
    → p ≡ record { before = before; this = c; issuer = d }
one_place path before after c d i p e n h =
    let l : length p.before ≡ length before = (let m = h.place in omega arith) in
    let k = same_split p.before before h.after after p.this p.issuer c d (sym h.parts ∙ e) l in
    λ j. record { before = k.fronts j; this = k.firsts j; issuer = k.seconds j }

-- a place with another after it isn't the last
no_later : (path before : List Certificate) (c : Certificate) (i : ℕ) (p : Place) → path ≡ before ++ c ∷ [] → StandsAt path i p → i ≤ length before
no_later path before c i p e h =
    let l : length path ≡ length before + 1 = ap (λ (xs : List Certificate). length xs) e ∙ length-append before (c ∷ []) in
    let m : length path ≡ length p.before + length (p.this ∷ p.issuer ∷ h.after) = ap (λ (xs : List Certificate). length xs) h.parts
    ∙ length-append p.before (p.this ∷ p.issuer ∷ h.after) in
    let n = h.place in
    omega arith

-- ---- counts

count_self : (cs : List Certificate) (c : Certificate) (n : ℕ) → AreNotSelfIssued cs n → IsSelfIssued c → AreNotSelfIssued (cs ++ c ∷ []) n
count_self [] c n h s = inl (s, h)
count_self (d ∷ ds) c n (inl h) s = inl (h.0, count_self ds c n h.1 s)
count_self (d ∷ ds) c n (inr h) s = inr (h.0, (h.1.0, h.1.1, count_self ds c h.1.0 h.1.2 s))

count_other : (cs : List Certificate) (c : Certificate) (n : ℕ) → AreNotSelfIssued cs n → ¬ (IsSelfIssued c) → AreNotSelfIssued (cs ++ c ∷ []) (n + 1)
count_other [] c n h other = inr (other, (n, refl, h))
count_other (d ∷ ds) c n (inl h) other = inl (h.0, count_other ds c n h.1 other)
count_other (d ∷ ds) c n (inr h) other = inr (h.0, (h.1.0 + 1, ap (λ (x : ℕ). x + 1) h.1.1, count_other ds c h.1.0 h.1.2 other))

count_step : (b : Certificate) (bs : List Certificate) (c : Certificate) (n : ℕ) (t : Bool) → AreNotSelfIssued bs n → Decides t (IsSelfIssued c)
    → IsCountBefore (b ∷ (bs ++ c ∷ [])) (cond t (Some n) (Some (n + 1)))
count_step b bs c n true h d = (n, refl, count_self bs c n h (d.0 refl))
count_step b bs c n false h d = (n + 1, refl, count_other bs c n h (λ s. let e = d.1 s in absurd cc))

count_after : (before : List Certificate) (c : Certificate) (p : CertificateParts) (others : Option ℕ) → IsOfCertificate c p → IsCountBefore before others
    → IsCountBefore (before ++ c ∷ []) (others_after others p)
unfolding others_after
count_after [] c p None of_c h = (0, refl, refl)
count_after [] c p (Some n) of_c h = absurd (no_some n h)
count_after (b ∷ bs) c p None of_c h = absurd (no_some h.0 (sym h.1))
count_after (b ∷ bs) c p (Some n) of_c h =
    count_step b bs c n (self_issued p) (subst (λ (m : ℕ). AreNotSelfIssued bs m) (sym (some_is n h.0 h.1)) h.2)
    (forms_decide name c.tbs_certificate.issuer c.tbs_certificate.subject p.issuer p.subject of_c.issuer of_c.subject)

-- ---- the walk

module _ (x : Inputs) (path : List Certificate) where
  -- no reason holds up to the place
  abbrev NoneUpTo : ℕ → Type 0
  NoneUpTo n = (i : ℕ) (s : ChainReason) → i ≤ n → ¬ (BreaksIn x path i s)

  module _ (before after : List Certificate) (c d : Certificate) (split : path ≡ before ++ (c ∷ d ∷ after)) (none : NoneUpTo (length before)) where
    abbrev here : Place
    here = record { before = before; this = c; issuer = d }

    breaks_here : (i : ℕ) (s : ChainReason) → i ≡ length before + 1 → BreaksIn x path i s → Breaks x here s
    breaks_here i s e h = subst (λ (p : Place). Breaks x p s) (one_place path before after c d i h.at split e h.stands) h.breaks

    first_here : (r : ChainReason) → IsLeast (Breaks x here) (Some r) → (j : ℕ) (s : ChainReason) → ComesBefore j s (length before + 1) r → ¬ (BreaksIn x path j s)
    first_here r least j s (inl l) h = none j s (omega arith) h
    first_here r least j s (inr k) h = least.1 s k.1 (breaks_here j s k.0 h)

    none_up_to : ((s : ChainReason) → ¬ (Breaks x here s)) → (i : ℕ) (s : ChainReason) → i ≤ length before + 1
        → (i ≡ length before + 1) ⊎ ((i < length before + 1) ⊎ (length before + 1 < i)) → ¬ (BreaksIn x path i s)
    none_up_to other i s l (inl e) h = other s (breaks_here i s e h)
    none_up_to other i s l (inr (inl m)) h = none i s (omega arith) h
    none_up_to other i s l (inr (inr m)) h = absurd (omega arith)

    none_after : ((s : ChainReason) → ¬ (Breaks x here s)) → NoneUpTo (length (before ++ c ∷ []))
    none_after other i s l h =
        let m : i ≤ length before + 1 = (let e = length-append before (c ∷ []) in omega arith) in
        none_up_to other i s m (cases_order i (length before + 1)) h

    told_at : (o : Option ChainReason) (rest : Outcome) → IsLeast (Breaks x here) o → (((s : ChainReason) → ¬ (Breaks x here s)) → Told x path rest)
        → Told x path (stop_at (length before + 1) o rest)
    told_at None rest least go = go least
    told_at (Some r) rest least go =
        (record { at = here; stands = record { after = after; parts = split; place = refl }; breaks = least.0 }, first_here r least)

  told_last : (before : List Certificate) (c : Certificate) → path ≡ before ++ c ∷ [] → NoneUpTo (length before) → Told x path (valid (length before))
  told_last before c e none =
      (sym (ap (λ (xs : List Certificate). length xs) e ∙ length-append before (c ∷ [])), λ i r h. none i r (no_later path before c i h.at e h.stands) h)

  walk_tells : (before rest : List Certificate) (ps : List CertificateParts) (others : Option ℕ) → path ≡ before ++ rest → 0 < length rest → AreOf rest ps
      → IsCountBefore before others → NoneUpTo (length before) → Told x path (walk x.accepts x.at (length before) others ps)
  walk_tells before [] ps others e l of count none = absurd (omega arith)
  walk_tells before (c ∷ cs) [] others e l of count none = absurd of
  walk_tells before (c ∷ []) (p ∷ []) others e l of count none = told_last before c e none
  walk_tells before (c ∷ []) (p ∷ q ∷ ps) others e l of count none = absurd of.1
  walk_tells before (c ∷ d ∷ cs) (p ∷ []) others e l of count none = absurd of.1
  walk_tells before (c ∷ d ∷ cs) (p ∷ q ∷ ps) others e l of count none =
      told_at before cs c d e none (place_reason x.accepts x.at others p q) (walk x.accepts x.at (length before + 1) (others_after others p) (q ∷ ps))
      (first_at x before c d p q others of.0 of.1.0 count)
      (λ other. subst (λ (n : ℕ). Told x path (walk x.accepts x.at n (others_after others p) (q ∷ ps))) (length-append before (c ∷ []))
      (walk_tells (before ++ c ∷ []) (d ∷ cs) (q ∷ ps) (others_after others p) (e ∙ sym (append_assoc before (c ∷ []) (d ∷ cs))) (omega arith) of.1
      (count_after before c p others of.0 count) (none_after before cs c d e none other)))

-- of a whole path
pub told : (x : Inputs) (path : List Certificate) (ps : List CertificateParts) → 0 < length path → AreOf path ps → Told x path (walk x.accepts x.at 0 None ps)
told x path ps l of = walk_tells x path [] path ps None refl l of refl (λ i s m h. let n = h.stands.place in absurd (omega arith))

-- ---- the count stays below the places passed

fit_step : (b : Bool) (n place : ℕ) → n + 1 ≤ place → IfSome (cond b (Some n) (Some (n + 1))) (λ m. m + 1 ≤ place + 1)
fit_step true n place h = omega arith
fit_step false n place h = omega arith

after_fits : (others : Option ℕ) (p : CertificateParts) (place : ℕ) → IfSome others (λ n. n + 1 ≤ place) → IfSome (others_after others p) (λ n. n + 1 ≤ place + 1)
unfolding others_after
after_fits None p place h = omega arith
after_fits (Some n) p place h = fit_step (self_issued p) n place h

pub next_fits : (others next : Option ℕ) (p : CertificateParts) (place : ℕ) → next ≡ others_after others p → IfSome others (λ n. n + 1 ≤ place)
    → IfSome next (λ n. n + 1 ≤ place + 1)
next_fits others next p place e h = subst (λ (o : Option ℕ). IfSome o (λ n. n + 1 ≤ place + 1)) (sym e) (after_fits others p place h)

-- ---- a step of the loop

pub none_of : (o : Option ChainReason) → ((r : ChainReason) → o ≡ Some r → ⊥) → o ≡ None
none_of None h = refl
none_of (Some r) h = absurd (h r refl)

-- where no reason holds at a place, the walk goes on with the next
pub walk_more : (accepts : List ℕ → List ℕ → List ℕ → List ℕ → Bool) (at : DateTime) (place : ℕ) (others next : Option ℕ) (reason : Option ChainReason)
    (view issuer : CertificateParts) (issuers : List CertificateParts) (i : ℕ)
    (whole : Outcome) → i < length issuers → issuer ≡ get_or issuers i issuer → walk accepts at place others (view ∷ drop i issuers) ≡ whole
    → reason ≡ place_reason accepts at others view issuer → reason ≡ None → next ≡ others_after others view
    → walk accepts at (place + 1) next (issuer ∷ drop (i + 1) issuers) ≡ whole
walk_more accepts at place others next reason view issuer issuers i whole l e h is none n =
    let more = drop (i + 1) issuers in
    let d : drop i issuers ≡ issuer ∷ more = drop_more issuers i issuer l ∙ ap (λ (p : CertificateParts). p ∷ more) (sym e) in
    let rest = walk accepts at (place + 1) (others_after others view) (issuer ∷ more) in
    let step : walk accepts at place others (view ∷ issuer ∷ more) ≡ rest = ap (λ (o : Option ChainReason). stop_at (place + 1) o rest) (sym is ∙ none) in
    ap (λ (o : Option ℕ). walk accepts at (place + 1) o (issuer ∷ more)) n ∙ sym step
    ∙ sym (ap (λ (ps : List CertificateParts). walk accepts at place others (view ∷ ps)) d) ∙ h
