-- Purposes that are inserted one after the other occur once each.
use Rattle.std.specs.Prelude.{◌≡◌, Bool, true, false, ◌&&◌, ◌||◌, not, cond, List, [], ◌∷◌, ◌++◌, filter, map, refl}
use Rattle.std.proofs.Common.{ap, sym, ◌∙◌}
use Rattle.std.proofs.lemmas.List.{append_assoc, append-nil, map-append}
use Rattle.std.proofs.lemmas.List.Sums.{fold-append, fold_push}
use Rattle.std.proofs.lemmas.List.Folds.{list_any-append}
use Rattle.rcgen_certificate.specs.ExtendedKeyUsages.{Purpose, purpose_of, same_purpose, same_purpose_equiv}
use Rattle.rcgen_certificate.specs.declared.extended_key_usage.ExtendedKeyUsagePurpose.{ExtendedKeyUsagePurpose}
use Rattle.rcgen_read.specs.ExtensionReading.{holds, inserted, with_inserted}
use Rattle.rcgen_read.specs.RequestLaws.{each_once}
use Rattle.rcgen_read.proofs.Kept.{any_same, filter_both, filter_same}

-- equal purposes are held by the same lists
same_held : (ps : List Purpose) (p q : Purpose) → same_purpose p q ≡ true → holds ps p ≡ holds ps q
same_held ps p q h =
    any_same (λ r. same_purpose r p) (λ r. same_purpose r q) ps
    (λ r. same_purpose_equiv.symm r p ∙ same_purpose_equiv.congr p q r h ∙ same_purpose_equiv.symm q r)

abbrev missing : List Purpose → Purpose → Bool
missing ps p = not (holds ps p)

abbrev another : Purpose → Purpose → Bool
another p q = not (same_purpose p q)

neither : (a b : Bool) → not (a || (b || false)) ≡ (not b && not a)
neither true true = refl
neither true false = refl
neither false true = refl
neither false false = refl

-- what is missing once one more is added is another one, and was missing before
missing_behind : (ps : List Purpose) (p q : Purpose) → missing (ps ++ p ∷ []) q ≡ (another p q && missing ps q)
missing_behind ps p q = ap not (list_any-append (λ r. same_purpose r q) ps (p ∷ [])) ∙ neither (holds ps q) (same_purpose p q)

missing_by : (ps : List Purpose) (p q : Purpose) (same : Bool) → same_purpose p q ≡ same → holds ps p ≡ true → (not same && missing ps q) ≡ missing ps q
missing_by ps p q true e h = ap not (sym (sym (same_held ps p q e) ∙ h))
missing_by ps p q false e h = refl

-- what is missing isn't the same as what is there
missing_is_another : (ps : List Purpose) (p q : Purpose) → holds ps p ≡ true → (another p q && missing ps q) ≡ missing ps q
missing_is_another ps p q h = missing_by ps p q (same_purpose p q) refl h

abbrev Inserts : List Purpose → Type 0
Inserts more = (ps : List Purpose) → inserted ps more ≡ ps ++ filter (missing ps) (each_once more)

module _ (ps more : List Purpose) (p : Purpose) (rest : Inserts more) where
  abbrev left : List Purpose
  left = filter (another p) (each_once more)

  is_there : holds ps p ≡ true → inserted ps more ≡ ps ++ filter (missing ps) left
  is_there h =
      rest ps
      ∙ ap (λ (xs : List Purpose). ps ++ xs)
      (sym (filter_both (missing ps) (another p) (each_once more)
      ∙ filter_same (λ q. another p q && missing ps q) (missing ps) (each_once more) (λ q. missing_is_another ps p q h)))

  is_new : inserted (ps ++ p ∷ []) more ≡ ps ++ p ∷ filter (missing ps) left
  is_new =
      rest (ps ++ p ∷ [])
      ∙ append_assoc ps (p ∷ []) (filter (missing (ps ++ p ∷ [])) (each_once more))
      ∙ ap (λ (xs : List Purpose). ps ++ p ∷ xs)
      (filter_same (missing (ps ++ p ∷ [])) (λ q. another p q && missing ps q) (each_once more) (missing_behind ps p)
      ∙ sym (filter_both (missing ps) (another p) (each_once more)))

  by_held : (there : Bool) → holds ps p ≡ there
      → inserted (cond there ps (ps ++ p ∷ [])) more ≡ ps ++ cond (not there) (p ∷ filter (missing ps) left) (filter (missing ps) left)
  by_held true h = is_there h
  by_held false h = is_new

inserted_are : (more : List Purpose) → Inserts more
inserted_are [] ps = sym (append-nil ps)
inserted_are (p ∷ more) ps = by_held ps more p (inserted_are more) (holds ps p) refl

all_missing : (ps : List Purpose) → filter (missing []) ps ≡ ps
all_missing [] = refl
all_missing (p ∷ ps) = ap (λ (qs : List Purpose). p ∷ qs) (all_missing ps)

pub inserted_first : (ps : List Purpose) → inserted [] ps ≡ each_once ps
inserted_first ps = inserted_are ps [] ∙ all_missing (each_once ps)

-- ---- with a set of those that are held

either : (a b : Bool) → cond a true b ≡ (b || (a || false))
either true true = refl
either true false = refl
either false true = refl
either false false = refl

-- one more is held
pub held_more : (ps : List Purpose) (p q : Purpose) (same there : Bool) → same ≡ same_purpose p q → there ≡ holds ps q
    → cond same true there ≡ holds (ps ++ p ∷ []) q
held_more ps p q same there e f =
    rw (e, f) (either (same_purpose p q) (holds ps q)) ∙ sym (list_any-append (λ r. same_purpose r q) ps (p ∷ []))

-- one more that is inserted
pub inserted_more : (xs : List ExtendedKeyUsagePurpose) (x : ExtendedKeyUsagePurpose) (ps : List Purpose) → ps ≡ inserted [] (map purpose_of xs)
    → with_inserted ps (purpose_of x) ≡ inserted [] (map purpose_of (xs ++ x ∷ []))
inserted_more xs x ps e =
    ap (λ (l : List Purpose). with_inserted l (purpose_of x)) e
    ∙ sym (ap (inserted []) (map-append purpose_of xs (x ∷ [])) ∙ fold_push with_inserted [] (map purpose_of xs) (purpose_of x))

-- those of two lists
pub inserted_append : (xs ys : List ExtendedKeyUsagePurpose)
    → inserted [] (map purpose_of (xs ++ ys)) ≡ inserted (inserted [] (map purpose_of xs)) (map purpose_of ys)
inserted_append xs ys =
    ap (inserted []) (map-append purpose_of xs ys) ∙ fold-append with_inserted [] (map purpose_of xs) (map purpose_of ys)

-- one that was new to the set was missing
pub was_missing : (ps : List Purpose) (p : Purpose) (new there : Bool) → new ≡ not there → there ≡ holds ps p → new ≡ true → holds ps p ≡ false
was_missing ps p true false e f n = sym f
was_missing ps p true true e f n = absurd cc
was_missing ps p false there e f n = absurd cc
