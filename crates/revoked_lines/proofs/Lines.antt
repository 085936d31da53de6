-- Words and lines of a text.
use Rattle.std.proofs.Common.{◌≡◌, ◌∙◌, ◌+◌, ◌<◌, ◌≤◌, ℕ, suc, Bool, true, false, List, [], ◌∷◌, ◌++◌, Option, Some, None, Result, Ok, Err, IsErrAnd, Vec, Global, length, option_to_list, ap, refl, subst, sym, arith}
use Rattle.std.specs.Prelude.{◌==◌, if◌then◌else◌}
use Rattle.std.specs.List.{after_first, before_first, position_or_len, slice_split}
use Rattle.std.specs.Str.{IsUtf8, is_utf8}
use Rattle.std.specs.Str.Iter.{lines_steps}
use Rattle.std.specs.Str.Lines.{lines, lines_of_parts}
use Rattle.std.specs.declared.str.Lines.{Lines}
use Rattle.std.specs.Borrow.{Bor}
use Rattle.std.proofs.lemmas.Iterator.{YieldsList}
use Rattle.std.proofs.lemmas.List.Splits.{length-slice_split, slice_split_first, slice_split_none}
use Rattle.std.proofs.lemmas.List.Sums.{count_by-le-length, fails_before_first}
use Rattle.std.proofs.lemmas.Str.{IsUtf8-from_is_utf8, is_utf8-from_IsUtf8}
use Rattle.shelf_fault.specs.Faults.{Gets, MayFail, and_then}
use Rattle.shelf_fault.specs.declared.fault.Fault.{Fault}
use Rattle.shelf_fault.specs.declared.fault.Fault.TheVariants.{RevokedText}
use Rattle.toml_format.specs.declared.revocation_list.Revoked.{Revoked}
use Rattle.revoked_lines.specs.Lines.{line_entry, named_words, split_words, with_lines, with_text}

-- ---- words

-- what comes before the first element that is c, and what comes after it
pub cut_first : (c : ℕ) (text front back : List ℕ) → position_or_len (λ b. b == c) text < length text
    → front ≡ before_first (λ b. b == c) text → back ≡ after_first (λ b. b == c) text
    → slice_split (λ b. b == c) text ≡ front ∷ slice_split (λ b. b == c) back
cut_first c text front back l f b =
    slice_split_first (λ b. b == c) text 0 l
    ∙ ap (λ (w : List ℕ). w ∷ slice_split (λ b. b == c) (after_first (λ b. b == c) text)) (sym f)
    ∙ ap (λ (r : List ℕ). front ∷ slice_split (λ b. b == c) r) (sym b)

-- no element is c
pub uncut : (c : ℕ) (text : List ℕ) → position_or_len (λ b. b == c) text ≡ length text → slice_split (λ b. b == c) text ≡ text ∷ []
uncut c text e = slice_split_none (λ b. b == c) text (λ k d l. fails_before_first (λ b. b == c) text k d (omega (arith, e)))

no_more_than_four : (s t r i : List ℕ) (more : List (List ℕ)) → 0 < length more → named_words (s ∷ t ∷ r ∷ i ∷ more) ≡ None
no_more_than_four s t r i [] l = absurd (omega arith)
no_more_than_four s t r i (w ∷ ws) l = refl

pub no_fifth : (s t r i rest : List ℕ) → named_words (s ∷ t ∷ r ∷ i ∷ split_words rest) ≡ None
no_fifth s t r i rest = no_more_than_four s t r i (split_words rest) (omega (arith, length-slice_split (λ b. b == 32) rest))

-- ---- lines

length-lines_of_parts : (parts : List (List ℕ)) → length (lines_of_parts parts) ≤ length parts
length-lines_of_parts [] = omega arith
length-lines_of_parts (x ∷ []) = last (length x == 0) x where
  last : (b : Bool) (x : List ℕ) → length (if b then [] else x ∷ []) ≤ 1
  last true x = omega arith
  last false x = omega arith
length-lines_of_parts (x ∷ y ∷ more) = omega (arith, length-lines_of_parts (y ∷ more))

-- there is at most one line more than octets
pub line_count : (text : List ℕ) → length (lines text) ≤ length text + 1
line_count text =
    omega (arith, length-lines_of_parts (slice_split (λ b. b == 10) text), length-slice_split (λ b. b == 10) text, count_by-le-length (λ b. b == 10) text)

-- the lines that are left, read on from here, are the whole
pub record Reads (d : Bool) (s : Lines) (count bound : ℕ) (found : List Revoked) (whole : Result (List Revoked) Fault) (left : List (List ℕ)) : Type 0 where
  pub yields : YieldsList lines_steps (λ x. x.now) s left
  pub reads : with_lines d count found left ≡ whole
  pub fits : count + length left ≤ bound

abbrev pub ReadsOn : Bool → Lines → ℕ → ℕ → List Revoked → Result (List Revoked) Fault → Type 0
ReadsOn d s count bound found whole = (left : List (List ℕ)) × Reads d s count bound found whole left

one_line : (d : Bool) (count next : ℕ) (found : List Revoked) (line l : List ℕ) (ls : List (List ℕ)) (e : Result (Option Revoked) Fault)
    → suc count ≡ next → line ≡ l → line_entry d next line ≡ e
    → with_lines d count found (l ∷ ls) ≡ and_then e (λ x. with_lines d (suc count) (found ++ option_to_list x) ls)
one_line d count next found line l ls e n same h =
    ap (λ (r : Result (Option Revoked) Fault). and_then r (λ x. with_lines d (suc count) (found ++ option_to_list x) ls))
    (ap (λ (k : ℕ). line_entry d k l) n ∙ ap (λ (w : List ℕ). line_entry d next w) (sym same) ∙ h)

-- a line whose entry is taken
pub goes_on : (d : Bool) (s t : Lines) (line : Bor (List ℕ)) (count next bound : ℕ) (found more : List Revoked) (entry : Option Revoked)
    (whole : Result (List Revoked) Fault) → lines_steps s (Some line) t → suc count ≡ next → line_entry d next line.now ≡ Ok entry
    → more ≡ found ++ option_to_list entry → ReadsOn d s count bound found whole → ReadsOn d t next bound more whole
goes_on d s t line count next bound found more entry whole step n e m ([], r) = absurd (r.yields.runs line t step)
goes_on d s t line count next bound found more entry whole step n e m (l ∷ ls, r) =
    let after = r.yields.runs.1 line t step in (
      ls,
      record {
        yields = record { runs = after.1 };
        reads =
            ap (λ (k : ℕ). with_lines d k more ls) (sym n) ∙ ap (λ (f : List Revoked). with_lines d (suc count) f ls) m
            ∙ sym (one_line d count next found line.now l ls (Ok entry) n after.0 e) ∙ r.reads;
        fits = omega (arith, r.fits, n);
      },
    )

-- a line that can't be read
pub stops : (d : Bool) (s t : Lines) (line : Bor (List ℕ)) (count next bound : ℕ) (found : List Revoked) (fault : Fault)
    (whole : Result (List Revoked) Fault) → lines_steps s (Some line) t → suc count ≡ next → line_entry d next line.now ≡ Err fault
    → ReadsOn d s count bound found whole → whole ≡ Err fault
stops d s t line count next bound found fault whole step n e ([], r) = absurd (r.yields.runs line t step)
stops d s t line count next bound found fault whole step n e (l ∷ ls, r) =
    sym r.reads ∙ one_line d count next found line.now l ls (Err fault) n (r.yields.runs.1 line t step).0 e

-- no line is left
pub at_end : (d : Bool) (s t : Lines) (count bound : ℕ) (found : List Revoked) (whole : Result (List Revoked) Fault) → lines_steps s None t
    → ReadsOn d s count bound found whole → whole ≡ Ok found
at_end d s t count bound found whole step ([], r) = sym r.reads
at_end d s t count bound found whole step (l ∷ ls, r) = absurd (r.yields.runs.0 t step)

-- a line is left
pub has_room : (d : Bool) (s t : Lines) (line : Bor (List ℕ)) (count bound : ℕ) (found : List Revoked) (whole : Result (List Revoked) Fault)
    → lines_steps s (Some line) t → ReadsOn d s count bound found whole → count + 1 ≤ bound
has_room d s t line count bound found whole step ([], r) = absurd (r.yields.runs line t step)
has_room d s t line count bound found whole step (l ∷ ls, r) = omega (arith, r.fits)

abbrev pub Entries : Type 0
Entries = Vec Revoked Global

-- the fault of a line, which is passed on
pub passed_on : (whole : Result (List Revoked) Fault) (r : Result Entries Fault) (fault : Fault) → IsErrAnd r (λ f. f ≡ fault)
    → MayFail whole fault → Gets (λ (v : Entries). v.items) whole r
passed_on whole (Ok x) fault p h = absurd p
passed_on whole (Err f) fault p h = λ n. h (λ same. n (p ∙ same)) ∙ ap (λ (x : Fault). Err x) (sym p)

-- ---- texts

pub known : (d : Bool) (found : List Revoked) (octets text : List ℕ) (r : Result Entries Fault) → (text ≡ octets) × IsUtf8 octets
    → Gets (λ (v : Entries). v.items) (with_lines d 0 found (lines text)) r → Gets (λ (v : Entries). v.items) (with_text d found octets) r
unfolding with_text
known d found octets text r h g =
    subst (λ (f : Result (List Revoked) Fault). Gets (λ (v : Entries). v.items) f r)
    (ap (λ (t : List ℕ). with_lines d 0 found (lines t)) h.0
    ∙ sym (ap (λ (b : Bool). if b then with_lines d 0 found (lines octets) else Err RevokedText) (is_utf8-from_IsUtf8 octets h.1))) g

not_true : (b : Bool) → (b ≡ true → ⊥) → b ≡ false
not_true true h = absurd (h refl)
not_true false h = refl

pub unknown : (d : Bool) (found : List Revoked) (octets : List ℕ) → ¬ (IsUtf8 octets) → with_text d found octets ≡ Err RevokedText
unfolding with_text
unknown d found octets h =
    ap (λ (b : Bool). if b then with_lines d 0 found (lines octets) else Err RevokedText)
    (not_true (is_utf8 octets) (λ e. h (IsUtf8-from_is_utf8 octets e)))
