-- The lines of extensions, one after another.
use Rattle.std.proofs.Common.{◌≡◌, ℕ, zero, suc, ◌==◌, Bool, true, false, List, [], ◌∷◌, ◌++◌, codes, flat_map, slice_index, Option, Some, None, refl, ap, sym, ◌∙◌, arith}
use Rattle.std.specs.List.{AllZip, list_all}
use Rattle.std.proofs.lemmas.Bool.{both_ways, cond_both, not-true}
use Rattle.std.proofs.lemmas.List.{append_assoc, append_cancel_left, append_cancel_right, append-nil}
use Rattle.asn1_core.specs.Binds.{and_true, true_and}
use Rattle.pkix_cert.specs.declared.algorithm.AlgorithmIdentifier.{AlgorithmIdentifier}
use Rattle.pkix_cert.specs.declared.extension.Extension.{Extension}
use Rattle.pkix_cert.specs.declared.extension.Extensions.{Extensions}
use Rattle.shelf_explain.specs.Blocks.{inner_algorithm, titled_extensions}
use Rattle.shelf_explain.specs.ExtensionTexts.{all_extensions, contents_text, critical_mark, extension_key, extension_line, kind_of}
use Rattle.shelf_explain.specs.Keys.{full_algorithm_text, same_algorithm}
use Rattle.shelf_explain.specs.Known.{extension_name_text}
use Rattle.shelf_explain.specs.Lines.{key_part, labelled, line, up_to_column}
use Rattle.explained_whole.proofs.ContentsTexts.{contents_indented}
use Rattle.explained_whole.proofs.Identifiers.{name_bracketless, name_colonless, name_starts, no_bracket, no_colon, starts_plainly}
use Rattle.explained_whole.proofs.Indents.{ends_there, spaces}
use Rattle.explained_whole.proofs.Texts.{all_append, splits, tail_is}

-- ---- keys

keyed : (key up text rest : List ℕ)
    → (((((key ++ 58 ∷ []) ++ up) ++ 32 ∷ []) ++ text) ++ 10 ∷ []) ++ rest ≡ key ++ 58 ∷ (up ++ 32 ∷ (text ++ 10 ∷ rest))
keyed key up text rest = simp append_assoc

abbrev after_key : List ℕ → List ℕ → List ℕ → List ℕ
after_key key text rest = up_to_column (codes "    ") key ++ 32 ∷ (text ++ 10 ∷ rest)

line_is : (key text rest : List ℕ) → line (codes "    ") key text ++ rest ≡ 32 ∷ 32 ∷ 32 ∷ 32 ∷ (key ++ 58 ∷ after_key key text rest)
unfolding line key_part
line_is key text rest = ap (λ (t : List ℕ). 32 ∷ 32 ∷ 32 ∷ 32 ∷ t) (keyed key (up_to_column (codes "    ") key) text rest)

mark_colonless : (b : Bool) → list_all no_colon (critical_mark b) ≡ true
unfolding critical_mark
mark_colonless true = refl
mark_colonless false = refl

key_colonless : (e : Extension) → list_all no_colon (extension_key e) ≡ true
unfolding extension_key
key_colonless e = all_append no_colon (extension_name_text e.extn_id) (critical_mark e.critical) (name_colonless e.extn_id) (mark_colonless e.critical)

all_second : (p : ℕ → Bool) (x y : List ℕ) → list_all p (x ++ y) ≡ true → list_all p y ≡ true
all_second p [] y h = h
all_second p (c ∷ x) y h = all_second p x y (and_true (p c) (list_all p (x ++ y)) h).1

-- no name ends as the mark does
unmarked : (x y : List ℕ) → list_all no_bracket y ≡ true → x ++ codes " (critical)" ≡ y → ⊥
unmarked x y h e =
    let f : false ≡ true = all_second no_bracket x (codes " (critical)") (ap (list_all no_bracket) e ∙ h) in
    both_ways false refl f

marks_same : (x y : List ℕ) (b c : Bool) → list_all no_bracket x ≡ true → list_all no_bracket y ≡ true → x ++ critical_mark b ≡ y ++ critical_mark c → (x ≡ y) × (b ≡ c)
unfolding critical_mark
marks_same x y true true h k e = (append_cancel_right x y (codes " (critical)") e, refl)
marks_same x y true false h k e = absurd (unmarked x y k (e ∙ append-nil y))
marks_same x y false true h k e = absurd (unmarked y x h (sym e ∙ append-nil x))
marks_same x y false false h k e = (append_cancel_right x y [] e, refl)

pub keys_same : (e f : Extension) → extension_key e ≡ extension_key f → (extension_name_text e.extn_id ≡ extension_name_text f.extn_id) × (e.critical ≡ f.critical)
unfolding extension_key
keys_same e f h =
    marks_same (extension_name_text e.extn_id) (extension_name_text f.extn_id) e.critical f.critical (name_bracketless e.extn_id) (name_bracketless f.extn_id) h

-- ---- where a line begins

key_starts : (name z : List ℕ) (b : Bool) → starts_plainly name ≡ true → spaces 2 ((name ++ critical_mark b) ++ 58 ∷ z) ≡ true → ⊥
unfolding critical_mark
key_starts [] z true h e = both_ways false refl e
key_starts [] z false h e = both_ways false refl e
key_starts (c ∷ x) z b h e = both_ways (c == 32) (not-true (c == 32) h) (and_true (c == 32) (spaces 1 ((x ++ critical_mark b) ++ 58 ∷ z)) e).0

-- it is over, or has fewer than four spaces at its start
abbrev pub IsShallow : List ℕ → Type 0
IsShallow x = spaces 4 x ≡ true → ⊥

one_fewer : (n : ℕ) (x : List ℕ) → spaces (suc n) x ≡ true → spaces n x ≡ true
one_fewer zero x h = refl
one_fewer (suc n) [] h = absurd cc
one_fewer (suc n) (c ∷ x) h =
    let q = and_true (c == 32) (spaces (suc n) x) h in
    true_and (c == 32) (spaces n x) q.0 (one_fewer n x q.1)

fewer : (x : List ℕ) → spaces 6 x ≡ true → spaces 4 x ≡ true
fewer x h = one_fewer 4 x (one_fewer 5 x h)

regroup : (e : Extension) (es : List Extension) (r : List ℕ)
    → all_extensions (codes "    ") (e ∷ es) ++ r ≡ extension_line (codes "    ") e ++ (all_extensions (codes "    ") es ++ r)
unfolding all_extensions
regroup e es r = append_assoc (extension_line (codes "    ") e) (flat_map (extension_line (codes "    ")) es) r

first_is : (e : Extension) (rest : List ℕ)
    → extension_line (codes "    ") e ++ rest ≡ 32 ∷ 32 ∷ 32 ∷ 32 ∷ (extension_key e ++ 58 ∷ after_key (extension_key e) (contents_text (kind_of e.extn_id) e.extn_value) rest)
unfolding extension_line
first_is e rest = line_is (extension_key e) (contents_text (kind_of e.extn_id) e.extn_value) rest

line_starts : (e : Extension) (rest : List ℕ) → spaces 6 (extension_line (codes "    ") e ++ rest) ≡ true → ⊥
unfolding extension_key
line_starts e rest h =
    let f = sym (ap (spaces 6) (first_is e rest)) ∙ h in
    key_starts (extension_name_text e.extn_id) (after_key (extension_key e) (contents_text (kind_of e.extn_id) e.extn_value) rest) e.critical (name_starts e.extn_id) f

block_starts : (es : List Extension) (r : List ℕ) → IsShallow r → spaces 6 (all_extensions (codes "    ") es ++ r) ≡ true → ⊥
unfolding all_extensions
block_starts [] r h e = h (fewer r e)
block_starts (x ∷ es) r h e = line_starts x (all_extensions (codes "    ") es ++ r) (sym (ap (spaces 6) (regroup x es r)) ∙ e)

-- ---- one line and the next

pub record SameLine (e f : Extension) : Type 0 where
  pub key : extension_key e ≡ extension_key f
  pub text : contents_text (kind_of e.extn_id) e.extn_value ≡ contents_text (kind_of f.extn_id) f.extn_value

keyed_same : (k l t u r s : List ℕ) → list_all no_colon k ≡ true → list_all no_colon l ≡ true → k ++ 58 ∷ after_key k t r ≡ l ++ 58 ∷ after_key l u s
    → (k ≡ l) × (t ++ 10 ∷ r ≡ u ++ 10 ∷ s)
keyed_same k l t u r s h g e =
    let q = splits no_colon k l (58 ∷ after_key k t r) (58 ∷ after_key l u s) h g refl refl e in
    let a : after_key k t r ≡ after_key l u s = tail_is 58 58 (after_key k t r) (after_key l u s) q.1 in
    let b : up_to_column (codes "    ") l ++ 32 ∷ (t ++ 10 ∷ r) ≡ up_to_column (codes "    ") l ++ 32 ∷ (u ++ 10 ∷ s) =
    ap (λ (x : List ℕ). up_to_column (codes "    ") x ++ 32 ∷ (t ++ 10 ∷ r)) (sym q.0) ∙ a in
    (q.0, tail_is 32 32 (t ++ 10 ∷ r) (u ++ 10 ∷ s) (append_cancel_left (up_to_column (codes "    ") l) (32 ∷ (t ++ 10 ∷ r)) (32 ∷ (u ++ 10 ∷ s)) b))

next_same : (e f : Extension) (r s : List ℕ) → (spaces 6 r ≡ true → ⊥) → (spaces 6 s ≡ true → ⊥)
    → extension_line (codes "    ") e ++ r ≡ extension_line (codes "    ") f ++ s → SameLine e f × (r ≡ s)
next_same e f r s h g x =
    let t = contents_text (kind_of e.extn_id) e.extn_value in
    let u = contents_text (kind_of f.extn_id) f.extn_value in
    let y = sym (first_is e r) ∙ x ∙ first_is f s in
    let z = keyed_same (extension_key e) (extension_key f) t u r s (key_colonless e) (key_colonless f)
    (append_cancel_left (codes "    ") (extension_key e ++ 58 ∷ after_key (extension_key e) t r) (extension_key f ++ 58 ∷ after_key (extension_key f) u s) y) in
    let w = ends_there t u r s (contents_indented e.extn_id e.extn_value) (contents_indented f.extn_id f.extn_value) h g z.1 in
    (record { key = z.0; text = w.0 }, w.1)

four_first : (e : Extension) (rest : List ℕ) → spaces 4 (extension_line (codes "    ") e ++ rest) ≡ true
four_first e rest = ap (spaces 4) (first_is e rest)

lines_same : (es fs : List Extension) (r s : List ℕ) → IsShallow r → IsShallow s → all_extensions (codes "    ") es ++ r ≡ all_extensions (codes "    ") fs ++ s
    → AllZip SameLine es fs × (r ≡ s)
unfolding all_extensions
lines_same [] [] r s h k e = (tt, e)
lines_same [] (f ∷ fs) r s h k e = absurd (h (ap (spaces 4) (e ∙ regroup f fs s) ∙ four_first f (all_extensions (codes "    ") fs ++ s)))
lines_same (e ∷ es) [] r s h k x = absurd (k (ap (spaces 4) (sym x ∙ regroup e es r) ∙ four_first e (all_extensions (codes "    ") es ++ r)))
lines_same (e ∷ es) (f ∷ fs) r s h k x =
    let q = next_same e f (all_extensions (codes "    ") es ++ r) (all_extensions (codes "    ") fs ++ s) (block_starts es r h) (block_starts fs s k)
    (sym (regroup e es r) ∙ x ∙ regroup f fs s) in
    let more = lines_same es fs r s h k q.1 in
    ((q.0, more.0), more.1)

-- ---- the line of the algorithm within what is signed

inner_shallow : (a b : AlgorithmIdentifier) → IsShallow (inner_algorithm a b)
unfolding inner_algorithm line key_part up_to_column
inner_shallow a b =
    cond_both (same_algorithm a b) [] (line (codes "  ") (codes "signed algorithm") (full_algorithm_text a)) IsShallow
    (λ _. λ (e : spaces 4 [] ≡ true). both_ways false refl e)
    (λ _. λ (e : spaces 4 (line (codes "  ") (codes "signed algorithm") (full_algorithm_text a)) ≡ true). both_ways false refl e)

-- both have extensions, with the same lines, or neither has
abbrev pub SameLines : Option Extensions → Option Extensions → Type 0
SameLines None None = Unit {0}
SameLines (Some es) (Some fs) = AllZip SameLine es.0 fs.0
SameLines None (Some fs) = ⊥
SameLines (Some es) None = ⊥

abbrev third : List ℕ → ℕ
third x = slice_index x 2

title_third : (es : Extensions) (rest : List ℕ) → third (titled_extensions (Some es) ++ rest) ≡ 101
unfolding titled_extensions labelled
title_third es rest = refl

signed_third : (text : List ℕ) → third (line (codes "  ") (codes "signed algorithm") text) ≡ 115
unfolding line key_part up_to_column
signed_third text = refl

not_title : (n : ℕ) (x : List ℕ) → third x ≡ n → third x ≡ 101 → (n ≡ 101 → ⊥) → ⊥
not_title n x h k f = f (sym h ∙ k)

never_equal : third [] ≡ 101 → ⊥
never_equal e = let f : ◌≡◌ {A = ℕ} 0 101 = e in omega arith

-- the line begins otherwise than the title does
inner_third : (a b : AlgorithmIdentifier) → third (inner_algorithm a b) ≡ 101 → ⊥
unfolding inner_algorithm
inner_third a b =
    cond_both (same_algorithm a b) [] (line (codes "  ") (codes "signed algorithm") (full_algorithm_text a)) (λ (t : List ℕ). third t ≡ 101 → ⊥)
    (λ _. λ (e : third [] ≡ 101). never_equal e)
    (λ _. λ (e : third (line (codes "  ") (codes "signed algorithm") (full_algorithm_text a)) ≡ 101).
    not_title 115 (line (codes "  ") (codes "signed algorithm") (full_algorithm_text a)) (signed_third (full_algorithm_text a)) e (λ h. omega arith))

title_first : (es : Extensions) (a b : AlgorithmIdentifier) (rest : List ℕ) → titled_extensions (Some es) ++ rest ≡ inner_algorithm a b → ⊥
title_first es a b rest e = inner_third a b (sym (ap third e) ∙ title_third es rest)

pub inner_same : (o p : Option Extensions) (a b c d : AlgorithmIdentifier) → titled_extensions o ++ inner_algorithm a b ≡ titled_extensions p ++ inner_algorithm c d
    → SameLines o p × (inner_algorithm a b ≡ inner_algorithm c d)
unfolding titled_extensions labelled
inner_same None None a b c d e = (tt, e)
inner_same None (Some fs) a b c d e = absurd (title_first fs a b (inner_algorithm c d) (sym e))
inner_same (Some es) None a b c d e = absurd (title_first es c d (inner_algorithm a b) e)
inner_same (Some es) (Some fs) a b c d e =
    lines_same es.0 fs.0 (inner_algorithm a b) (inner_algorithm c d) (inner_shallow a b) (inner_shallow c d)
    (append_cancel_left (codes "  extensions:\n") (all_extensions (codes "    ") es.0 ++ inner_algorithm a b) (all_extensions (codes "    ") fs.0 ++ inner_algorithm c d) e)
