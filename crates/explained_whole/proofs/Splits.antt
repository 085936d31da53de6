-- Lines from the front of a text, and from its end.
use Rattle.std.proofs.Common.{◌≡◌, ℕ, ◌<◌, ◌==◌, ◌⊎◌, inl, inr, Bool, true, List, [], ◌∷◌, ◌++◌, codes, slice_index, Option, Some, None, refl, ap, sym, ◌∙◌}
use Rattle.std.specs.List.{flat_map, list_all}
use Rattle.std.specs.Option.{IfSome}
use Rattle.std.proofs.lemmas.Bool.{both_ways, cond_both, not-true}
use Rattle.std.proofs.lemmas.List.{append_assoc, append_cancel_left, append_cancel_right}
use Rattle.asn1_core.specs.Binds.{and_true}
use Rattle.asn1_core.specs.Bits.{Bits}
use Rattle.hex.specs.Hex.{IsBytes}
use Rattle.pkix_cert.specs.declared.algorithm.AlgorithmIdentifier.{AlgorithmIdentifier}
use Rattle.pkix_cert.specs.declared.extension.Extension.{Extension}
use Rattle.pkix_cert.specs.declared.extension.Extensions.{Extensions}
use Rattle.shelf_explain.specs.BitNames.{bits_text}
use Rattle.shelf_explain.specs.Blocks.{inner_algorithm, line_of, titled_extensions}
use Rattle.shelf_explain.specs.ExtensionTexts.{all_extensions, contents_text, extension_key, extension_line, kind_of}
use Rattle.shelf_explain.specs.Keys.{full_algorithm_text, same_algorithm}
use Rattle.shelf_explain.specs.Lines.{key_part, labelled, line, up_to_column}
use Rattle.explained_whole.proofs.Breaks.{bits_unbroken, no_break, unbroken}
use Rattle.explained_whole.proofs.Leaves.{bits_same}
use Rattle.explained_whole.proofs.Texts.{cons_is, head_is, splits, tail_is}

-- ---- the first line

abbrev pub row : List ℕ → List ℕ → List ℕ
row key text = line (codes "  ") key text

row_is : (key text rest : List ℕ) → row key text ++ rest ≡ key_part (codes "  ") key ++ (text ++ 10 ∷ rest)
unfolding line
row_is key text rest =
    append_assoc (key_part (codes "  ") key ++ text) (10 ∷ []) rest ∙ append_assoc (key_part (codes "  ") key) text (10 ∷ rest)

pub first_line : (key x y r s : List ℕ) → unbroken x → unbroken y → row key x ++ r ≡ row key y ++ s → (x ≡ y) × (r ≡ s)
first_line key x y r s h k e =
    let f : x ++ 10 ∷ r ≡ y ++ 10 ∷ s =
    append_cancel_left (key_part (codes "  ") key) (x ++ 10 ∷ r) (y ++ 10 ∷ s) (sym (row_is key x r) ∙ e ∙ row_is key y s) in
    let q = splits no_break x y (10 ∷ r) (10 ∷ s) h k refl refl f in
    (q.0, tail_is 10 10 r s q.1)

-- ---- a line that may be left out

abbrev pub fourth : List ℕ → ℕ
fourth text = slice_index text 3

abbrev pub FewUnused : Option Bits → Type 0
FewUnused bits = IfSome bits (λ (b : Bits). IsBytes b.bytes × (b.unused < 8))

module _ (key : List ℕ) (n : ℕ) (known : (text rest : List ℕ) → fourth (row key text ++ rest) ≡ n) where
  pub optional_line : (u v : Option Bits) (r s : List ℕ) → FewUnused u → FewUnused v → (fourth r ≡ n → ⊥) → (fourth s ≡ n → ⊥)
      → line_of key bits_text u ++ r ≡ line_of key bits_text v ++ s → (u ≡ v) × (r ≡ s)
  unfolding line_of
  optional_line None None r s h k f g e = (refl, e)
  optional_line None (Some y) r s h k f g e = absurd (f (ap fourth e ∙ known (bits_text y) s))
  optional_line (Some x) None r s h k f g e = absurd (g (ap fourth (sym e) ∙ known (bits_text x) r))
  optional_line (Some x) (Some y) r s h k f g e =
      let q = first_line key (bits_text x) (bits_text y) r s (bits_unbroken x) (bits_unbroken y) e in
      (ap (λ (b : Bits). Some b) (bits_same x y h.0 k.0 h.1 k.1 q.0), q.1)

pub issuer_fourth : (text rest : List ℕ) → fourth (row (codes "issuer unique id") text ++ rest) ≡ 115
unfolding line key_part up_to_column
issuer_fourth text rest = refl

pub subject_fourth : (text rest : List ℕ) → fourth (row (codes "subject unique id") text ++ rest) ≡ 117
unfolding line key_part up_to_column
subject_fourth text rest = refl

signature_fourth : (text rest : List ℕ) → fourth (row (codes "signature algorithm") text ++ rest) ≡ 105
unfolding line key_part up_to_column
signature_fourth text rest = refl

signed_fourth : (text rest : List ℕ) → fourth (row (codes "signed algorithm") text ++ rest) ≡ 105
unfolding line key_part up_to_column
signed_fourth text rest = refl

-- what follows the lines of the fields that a certificate has once
abbrev pub signed_end : AlgorithmIdentifier → AlgorithmIdentifier → List ℕ → List ℕ → List ℕ
signed_end inner outer algorithm signature =
    inner_algorithm inner outer ++ (row (codes "signature algorithm") algorithm ++ row (codes "signature") signature)

inner_fourth : (inner outer : AlgorithmIdentifier) (algorithm signature : List ℕ) → fourth (signed_end inner outer algorithm signature) ≡ 105
unfolding inner_algorithm
inner_fourth inner outer algorithm signature =
    cond_both (same_algorithm inner outer) [] (line (codes "  ") (codes "signed algorithm") (full_algorithm_text inner))
    (λ (t : List ℕ). fourth (t ++ (row (codes "signature algorithm") algorithm ++ row (codes "signature") signature)) ≡ 105)
    (λ _. signature_fourth algorithm (row (codes "signature") signature))
    (λ _. signed_fourth (full_algorithm_text inner) (row (codes "signature algorithm") algorithm ++ row (codes "signature") signature))

pub end_fourth : (o : Option Extensions) (inner outer : AlgorithmIdentifier) (algorithm signature : List ℕ)
    → (fourth (titled_extensions o ++ signed_end inner outer algorithm signature) ≡ 120) ⊎ (fourth (titled_extensions o ++ signed_end inner outer algorithm signature) ≡ 105)
unfolding titled_extensions labelled
end_fourth None inner outer algorithm signature = inr (inner_fourth inner outer algorithm signature)
end_fourth (Some es) inner outer algorithm signature = inl refl

-- ---- the last line

-- a text of whole lines
abbrev pub are_lines : List ℕ → Bool
are_lines [] = true
are_lines (c ∷ []) = c == 10
are_lines (c ∷ d ∷ x) = are_lines (d ∷ x)

lines_after : (c : ℕ) (x : List ℕ) → are_lines (c ∷ x) ≡ true → are_lines x ≡ true
lines_after c [] h = refl
lines_after c (d ∷ x) h = h

pub one_line : (x : List ℕ) → are_lines (x ++ 10 ∷ []) ≡ true
one_line [] = refl
one_line (c ∷ []) = refl
one_line (c ∷ d ∷ x) = one_line (d ∷ x)

pub more_lines : (x y : List ℕ) → are_lines x ≡ true → are_lines y ≡ true → are_lines (x ++ y) ≡ true
more_lines [] y h k = k
more_lines (c ∷ []) [] h k = h
more_lines (c ∷ []) (d ∷ y) h k = k
more_lines (c ∷ d ∷ x) y h k = more_lines (d ∷ x) y h k

-- lines have a break
broken : (c : ℕ) (x y : List ℕ) → are_lines (c ∷ x) ≡ true → unbroken ((c ∷ x) ++ y) → ⊥
broken c [] y h k = both_ways (c == 10) (not-true (c == 10) (and_true (no_break c) (list_all no_break y) k).0) h
broken c (d ∷ x) y h k = broken d x y h (and_true (no_break c) (list_all no_break ((d ∷ x) ++ y)) k).1

last_line : (x y p q : List ℕ) → are_lines x ≡ true → are_lines y ≡ true → unbroken p → unbroken q → x ++ p ≡ y ++ q → (x ≡ y) × (p ≡ q)
last_line [] [] p q h k m n e = (refl, e)
last_line [] (d ∷ y) p q h k m n e = absurd (broken d y q k (ap (list_all no_break) (sym e) ∙ m))
last_line (c ∷ x) [] p q h k m n e = absurd (broken c x p h (ap (list_all no_break) e ∙ n))
last_line (c ∷ x) (d ∷ y) p q h k m n e =
    let rest = last_line x y p q (lines_after c x h) (lines_after d y k) m n (tail_is c d (x ++ p) (y ++ q) e) in
    (cons_is c d x y (head_is c d (x ++ p) (y ++ q) e) rest.0, rest.1)

regrouped : (x p q : List ℕ) → x ++ ((p ++ 10 ∷ []) ++ (q ++ 10 ∷ [])) ≡ ((x ++ (p ++ 10 ∷ [])) ++ q) ++ 10 ∷ []
regrouped x p q =
    sym (append_assoc x (p ++ 10 ∷ []) (q ++ 10 ∷ [])) ∙ sym (append_assoc (x ++ (p ++ 10 ∷ [])) q (10 ∷ []))

-- the lines before the last two, and these
pub last_two : (x y p q u v : List ℕ) → are_lines x ≡ true → are_lines y ≡ true → unbroken p → unbroken q → unbroken u → unbroken v
    → x ++ ((p ++ 10 ∷ []) ++ (q ++ 10 ∷ [])) ≡ y ++ ((u ++ 10 ∷ []) ++ (v ++ 10 ∷ [])) → (x ≡ y) × (p ≡ u) × (q ≡ v)
last_two x y p q u v h k m n s t e =
    let f = append_cancel_right ((x ++ (p ++ 10 ∷ [])) ++ q) ((y ++ (u ++ 10 ∷ [])) ++ v) (10 ∷ []) (sym (regrouped x p q) ∙ e ∙ regrouped y u v) in
    let g = last_line (x ++ (p ++ 10 ∷ [])) (y ++ (u ++ 10 ∷ [])) q v (more_lines x (p ++ 10 ∷ []) h (one_line p)) (more_lines y (u ++ 10 ∷ []) k (one_line u)) n t f in
    let o = append_cancel_right (x ++ p) (y ++ u) (10 ∷ []) (append_assoc x p (10 ∷ []) ∙ g.0 ∙ sym (append_assoc y u (10 ∷ []))) in
    let r = last_line x y p u h k m s o in
    (r.0, r.1, g.1)

-- ---- the lines of the extensions, and of the algorithm within what is signed

pub line_ends : (indent key text : List ℕ) → are_lines (line indent key text) ≡ true
unfolding line
line_ends indent key text = one_line (key_part indent key ++ text)

extensions_end : (es : List Extension) → are_lines (all_extensions (codes "    ") es) ≡ true
unfolding all_extensions extension_line
extensions_end [] = refl
extensions_end (e ∷ es) =
    more_lines (extension_line (codes "    ") e) (flat_map (extension_line (codes "    ")) es)
    (line_ends (codes "    ") (extension_key e) (contents_text (kind_of e.extn_id) e.extn_value)) (extensions_end es)

titled_end : (o : Option Extensions) → are_lines (titled_extensions o) ≡ true
unfolding titled_extensions labelled
titled_end None = refl
titled_end (Some es) = more_lines (codes "  extensions:\n") (all_extensions (codes "    ") es.0) refl (extensions_end es.0)

inner_end : (inner outer : AlgorithmIdentifier) → are_lines (inner_algorithm inner outer) ≡ true
unfolding inner_algorithm
inner_end inner outer =
    cond_both (same_algorithm inner outer) [] (line (codes "  ") (codes "signed algorithm") (full_algorithm_text inner)) (λ (t : List ℕ). are_lines t ≡ true)
    (λ _. refl) (λ _. line_ends (codes "  ") (codes "signed algorithm") (full_algorithm_text inner))

pub inner_lines_end : (o : Option Extensions) (inner outer : AlgorithmIdentifier) → are_lines (titled_extensions o ++ inner_algorithm inner outer) ≡ true
inner_lines_end o inner outer = more_lines (titled_extensions o) (inner_algorithm inner outer) (titled_end o) (inner_end inner outer)
