-- Texts are the same when they are prepared exactly where their significant characters are.
use Rattle.std.specs.Prelude.{◌≡◌, Bool, List, cond, false, filter, flat_map, not, true, ℕ, ◌&&◌, [], ◌++◌, ◌==◌, ◌∷◌, refl}
use Rattle.std.specs.Cmp.{nat_eq_equiv}
use Rattle.std.specs.List.{list_all, onto_first, slice_split}
use Rattle.std.specs.Str.{bytes_eq}
use Rattle.std.proofs.Common.{ap, append_assoc, ◌∙◌}
use Rattle.std.proofs.lemmas.Bool.{and_parts}
use Rattle.der_tree.specs.Grammar.{beq}
use Rattle.path_names.specs.Preparation.{is_space, is_word, mapped, prepared, spaced, words}
use Rattle.path_names.specs.Significant.{are_same, significant_from}
use Rattle.path_names.specs.declared.significant.Significant.{Significant}

-- ---- words

abbrev first_part : List (List ℕ) → List ℕ
first_part [] = []
first_part (w ∷ ws) = w

abbrev other_parts : List (List ℕ) → List (List ℕ)
other_parts [] = []
other_parts (w ∷ ws) = ws

-- words after others, and the space at the end
abbrev behind : List (List ℕ) → List ℕ
behind ws = flat_map (λ w. 32 ∷ 32 ∷ w) ws ++ 32 ∷ []

-- the text that they represent, with two spaces before each that begins a word
abbrev written : List Significant → List ℕ
written [] = 32 ∷ []
written (s ∷ ss) = cond s.begins_word (32 ∷ 32 ∷ s.code ∷ written ss) (s.code ∷ written ss)

words_on : (c : ℕ) (ps : List (List ℕ)) → filter is_word (onto_first c ps) ≡ (c ∷ first_part ps) ∷ filter is_word (other_parts ps)
words_on c [] = refl
words_on c (p ∷ ps) = refl

first_on : (c : ℕ) (ps : List (List ℕ)) → first_part (onto_first c ps) ≡ c ∷ first_part ps
first_on c [] = refl
first_on c (p ∷ ps) = refl

others_on : (c : ℕ) (ps : List (List ℕ)) → other_parts (onto_first c ps) ≡ other_parts ps
others_on c [] = refl
others_on c (p ∷ ps) = refl

-- within a word: what is left of it, and the words after it
abbrev within : List (List ℕ) → List ℕ
within ps = first_part ps ++ behind (filter is_word (other_parts ps))

one_more : (c : ℕ) (ps : List (List ℕ)) → behind (filter is_word (onto_first c ps)) ≡ 32 ∷ 32 ∷ c ∷ within ps
one_more c ps =
    ap behind (words_on c ps)
    ∙ ap (λ (l : List ℕ). 32 ∷ 32 ∷ c ∷ l)
    (append_assoc (first_part ps) (flat_map (λ w. 32 ∷ 32 ∷ w) (filter is_word (other_parts ps))) (32 ∷ []))

goes_on : (c : ℕ) (ps : List (List ℕ)) → within (onto_first c ps) ≡ c ∷ within ps
goes_on c ps = rw (first_on c ps, others_on c ps) refl

record Written (cs : List ℕ) : Type 0 where
  first : behind (words cs) ≡ written (significant_from true cs)
  later : within (slice_split is_space cs) ≡ written (significant_from false cs)

written_by : (c : ℕ) (cs : List ℕ) (t : Bool) → (c == 32) ≡ t → Written cs → Written (c ∷ cs)
written_by c cs true e h = record { first = rw e h.first; later = rw e h.first }
written_by c cs false e h = record {
  first = rw e (one_more c (slice_split is_space cs) ∙ ap (λ (l : List ℕ). 32 ∷ 32 ∷ c ∷ l) h.later);
  later = rw e (goes_on c (slice_split is_space cs) ∙ ap (λ (l : List ℕ). c ∷ l) h.later);
}

all_written : (cs : List ℕ) → Written cs
all_written [] = record { first = refl; later = refl }
all_written (c ∷ cs) = written_by c cs (c == 32) refl (all_written cs)

-- ---- what is written determines the characters

abbrev is_no_space : Significant → Bool
is_no_space s = not (s.code == 32)

no_space : (b : Bool) → not b ≡ true → b ≡ false
no_space true e = absurd cc
no_space false e = refl

turned : (c : ℕ) → (c == 32) ≡ false → (32 == c) ≡ false
turned c e = nat_eq_equiv.symm 32 c ∙ e

-- one character each, and what comes after them
one_each : (p q : Bool) (a b : ℕ) (x y : List ℕ) (t : Bool) → (a == 32) ≡ false → (b == 32) ≡ false → bytes_eq x y ≡ t
    → bytes_eq (cond p (32 ∷ 32 ∷ a ∷ x) (a ∷ x)) (cond q (32 ∷ 32 ∷ b ∷ y) (b ∷ y)) ≡ ((beq p q && (a == b)) && t)
one_each true true a b x y t e f h = ap (λ u. (a == b) && u) h
one_each true false a b x y t e f h = rw (turned b f) refl
one_each false true a b x y t e f h = rw e refl
one_each false false a b x y t e f h = ap (λ u. (a == b) && u) h

at_end : (q : Bool) (b : ℕ) (y : List ℕ) → (b == 32) ≡ false → bytes_eq (32 ∷ []) (cond q (32 ∷ 32 ∷ b ∷ y) (b ∷ y)) ≡ false
at_end true b y f = refl
at_end false b y f = rw (turned b f) refl

before_end : (p : Bool) (a : ℕ) (x : List ℕ) → (a == 32) ≡ false → bytes_eq (cond p (32 ∷ 32 ∷ a ∷ x) (a ∷ x)) (32 ∷ []) ≡ false
before_end true a x e = refl
before_end false a x e = rw e refl

written_alike : (ss ts : List Significant) → list_all is_no_space ss ≡ true → list_all is_no_space ts ≡ true
    → bytes_eq (written ss) (written ts) ≡ are_same ss ts
written_alike [] [] e f = refl
written_alike [] (t ∷ ts) e f =
    at_end t.begins_word t.code (written ts) (no_space (t.code == 32) (and_parts (is_no_space t) (list_all is_no_space ts) f).0)
written_alike (s ∷ ss) [] e f =
    before_end s.begins_word s.code (written ss) (no_space (s.code == 32) (and_parts (is_no_space s) (list_all is_no_space ss) e).0)
written_alike (s ∷ ss) (t ∷ ts) e f =
    let here = and_parts (is_no_space s) (list_all is_no_space ss) e in
    let there = and_parts (is_no_space t) (list_all is_no_space ts) f in
    one_each s.begins_word t.begins_word s.code t.code (written ss) (written ts) (are_same ss ts) (no_space (s.code == 32) here.0)
    (no_space (t.code == 32) there.0) (written_alike ss ts here.1 there.1)

-- ---- the whole text

-- with one space at the beginning in place of two, and two where there is no word
abbrev opened : List ℕ → List ℕ
opened [] = []
opened (a ∷ []) = 32 ∷ 32 ∷ []
opened (a ∷ b ∷ cs) = b ∷ cs

spaced_is : (ws : List (List ℕ)) → spaced ws ≡ opened (behind ws)
spaced_is [] = refl
spaced_is (w ∷ ws) = refl

abbrev begins : List Significant → Bool
begins [] = true
begins (s ∷ ss) = s.begins_word

opened_one : (p q : Bool) (a b : ℕ) (x y : List ℕ) → p ≡ true → q ≡ true
    → bytes_eq (opened (cond p (32 ∷ 32 ∷ a ∷ x) (a ∷ x))) (opened (cond q (32 ∷ 32 ∷ b ∷ y) (b ∷ y)))
    ≡ bytes_eq (cond p (32 ∷ 32 ∷ a ∷ x) (a ∷ x)) (cond q (32 ∷ 32 ∷ b ∷ y) (b ∷ y))
opened_one true true a b x y e f = refl
opened_one true false a b x y e f = absurd cc
opened_one false q a b x y e f = absurd cc

opened_none : (q : Bool) (b : ℕ) (y : List ℕ) → q ≡ true → (b == 32) ≡ false
    → bytes_eq (32 ∷ 32 ∷ []) (opened (cond q (32 ∷ 32 ∷ b ∷ y) (b ∷ y))) ≡ false
opened_none true b y e f = rw (turned b f) refl
opened_none false b y e f = absurd cc

opened_all : (p : Bool) (a : ℕ) (x : List ℕ) → p ≡ true → (a == 32) ≡ false
    → bytes_eq (opened (cond p (32 ∷ 32 ∷ a ∷ x) (a ∷ x))) (32 ∷ 32 ∷ []) ≡ false
opened_all true a x e f = rw f refl
opened_all false a x e f = absurd cc

opened_alike : (ss ts : List Significant) → list_all is_no_space ss ≡ true → list_all is_no_space ts ≡ true → begins ss ≡ true → begins ts ≡ true
    → bytes_eq (opened (written ss)) (opened (written ts)) ≡ are_same ss ts
opened_alike [] [] e f g h = refl
opened_alike [] (t ∷ ts) e f g h =
    opened_none t.begins_word t.code (written ts) h (no_space (t.code == 32) (and_parts (is_no_space t) (list_all is_no_space ts) f).0)
opened_alike (s ∷ ss) [] e f g h =
    opened_all s.begins_word s.code (written ss) g (no_space (s.code == 32) (and_parts (is_no_space s) (list_all is_no_space ss) e).0)
opened_alike (s ∷ ss) (t ∷ ts) e f g h =
    opened_one s.begins_word t.begins_word s.code t.code (written ss) (written ts) g h ∙ written_alike (s ∷ ss) (t ∷ ts) e f

begins_by : (c : ℕ) (cs : List ℕ) (t : Bool) → (c == 32) ≡ t → begins (significant_from true cs) ≡ true → begins (significant_from true (c ∷ cs)) ≡ true
begins_by c cs true e h = rw e h
begins_by c cs false e h = rw e refl

counted_begins : (cs : List ℕ) → begins (significant_from true cs) ≡ true
counted_begins [] = refl
counted_begins (c ∷ cs) = begins_by c cs (c == 32) refl (counted_begins cs)

spaces_by : (b : Bool) (c : ℕ) (cs : List ℕ) (t : Bool) → (c == 32) ≡ t → ((d : Bool) → list_all is_no_space (significant_from d cs) ≡ true)
    → list_all is_no_space (significant_from b (c ∷ cs)) ≡ true
spaces_by b c cs true e h = rw e (h true)
spaces_by b c cs false e h = rw (e, e) (h false)

counted_no_space : (b : Bool) (cs : List ℕ) → list_all is_no_space (significant_from b cs) ≡ true
counted_no_space b [] = refl
counted_no_space b (c ∷ cs) = spaces_by b c cs (c == 32) refl (λ d. counted_no_space d cs)

spaced_alike : (cs ds : List ℕ) → bytes_eq (spaced (words cs)) (spaced (words ds)) ≡ are_same (significant_from true cs) (significant_from true ds)
spaced_alike cs ds =
    rw (spaced_is (words cs), spaced_is (words ds), (all_written cs).first, (all_written ds).first)
    (opened_alike (significant_from true cs) (significant_from true ds) (counted_no_space true cs) (counted_no_space true ds) (counted_begins cs)
    (counted_begins ds))

pub prepared_alike : (cs ds : List ℕ) → bytes_eq (prepared cs) (prepared ds) ≡ are_same (significant_from true (mapped cs)) (significant_from true (mapped ds))
prepared_alike cs ds = spaced_alike (mapped cs) (mapped ds)
