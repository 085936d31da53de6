-- Where the types of attributes occur in a name, as attributes are pushed.
use Rattle.std.specs.Prelude.{◌≡◌, ℕ, suc, ◌+◌, ◌≤◌, Bool, true, false, not, cond, nat_lt, eqb, List, [], ◌∷◌, ◌++◌, length, Option, Some, None, ◌||◌, refl}
use Rattle.std.specs.Option.{is_some}
use Rattle.std.specs.List.{position, position_or_len, list_any}
use Rattle.std.proofs.Common.{ap, arith, sym, ◌∙◌}
use Rattle.std.proofs.lemmas.Bool.Decides.{nat_tests}
use Rattle.std.proofs.lemmas.Bool.{le-ltb, lt-ltb, eqb-true, eqb-false}
use Rattle.std.proofs.lemmas.List.{map-append, length-append}
use Rattle.std.proofs.lemmas.List.Sums.{fold_push, prefix_len-le-length}
use Rattle.std.proofs.lemmas.List.Folds.{position_or_len_push}
use Rattle.rcgen_text.specs.contracts.dn_type.DnTypePartialEq.TheImpl.{ghosts as types}
use Rattle.rcgen_text.specs.declared.dn_type.DnType.{DnType}
use Rattle.rcgen_text.specs.declared.dn_value.DnValue.{DnValue}
use Rattle.rcgen_text.specs.DnTypes.{Kind, kind_of, same_type, same_type_equiv}
use Rattle.rcgen_text.specs.DnValues.{Text, text_of}
use Rattle.rcgen_text.specs.Names.{Entry, entry_of, entries_of, has_type, pushed, all_pushed, place_of_type}
use Rattle.rcgen_text.proofs.Equality.{types_same}
use Rattle.rcgen_text.proofs.NameLemmas.{Pairs, is_of, goes_last}

-- ---- pairs and their attributes

abbrev among : ℕ → ℕ → Option ℕ
among p len = cond (nat_lt p len) (Some p) None

same_place : (es : Pairs) (k : Kind) → position_or_len (is_of k) es ≡ position_or_len (has_type k) (entries_of es)
same_place [] k = refl
same_place (e ∷ es) k = ap (λ p. cond (not (is_of k e)) (1 + p) 0) (same_place es k)

same_length : (es : Pairs) → length es ≡ length (entries_of es)
same_length [] = refl
same_length (e ∷ es) = ap suc (same_length es)

pub length_seen : (es : Pairs) (n : List Entry) → entries_of es ≡ n → length es ≡ length n
length_seen es n v = same_length es ∙ ap (λ (x : List Entry). length x) v

-- the place among the pairs is that among the attributes
pub placed : (es : Pairs) (k : Kind) → position (is_of k) es ≡ place_of_type k (entries_of es)
placed es k = rw (same_place es k, same_length es) refl

pub stands_at : (es : Pairs) (n : List Entry) (k : Kind) (p o : Option ℕ) → entries_of es ≡ n → p ≡ place_of_type k n → p ≡ o → position (is_of k) es ≡ o
stands_at es n k p o v h e = placed es k ∙ ap (place_of_type k) v ∙ sym h ∙ e

-- one attribute more
pub all_pushed_more : (es : Pairs) (t : DnType) (v : DnValue) (n m : List Entry) → n ≡ all_pushed (entries_of es) → m ≡ pushed n (kind_of t) (text_of v)
    → m ≡ all_pushed (entries_of (es ++ (t, v) ∷ []))
all_pushed_more es t v n m h k = k ∙ ap (λ (x : List Entry). pushed x (kind_of t) (text_of v)) h
    ∙ sym (ap all_pushed (map-append entry_of es ((t, v) ∷ []))
    ∙ fold_push (λ (x : List Entry) e. pushed x e.dn_type e.text) [] (entries_of es) (entry_of (t, v)))

-- ---- a type is there where it has a place

there_within : (es : List Entry) (k : Kind) → list_any (has_type k) es ≡ true → nat_lt (position_or_len (has_type k) es) (length es) ≡ true
there_within [] k h = absurd cc
there_within (e ∷ es) k h =
    elim (has_type k e) as (λ b. (b || list_any (has_type k) es) ≡ true
    → nat_lt (cond (not b) (1 + position_or_len (has_type k) es) 0) (suc (length es)) ≡ true) [
      | true ↦ λ m. grind (arith, nat_tests)
      | false ↦ λ m. let i = there_within es k m in grind (arith, nat_tests)
    ] h

same_after : (k q t : Kind) → same_type k q ≡ true → same_type t q ≡ same_type t k
same_after k q t h = same_type_equiv.symm t q ∙ sym (same_type_equiv.congr k q t h) ∙ same_type_equiv.symm k t

-- a type that isn't there has no place, and no type that is the same
not_within : (es : List Entry) (k q : Kind) → same_type k q ≡ true → list_any (has_type k) es ≡ false → position_or_len (has_type q) es ≡ length es
not_within [] k q s h = refl
not_within (e ∷ es) k q s h =
    rw (same_after k q e.dn_type s) (elim (has_type k e) as (λ b. (b || list_any (has_type k) es) ≡ false
    → cond (not b) (1 + position_or_len (has_type q) es) 0 ≡ suc (length es)) [
      | true ↦ λ m. absurd cc
      | false ↦ λ m. let i = not_within es k q s m in omega arith
    ] h)

there_or_not : (es : List Entry) (k : Kind) (b : Bool) → list_any (has_type k) es ≡ b
    → place_of_type k es ≡ cond b (Some (position_or_len (has_type k) es)) None
there_or_not es k true h = ap (λ (b : Bool). cond b (Some (position_or_len (has_type k) es)) None) (there_within es k h)
there_or_not es k false h =
    rw (not_within es k k (same_type_equiv.refl k) h)
    (ap (λ (b : Bool). cond b (Some (length es)) None) (le-ltb (length es) (length es) (omega arith)))

not_placed : (es : List Entry) (k : Kind) (b : Bool) → list_any (has_type k) es ≡ b → place_of_type k es ≡ None → list_any (has_type k) es ≡ false
not_placed es k true e h = let i : Some (position_or_len (has_type k) es) ≡ None = sym (there_or_not es k true e) ∙ h in absurd cc
not_placed es k false e h = e

has_place : (es : List Entry) (k : Kind) (i : ℕ) (b : Bool) → list_any (has_type k) es ≡ b → place_of_type k es ≡ Some i → list_any (has_type k) es ≡ true
has_place es k i true e h = e
has_place es k i false e h = let s : None ≡ Some i = sym (there_or_not es k false e) ∙ h in absurd cc

-- ---- places after a push

kept_lens : (es : List Entry) (k q : Kind) (x : Text) → list_any (has_type k) es ≡ true
    → (position_or_len (has_type q) (pushed es k x) ≡ position_or_len (has_type q) es) × (length (pushed es k x) ≡ length es)
kept_lens [] k q x h = absurd cc
kept_lens (e ∷ es) k q x h =
    elim (has_type k e) as (λ b. (b || list_any (has_type k) es) ≡ true
    → (position_or_len (has_type q) (cond b (record { dn_type = e.dn_type; text = x } ∷ es) (e ∷ pushed es k x)) ≡ position_or_len (has_type q) (e ∷ es))
    × (length (cond b (record { dn_type = e.dn_type; text = x } ∷ es) (e ∷ pushed es k x)) ≡ suc (length es))) [
      | true ↦ λ m. (refl, refl)
      | false ↦ λ m. let i = kept_lens es k q x m in (ap (λ n. cond (not (has_type q e)) (1 + n) 0) i.0, ap suc i.1)
    ] h

not_last : (p len : ℕ) (b : Bool) → eqb p len ≡ b → p ≤ len → among (cond b (len + 1) p) (len + 1) ≡ among p len
not_last p len true e l = let s = eqb-true p len e in rw (le-ltb (len + 1) (len + 1) (omega arith), le-ltb p len (omega arith)) refl
not_last p len false e l =
    let s = eqb-false p len e in
    rw (lt-ltb p (len + 1) (omega arith), lt-ltb p len (omega arith)) refl

at_end : (p len : ℕ) (b : Bool) → p ≤ len → (b ≡ true → p ≡ len)
    → among (cond (eqb p len) (len + cond b 0 1) p) (len + 1) ≡ cond b (Some len) (among p len)
at_end p len true l h = let e = h refl in grind (arith, nat_tests)
at_end p len false l h = not_last p len (eqb p len) refl l

-- a type that was there keeps its place, and so do the others
pub place_kept : (es : List Entry) (k q : Kind) (x : Text) (i : ℕ) → place_of_type k es ≡ Some i → place_of_type q (pushed es k x) ≡ place_of_type q es
place_kept es k q x i h = let l = kept_lens es k q x (has_place es k i (list_any (has_type k) es) refl h) in rw (l.0, l.1) refl

-- a type that wasn't there goes last, and the others keep their places
pub place_new : (es : List Entry) (k q : Kind) (x : Text) → place_of_type k es ≡ None
    → place_of_type q (pushed es k x) ≡ cond (same_type k q) (Some (length es)) (place_of_type q es)
place_new es k q x h =
    let gone = not_placed es k (list_any (has_type k) es) refl h in
    let last : Entry = record { dn_type = k; text = x } in
    rw (← goes_last es k x gone, position_or_len_push (has_type q) es last, length-append es (last ∷ []))
    (at_end (position_or_len (has_type q) es) (length es) (same_type k q) (prefix_len-le-length (λ e. not (has_type q e)) es) (λ s. not_within es k q s gone))

-- ---- the places that are noted beside a name

none_is : (p : Option ℕ) → is_some p ≡ false → p ≡ None
none_is None h = refl
none_is (Some i) h = absurd cc

-- a type that has no place is noted at the end: b is whether q is equal to it, and m what was noted of q
pub noted : (es : List Entry) (t key q : DnType) (x : Text) (p m : Option ℕ) (b : Bool) (len : ℕ) → p ≡ place_of_type (kind_of t) es → is_some p ≡ false
    → kind_of key ≡ kind_of t → b ≡ types.eq key q → len ≡ length es → m ≡ place_of_type (kind_of q) es
    → cond b (Some len) m ≡ place_of_type (kind_of q) (pushed es (kind_of t) x)
noted es t key q x p m b len h o s e l n =
    rw (e, types_same key q, s, l, n) (sym (place_new es (kind_of t) (kind_of q) x (sym h ∙ none_is p o)))

-- where a type has a place, what was noted stays
pub still_noted : (es : List Entry) (t q : DnType) (x : Text) (p m : Option ℕ) → p ≡ place_of_type (kind_of t) es → is_some p ≡ true
    → m ≡ place_of_type (kind_of q) es → m ≡ place_of_type (kind_of q) (pushed es (kind_of t) x)
still_noted es t q x None m h o n = absurd cc
still_noted es t q x (Some i) m h o n = n ∙ sym (place_kept es (kind_of t) (kind_of q) x i (sym h))
