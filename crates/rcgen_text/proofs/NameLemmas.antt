-- How a name grows and shrinks, and when names are equal.
use Rattle.std.specs.Prelude.{◌≡◌, ℕ, zero, suc, ◌+◌, ◌≤◌, ◌<◌, Bool, true, false, not, cond, nat_lt, List, [], ◌∷◌, ◌++◌, length, ◌&&◌, ◌||◌}
use Rattle.std.specs.Prelude.{Some, None, option_map, find, refl}
use Rattle.std.specs.Cmp.Lexicographic.{pointwise}
use Rattle.std.specs.List.{position, position_or_len, slice_set, remove, list_any}
use Rattle.std.proofs.Common.{ap, arith, sym, subst, get_or, ◌∙◌}
use Rattle.std.proofs.lemmas.List.{map-append}
use Rattle.asn1_core.specs.Binds.{some_is}
use Rattle.std.proofs.lemmas.Bool.{ltb-false, ltb-true}
use Rattle.rcgen_text.specs.contracts.dn_type.DnTypePartialEq.TheImpl.{ghosts as types}
use Rattle.rcgen_text.specs.contracts.dn_value.DnValuePartialEq.TheImpl.{ghosts as values}
use Rattle.rcgen_text.specs.declared.dn_type.DnType.{DnType}
use Rattle.rcgen_text.specs.declared.dn_value.DnValue.{DnValue}
use Rattle.rcgen_text.specs.DnTypes.{Kind, kind_of, same_type}
use Rattle.rcgen_text.specs.DnValues.{Text, text_of}
use Rattle.rcgen_text.specs.Names.{Entry, entry_of, entries_of, has_type, same_entries, pushed, removed, text_of_type}
use Rattle.rcgen_text.proofs.Equality.{types_same, values_same}

abbrev pub Pairs : Type 0
Pairs = List (DnType × DnValue)

abbrev pub is_of : Kind → DnType × DnValue → Bool
is_of k e = same_type (kind_of e.0) k

-- ---- a type that isn't there

none_passes : (n len : ℕ) (b : Bool) → nat_lt n len ≡ b → cond b (Some n) None ≡ None → len ≤ n
none_passes n len true e h = absurd cc
none_passes n len false e h = ltb-false n len e

none_within : (es : Pairs) (k : Kind) → length es ≤ position_or_len (is_of k) es → list_any (has_type k) (entries_of es) ≡ false
none_within [] k l = refl
none_within (x ∷ es) k l =
    elim (same_type (kind_of x.0) k) as (λ b. suc (length es) ≤ cond (not b) (1 + position_or_len (is_of k) es) 0
    → (b || list_any (has_type k) (entries_of es)) ≡ false) [
      | true ↦ λ m. absurd (omega arith)
      | false ↦ λ m. none_within es k (omega arith)
    ] l

pub not_there : (es : Pairs) (k : Kind) → position (is_of k) es ≡ None → list_any (has_type k) (entries_of es) ≡ false
not_there es k h = none_within es k (none_passes (position_or_len (is_of k) es) (length es) (nat_lt (position_or_len (is_of k) es) (length es)) refl h)

pub goes_last : (es : List Entry) (k : Kind) (x : Text) → list_any (has_type k) es ≡ false → es ++ record { dn_type = k; text = x } ∷ [] ≡ pushed es k x
goes_last [] k x h = refl
goes_last (e ∷ es) k x h =
    elim (has_type k e) as (λ b. (b || list_any (has_type k) es) ≡ false
    → e ∷ es ++ record { dn_type = k; text = x } ∷ [] ≡ cond b (record { dn_type = e.dn_type; text = x } ∷ es) (e ∷ pushed es k x)) [
      | true ↦ λ m. absurd cc
      | false ↦ λ m. ap (λ (y : List Entry). e ∷ y) (goes_last es k x m)
    ] h

-- an attribute of a type that isn't there goes last
pub pushed_new : (es : Pairs) (t : DnType) (v : DnValue) → position (is_of (kind_of t)) es ≡ None
    → entries_of (es ++ (t, v) ∷ []) ≡ pushed (entries_of es) (kind_of t) (text_of v)
pushed_new es t v h = map-append entry_of es ((t, v) ∷ []) ∙ goes_last (entries_of es) (kind_of t) (text_of v) (not_there es (kind_of t) h)

stays : (es : List Entry) (k : Kind) → list_any (has_type k) es ≡ false → es ≡ removed es k
stays [] k h = refl
stays (e ∷ es) k h =
    elim (has_type k e) as (λ b. (b || list_any (has_type k) es) ≡ false → e ∷ es ≡ cond b es (e ∷ removed es k)) [
      | true ↦ λ m. absurd cc
      | false ↦ λ m. ap (λ (y : List Entry). e ∷ y) (stays es k m)
    ] h

-- nothing is taken out where the type isn't there
pub removed_none : (es : Pairs) (k : Kind) → position (is_of k) es ≡ None → entries_of es ≡ removed (entries_of es) k
removed_none es k h = stays (entries_of es) k (not_there es k h)

unfound : (es : List Entry) (k : Kind) → list_any (has_type k) es ≡ false → text_of_type es k ≡ None
unfound [] k h = refl
unfound (e ∷ es) k h =
    elim (has_type k e) as (λ b. (b || list_any (has_type k) es) ≡ false → option_map (λ (a : Entry). a.text) (cond b (Some e) (find (has_type k) es)) ≡ None) [
      | true ↦ λ m. absurd cc
      | false ↦ λ m. unfound es k m
    ] h

pub found_none : (es : Pairs) (k : Kind) → position (is_of k) es ≡ None → text_of_type (entries_of es) k ≡ None
found_none es k h = unfound (entries_of es) k (not_there es k h)

-- ---- a type that is there

some_passes : (n len i : ℕ) (b : Bool) → nat_lt n len ≡ b → cond b (Some n) None ≡ Some i → (i ≡ n) × (i < len)
some_passes n len i true e h = let s = some_is n i h in (sym s, subst (λ (x : ℕ). x < len) s (ltb-true n len e))
some_passes n len i false e h = absurd cc

place_is : (es : Pairs) (k : Kind) (i : ℕ) → position (is_of k) es ≡ Some i → (i ≡ position_or_len (is_of k) es) × (i < length es)
place_is es k i h = some_passes (position_or_len (is_of k) es) (length es) i (nat_lt (position_or_len (is_of k) es) (length es)) refl h

replaced_at : (es : Pairs) (k : Kind) (v : DnValue) (i : ℕ) (x : DnType × DnValue) → i ≡ position_or_len (is_of k) es → i < length es
    → x ≡ get_or es i x → entries_of (slice_set es i (x.0, v)) ≡ pushed (entries_of es) k (text_of v)
replaced_at [] k v i x e l g = absurd (omega arith)
replaced_at (y ∷ es) k v zero x e l g =
    elim (same_type (kind_of y.0) k) as (λ b. 0 ≡ cond (not b) (1 + position_or_len (is_of k) es) 0
    → entries_of (slice_set (y ∷ es) 0 (x.0, v))
    ≡ cond b (record { dn_type = kind_of y.0; text = text_of v } ∷ entries_of es) (entry_of y ∷ pushed (entries_of es) k (text_of v))) [
      | true ↦ λ m. ap (λ (z : DnType × DnValue). record { dn_type = kind_of z.0; text = text_of v } ∷ entries_of es) g
      | false ↦ λ m. absurd (omega arith)
    ] e
replaced_at (y ∷ es) k v (suc i) x e l g =
    elim (same_type (kind_of y.0) k) as (λ b. suc i ≡ cond (not b) (1 + position_or_len (is_of k) es) 0
    → entries_of (slice_set (y ∷ es) (suc i) (x.0, v))
    ≡ cond b (record { dn_type = kind_of y.0; text = text_of v } ∷ entries_of es) (entry_of y ∷ pushed (entries_of es) k (text_of v))) [
      | true ↦ λ m. absurd (omega arith)
      | false ↦ λ m. ap (λ (z : List Entry). entry_of y ∷ z) (replaced_at es k v i x (omega arith) (omega arith) g)
    ] e

-- an attribute of a type that is there gets the text
pub pushed_there : (es : Pairs) (k : Kind) (v : DnValue) (i : ℕ) (x : DnType × DnValue) → position (is_of k) es ≡ Some i → x ≡ get_or es i x
    → entries_of (slice_set es i (x.0, v)) ≡ pushed (entries_of es) k (text_of v)
pushed_there es k v i x h g = let p = place_is es k i h in replaced_at es k v i x p.0 p.1 g

removed_at : (es : Pairs) (k : Kind) (i : ℕ) → i ≡ position_or_len (is_of k) es → i < length es → entries_of (remove es i) ≡ removed (entries_of es) k
removed_at [] k i e l = absurd (omega arith)
removed_at (y ∷ es) k zero e l =
    elim (same_type (kind_of y.0) k) as (λ b. 0 ≡ cond (not b) (1 + position_or_len (is_of k) es) 0
    → entries_of es ≡ cond b (entries_of es) (entry_of y ∷ removed (entries_of es) k)) [
      | true ↦ λ m. refl
      | false ↦ λ m. absurd (omega arith)
    ] e
removed_at (y ∷ es) k (suc i) e l =
    elim (same_type (kind_of y.0) k) as (λ b. suc i ≡ cond (not b) (1 + position_or_len (is_of k) es) 0
    → entry_of y ∷ entries_of (remove es i) ≡ cond b (entries_of es) (entry_of y ∷ removed (entries_of es) k)) [
      | true ↦ λ m. absurd (omega arith)
      | false ↦ λ m. ap (λ (z : List Entry). entry_of y ∷ z) (removed_at es k i (omega arith) (omega arith))
    ] e

-- the attribute of a type that is there is taken out
pub removed_there : (es : Pairs) (k : Kind) (i : ℕ) → position (is_of k) es ≡ Some i → entries_of (remove es i) ≡ removed (entries_of es) k
removed_there es k i h = let p = place_is es k i h in removed_at es k i p.0 p.1

some_within : (es : Pairs) (k : Kind) (i : ℕ) → i ≡ position_or_len (is_of k) es → i < length es → list_any (has_type k) (entries_of es) ≡ true
some_within [] k i e l = absurd (omega arith)
some_within (y ∷ es) k i e l =
    elim (same_type (kind_of y.0) k) as (λ b. i ≡ cond (not b) (1 + position_or_len (is_of k) es) 0 → (b || list_any (has_type k) (entries_of es)) ≡ true) [
      | true ↦ λ m. refl
      | false ↦ λ m. some_within es k (position_or_len (is_of k) es) refl (omega arith)
    ] e

pub there : (es : Pairs) (k : Kind) (i : ℕ) → position (is_of k) es ≡ Some i → list_any (has_type k) (entries_of es) ≡ true
there es k i h = let p = place_is es k i h in some_within es k i p.0 p.1

found_at : (es : Pairs) (k : Kind) (i : ℕ) (x : DnType × DnValue) → i ≡ position_or_len (is_of k) es → i < length es → x ≡ get_or es i x
    → text_of_type (entries_of es) k ≡ Some (text_of x.1)
found_at [] k i x e l g = absurd (omega arith)
found_at (y ∷ es) k zero x e l g =
    elim (same_type (kind_of y.0) k) as (λ b. 0 ≡ cond (not b) (1 + position_or_len (is_of k) es) 0
    → option_map (λ (a : Entry). a.text) (cond b (Some (entry_of y)) (find (has_type k) (entries_of es))) ≡ Some (text_of x.1)) [
      | true ↦ λ m. ap (λ (z : DnType × DnValue). Some (text_of z.1)) (sym g)
      | false ↦ λ m. absurd (omega arith)
    ] e
found_at (y ∷ es) k (suc i) x e l g =
    elim (same_type (kind_of y.0) k) as (λ b. suc i ≡ cond (not b) (1 + position_or_len (is_of k) es) 0
    → option_map (λ (a : Entry). a.text) (cond b (Some (entry_of y)) (find (has_type k) (entries_of es))) ≡ Some (text_of x.1)) [
      | true ↦ λ m. absurd (omega arith)
      | false ↦ λ m. found_at es k i x (omega arith) (omega arith) g
    ] e

pub found_there : (es : Pairs) (k : Kind) (i : ℕ) (x : DnType × DnValue) → position (is_of k) es ≡ Some i → x ≡ get_or es i x
    → text_of_type (entries_of es) k ≡ Some (text_of x.1)
found_there es k i x h g = let p = place_is es k i h in found_at es k i x p.0 p.1 g

-- ---- equality

both_same : {a b c d e f : Bool} → a ≡ b → c ≡ d → e ≡ f → ((a && c) && e) ≡ ((b && d) && f)
both_same p q r = rw (p, q, r) refl

-- names are equal where their attributes are, pair by pair
pub pairs_same : (xs ys : Pairs) → pointwise (λ x y. types.eq x.0 y.0 && values.eq x.1 y.1) xs ys ≡ same_entries (entries_of xs) (entries_of ys)
pairs_same [] [] = refl
pairs_same [] (y ∷ ys) = refl
pairs_same (x ∷ xs) [] = refl
pairs_same (x ∷ xs) (y ∷ ys) = both_same (types_same x.0 y.0) (values_same x.1 y.1) (pairs_same xs ys)
