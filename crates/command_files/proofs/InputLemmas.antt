-- Inputs that are read one after the other.
use Rattle.std.proofs.Common.{◌≡◌, ◌∙◌, ℕ, ◌+◌, ◌-◌, ◌<◌, ◌≤◌, List, [], ◌∷◌, ◌++◌, length, map, min, take, get_or, Option, Some, Result, Ok, Err, IfErr, IsErrAnd, Vec, Global, ap, arith, inl, inr, subst, sym, vec_len, zero-add}
use Rattle.std.specs.Prelude.{◌⊎◌, slice_get}
use Rattle.std.specs.List.{AllZip}
use Rattle.std.proofs.lemmas.Bool.{cases_lt}
use Rattle.std.proofs.lemmas.List.{map-append, take_more, take_all}
use Rattle.std.proofs.lemmas.List.Sums.{sum_by-append}
use Rattle.std.proofs.lemmas.Option.{slice_get-get_or}
use Rattle.std.proofs.lemmas.Slice.Zip.{all_zipped_more}
use Rattle.command_files.specs.Files.{IsLongerThan, IsStored}
use Rattle.command_files.specs.Run.{Is, IsTooMuch, IsUnreadable, Named, all_limit, sum_of}

abbrev pub bytes_of : List (Vec ℕ Global) → List (List ℕ)
bytes_of inputs = map (λ bytes. bytes.items) inputs

bytes_more : (old new : List (Vec ℕ Global)) (v : Vec ℕ Global) → new ≡ old ++ v ∷ [] → bytes_of new ≡ bytes_of old ++ v.items ∷ []
bytes_more old new v e = ap bytes_of e ∙ map-append (λ (bytes : Vec ℕ Global). bytes.items) old (v ∷ [])

-- one more that is as it is stored
pub one_more : (stored : List ℕ → Option (List ℕ)) (names : List Named) (i : ℕ) (n : Named) (old new : List (Vec ℕ Global)) (v : Vec ℕ Global)
    → i < length names → n ≡ get_or names i n → AllZip (Is stored) (take i names) (bytes_of old) → IsStored (stored n.name) v.items
    → length v.items ≤ n.limit → new ≡ old ++ v ∷ [] → AllZip (Is stored) (take (i + 1) names) (bytes_of new)
one_more stored names i n old new v l at h s b e =
    let more : take (i + 1) names ≡ take i names ++ n ∷ [] = take_more names i n l ∙ ap (λ (x : Named). take i names ++ x ∷ []) (sym at) in
    subst (λ (ns : List Named). AllZip (Is stored) ns (bytes_of new)) (sym more)
    (subst (λ (bs : List (List ℕ)). AllZip (Is stored) (take i names ++ n ∷ []) bs) (sym (bytes_more old new v e))
    (all_zipped_more (Is stored) (take i names) (bytes_of old) n v.items h (s, b)))

sum_more : (old : List (List ℕ)) (b : List ℕ) → sum_of (old ++ b ∷ []) ≡ sum_of old + length b
sum_more old b = sum_by-append (length {A = ℕ}) old (b ∷ []) ∙ ap (λ (n : ℕ). sum_of old + n) (zero-add (length b))

-- what is left, and what all have
pub left_more : (left count : ℕ) (old new : List (Vec ℕ Global)) (v : Vec ℕ Global) → count ≡ vec_len v → length v.items ≤ left
    → left + sum_of (bytes_of old) ≡ all_limit → new ≡ old ++ v ∷ [] → left - count + sum_of (bytes_of new) ≡ all_limit
left_more left count old new v c b h e =
    let s : sum_of (bytes_of new) ≡ sum_of (bytes_of old) + length v.items = ap sum_of (bytes_more old new v e) ∙ sum_more (bytes_of old) v.items in
    omega arith

least : (a b : ℕ) → (min a b ≡ a) ⊎ (min a b ≡ b)
least a b = elim (cases_lt a b) [ inl h ↦ inl (omega arith) | inr h ↦ inr (omega arith) ]

own_or_all : (limit left : ℕ) (before : List (List ℕ)) → left + sum_of before ≡ all_limit
    → (min limit left ≡ limit) ⊎ (min limit left + sum_of before ≡ all_limit)
own_or_all limit left before h = elim (least limit left) [ inl e ↦ inl e | inr e ↦ inr (omega arith) ]

-- an input that is longer than there is room for
pub too_much : (stored : List ℕ → Option (List ℕ)) (names : List Named) (i : ℕ) (n : Named) (before : List (List ℕ)) (left : ℕ)
    → i < length names → n ≡ get_or names i n → AllZip (Is stored) (take i names) before → left + sum_of before ≡ all_limit
    → IsLongerThan (min n.limit left) (stored n.name) → IsTooMuch stored names
too_much stored names i n before left l at h s beyond = record {
  place = i;
  named = n;
  before = before;
  room = min n.limit left;
  there = slice_get-get_or names i n l ∙ ap (λ (x : Named). Some x) (sym at);
  read = h;
  own_or_all = own_or_all n.limit left before s;
  longer = beyond;
}

-- one that can't be read
pub unreadable : (may_fail : List ℕ → Type 0) (names : List Named) (i : ℕ) (n : Named) → i < length names → n ≡ get_or names i n → may_fail n.name
    → IsUnreadable may_fail names
unreadable may_fail names i n l at h = (i, n, slice_get-get_or names i n l ∙ ap (λ (x : Named). Some x) (sym at), h)

-- what holds of the error of a step holds of the one that it is passed on as
pub passed_on : {X E : Type 0} (r : Result X E) (e : E) (P : E → Type 0) → IsErrAnd r (λ x. x ≡ e) → P e → IfErr r P
passed_on (Ok x) e P h p = absurd h
passed_on (Err f) e P h p = subst P (sym h) p
