-- What plain search finds in pairs of a serial and its place, in any order that keeps those of one serial in theirs.
use Rattle.std.proofs.Common.{◌≡◌, ℕ, ℤ, suc, ◌+◌, Bool, true, false, cond, not, ◌&&◌, List, [], ◌∷◌, length, refl, sym, ap, ◌∙◌, subst, arith}
use Rattle.std.proofs.Math.ListN.{get_or-map}
use Rattle.std.proofs.lemmas.List.{length-map}
use Rattle.std.proofs.lemmas.Bool.Decides.{Decides-int_eq}
use Rattle.std.proofs.lemmas.List.Kept.{IsStrictlySortedBy-dedup}
use Rattle.std.proofs.lemmas.Map.Entries.{lookup-filter-keys}
use Rattle.std.specs.Prelude.{Option, Some}
use Rattle.std.specs.Cmp.{tied_itself}
use Rattle.std.specs.List.{dedup, dedup_from, filter}
use Rattle.std.specs.List.Sorted.{IsSorted, IsSortedBy, IsStableBy, IsStrictlySortedBy, ties}
use Rattle.std.specs.Map.{keys_of}
use Rattle.std.specs.Option.{option_map}
use Rattle.std.specs.Ordering.{int_cmp, int_eq, is_lt}
use Rattle.std.specs.declared.cmp.Ordering.{Ordering}
use Rattle.asn1_core.specs.Twos.{signed}
use Rattle.pkix_cert.specs.declared.revocation.RevokedCertificate.{RevokedCertificate}
use Rattle.crl_index.specs.Search.{first_place, found_in, number_cmp, numbered, same_number}
use Rattle.crl_index.proofs.Numbers.{number_ties, number_total}

abbrev pub Pair : Type 0
Pair = List ℕ × ℕ

abbrev pub same_serial : Pair → Pair → Bool
same_serial x y = same_number x.0 y.0

abbrev pub is_below : Pair → Pair → Bool
is_below x y = is_lt (number_cmp x.0 y.0)

abbrev next : ℕ → ℕ
next place = place + 1

one_number : (a b : List ℕ) → same_number a b ≡ true → signed a ≡ signed b
one_number a b e = (Decides-int_eq (signed a) (signed b)).0 e

later : (b : Bool) (n : ℕ) (r s : Option ℕ) → r ≡ option_map next s → cond b (Some (n + 1)) r ≡ option_map next (cond b (Some n) s)
later true n r s e = refl
later false n r s e = e

shifted : (serial : List ℕ) (n : ℕ) (entries : List RevokedCertificate) → found_in serial (numbered (n + 1) entries) ≡ option_map next (found_in serial (numbered n entries))
shifted serial n [] = refl
shifted serial n (e ∷ es) = later (same_number e.user_certificate serial) n (found_in serial (numbered (n + 1 + 1) es)) (found_in serial (numbered (n + 1) es)) (shifted serial (n + 1) es)

-- the pairs in the order of the list
pub found_in_numbered : (serial : List ℕ) (entries : List RevokedCertificate) → found_in serial (numbered 1 entries) ≡ first_place serial entries
found_in_numbered serial [] = refl
found_in_numbered serial (e ∷ es) = ap (λ (o : Option ℕ). cond (same_number e.user_certificate serial) (Some 1) o) (shifted serial 1 es ∙ ap (option_map next) (found_in_numbered serial es))

tied : (o : Ordering) → is_lt o ≡ false → not (is_lt o) && not (is_lt o) ≡ true
tied o e = rw e refl

passes : (serial s : List ℕ) → same_number s serial ≡ true → ties is_below (serial, 0) (s, 0) ≡ true
passes serial s e =
    subst (λ (n : ℤ). not (is_lt (int_cmp (signed serial) n)) && not (is_lt (int_cmp n (signed serial))) ≡ true) (sym (one_number s serial e))
    (tied (number_cmp serial serial) (ap is_lt (tied_itself number_total serial)))

found_among_ties : (serial : List ℕ) (pairs : List Pair) → found_in serial (filter (ties is_below (serial, 0)) pairs) ≡ found_in serial pairs
found_among_ties serial pairs = lookup-filter-keys (λ s. same_number s serial) (λ s. ties is_below (serial, 0) (s, 0)) true (passes serial) pairs

-- a stable sort
pub found_after_sort : (serial : List ℕ) (xs ys : List Pair) → IsStableBy is_below xs ys → found_in serial ys ≡ found_in serial xs
found_after_sort serial xs ys stable = sym (found_among_ties serial ys) ∙ ap (found_in serial) (stable (serial, 0)) ∙ found_among_ties serial xs

again : (b : Bool) (n m : ℕ) (r : Option ℕ) → cond b (Some n) r ≡ cond b (Some n) (cond b (Some m) r)
again true n m r = refl
again false n m r = refl

repeated : (serial : List ℕ) (k x : Pair) (r : Option ℕ) → same_serial x k ≡ true → cond (same_number k.0 serial) (Some k.1) r ≡ cond (same_number k.0 serial) (Some k.1) (cond (same_number x.0 serial) (Some x.1) r)
repeated serial k x r same = subst (λ (n : ℤ). cond (same_number k.0 serial) (Some k.1) r ≡ cond (same_number k.0 serial) (Some k.1) (cond (int_eq n (signed serial)) (Some x.1) r)) (sym (one_number x.0 k.0 same)) (again (same_number k.0 serial) k.1 x.1 r)

kept_or_dropped : (serial : List ℕ) (k x : Pair) (xs : List Pair) (b : Bool) → same_serial x k ≡ b → found_in serial (dedup_from same_serial k xs) ≡ found_in serial (k ∷ xs) → found_in serial (dedup_from same_serial x xs) ≡ found_in serial (x ∷ xs) → found_in serial (cond b (dedup_from same_serial k xs) (k ∷ dedup_from same_serial x xs)) ≡ found_in serial (k ∷ x ∷ xs)
kept_or_dropped serial k x xs true same from_k from_x = from_k ∙ repeated serial k x (found_in serial xs) same
kept_or_dropped serial k x xs false apart from_k from_x = ap (λ (o : Option ℕ). cond (same_number k.0 serial) (Some k.1) o) from_x

found_from : (serial : List ℕ) (k : Pair) (xs : List Pair) → found_in serial (dedup_from same_serial k xs) ≡ found_in serial (k ∷ xs)
found_from serial k [] = refl
found_from serial k (x ∷ xs) = kept_or_dropped serial k x xs (same_serial x k) refl (found_from serial k xs) (found_from serial x xs)

-- without what repeats the serial before it
pub found_after_dedup : (serial : List ℕ) (xs : List Pair) → found_in serial (dedup same_serial xs) ≡ found_in serial xs
found_after_dedup serial [] = refl
found_after_dedup serial (x ∷ xs) = found_from serial x xs

keys_by : (k x : Pair) (xs : List Pair) (b : Bool) → keys_of (dedup_from same_serial k xs) ≡ dedup_from same_number k.0 (keys_of xs) → keys_of (dedup_from same_serial x xs) ≡ dedup_from same_number x.0 (keys_of xs) → keys_of (cond b (dedup_from same_serial k xs) (k ∷ dedup_from same_serial x xs)) ≡ cond b (dedup_from same_number k.0 (keys_of xs)) (k.0 ∷ dedup_from same_number x.0 (keys_of xs))
keys_by k x xs true from_k from_x = from_k
keys_by k x xs false from_k from_x = ap (λ (ks : List (List ℕ)). k.0 ∷ ks) from_x

keys_from : (k : Pair) (xs : List Pair) → keys_of (dedup_from same_serial k xs) ≡ dedup_from same_number k.0 (keys_of xs)
keys_from k [] = refl
keys_from k (x ∷ xs) = keys_by k x xs (same_serial x k) (keys_from k xs) (keys_from x xs)

keys_deduped : (xs : List Pair) → keys_of (dedup same_serial xs) ≡ dedup same_number (keys_of xs)
keys_deduped [] = refl
keys_deduped (x ∷ xs) = keys_from x xs

sorted_keys : (xs : List Pair) → IsSortedBy is_below xs → IsSorted number_cmp (keys_of xs)
sorted_keys xs up k d from within =
    let first : Pair → List ℕ = λ e. e.0 in
    rw (get_or-map first xs (k + 1) (d, 0), get_or-map first xs k (d, 0)) (up k (d, 0) from (omega (arith, length-map xs first)))

-- what is left ascends
pub ascending_after_dedup : (xs : List Pair) → IsSortedBy is_below xs → IsStrictlySortedBy number_cmp (keys_of (dedup same_serial xs))
ascending_after_dedup xs up = rw (keys_deduped xs) (IsStrictlySortedBy-dedup number_total number_ties (keys_of xs) (sorted_keys xs up))

pub length_numbered : (place : ℕ) (entries : List RevokedCertificate) → length (numbered place entries) ≡ length entries
length_numbered place [] = refl
length_numbered place (e ∷ es) = ap suc (length_numbered (place + 1) es)
