-- Purposes in order, each once: how they come out of a list, and the extension that they make.
use Rattle.std.specs.Prelude.{◌≡◌, ℕ, Bool, true, false, ◌&&◌, ◌||◌, ◌==◌, not, List, [], ◌∷◌, length, map, filter, nat_eq, refl}
use Rattle.std.specs.Cmp.Lexicographic.{pointwise, nat_list_eq_equiv}
use Rattle.std.specs.List.{list_any}
use Rattle.std.specs.Option.{option_map}
use Rattle.std.proofs.Common.{ap, sym, ◌∙◌}
use Rattle.std.proofs.lemmas.List.{length-map}
use Rattle.std.proofs.lemmas.List.Folds.{list_any-append}
use Rattle.rcgen_certificate.specs.ExtendedKeyUsages.{Purpose, other, ext_key_usage, purpose_oid, same_purpose}
use Rattle.rcgen_read.specs.ExtensionReading.{has_name, lists, named_purposes, purposes_listed}
use Rattle.rcgen_read.specs.RequestLaws.{each_once, purposes_in_order}
use Rattle.rcgen_read.proofs.Kept.{any_kept, any_same, not_empty, same_part, some_there, twice}

and_or : (a r : Bool) → (a && (a || r)) ≡ a
and_or true r = refl
and_or false r = refl

or_yes : (a : Bool) → (a || true) ≡ true
or_yes true = refl
or_yes false = refl

abbrev is_id : List ℕ → Purpose → Bool
is_id id p = pointwise nat_eq (purpose_oid p) id

some_named : (id : List ℕ) (ids : List (List ℕ)) → has_name id ≡ true → list_any (is_id id) (filter (lists (id ∷ ids)) named_purposes) ≡ true
some_named id ids h =
    any_kept (lists (id ∷ ids)) (is_id id) named_purposes
    ∙ any_same (λ p. is_id id p && lists (id ∷ ids) p) (is_id id) named_purposes (λ p. and_or (is_id id p) (lists ids p)) ∙ h

some_other : (id : List ℕ) (ids : List (List ℕ)) → has_name id ≡ false
    → list_any (is_id id) (map other (filter (λ i. not (has_name i)) (id ∷ ids))) ≡ true
some_other id ids h = rw (h, nat_list_eq_equiv.refl id) refl

-- whether it has a name or not, it is among the purposes that are listed
some_listed : (id : List ℕ) (ids : List (List ℕ)) (named : Bool) → has_name id ≡ named → list_any (is_id id) (purposes_listed (id ∷ ids)) ≡ true
some_listed id ids named h =
    list_any-append (is_id id) (filter (lists (id ∷ ids)) named_purposes) (map other (filter (λ i. not (has_name i)) (id ∷ ids)))
    ∙ elim named as (λ b. has_name id ≡ b
    → (list_any (is_id id) (filter (lists (id ∷ ids)) named_purposes) || list_any (is_id id) (map other (filter (λ i. not (has_name i)) (id ∷ ids)))) ≡ true) [
      | true ↦ λ k. rw (some_named id ids k) refl
      | false ↦ λ k. rw (some_other id ids k) (or_yes (list_any (is_id id) (filter (lists (id ∷ ids)) named_purposes)))
    ] h

once_together : (ps : List Purpose) → (length (each_once ps) == 0) ≡ (length ps == 0)
once_together [] = refl
once_together (p ∷ ps) = not_empty p (filter (λ q. not (same_purpose p q)) (each_once ps)) ∙ sym (not_empty p ps)

-- there are purposes where some are listed at all
pub empty_together : (ids : List (List ℕ)) → (length (purposes_in_order ids) == 0) ≡ (length ids == 0)
empty_together [] = refl
empty_together (id ∷ ids) =
    once_together (purposes_listed (id ∷ ids))
    ∙ some_there (is_id id) (purposes_listed (id ∷ ids)) (some_listed id ids (has_name id) refl) ∙ sym (not_empty id ids)

pub same_purposes : (ps qs : List Purpose) → qs ≡ purposes_in_order (map purpose_oid ps)
    → ext_key_usage qs ≡ option_map (λ ids. map purpose_oid (purposes_in_order ids)) (ext_key_usage ps)
same_purposes ps qs e =
    let empty : (length qs == 0) ≡ (length ps == 0) =
    ap (λ (xs : List Purpose). length xs == 0) e ∙ empty_together (map purpose_oid ps)
    ∙ ap (λ (n : ℕ). n == 0) (length-map ps purpose_oid) in
    let arcs : map purpose_oid qs ≡ map purpose_oid (purposes_in_order (map purpose_oid ps)) = ap (map purpose_oid) e in
    same_part (map purpose_oid) (λ xs. map purpose_oid (purposes_in_order (map purpose_oid xs))) qs ps empty arcs
    ∙ sym (twice (λ ids. map purpose_oid (purposes_in_order ids)) (map purpose_oid) ps)
