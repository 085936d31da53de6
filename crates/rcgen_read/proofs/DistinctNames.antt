-- Attributes of different types stay as they are.
use Rattle.std.specs.Prelude.{◌≡◌, ℕ, Bool, true, false, cond, ◌||◌, nat_eq, List, [], ◌∷◌, ◌++◌, map, fold, refl}
use Rattle.std.specs.Cmp.Lexicographic.{pointwise}
use Rattle.std.specs.List.{list_any, IsDistinct, AllByRecursion}
use Rattle.std.proofs.Common.{ap, sym, eqb-true, ◌∙◌}
use Rattle.std.proofs.lemmas.List.{append_assoc, append-nil}
use Rattle.std.specs.Cmp.Lexicographic.{same_text, nat_list_eq_equiv}
use Rattle.asn1_core.specs.Binds.{and_true}
use Rattle.rcgen_text.specs.DnTypes.{Kind, country_name, locality_name, state_or_province_name, organization_name, organizational_unit_name}
use Rattle.rcgen_text.specs.DnTypes.{common_name, custom, given_arcs, id_at, same_type, type_arcs, type_place}
use Rattle.rcgen_text.specs.Names.{Entry, HasDistinctTypes, all_pushed, has_type, pushed}

-- ---- pushed in order

goes_last : (es : List Entry) (e : Entry) → list_any (has_type e.dn_type) es ≡ false → pushed es e.dn_type e.text ≡ es ++ e ∷ []
goes_last [] e h = refl
goes_last (x ∷ xs) e h =
    elim (has_type e.dn_type x) as (λ b. (b || list_any (has_type e.dn_type) xs) ≡ false
    → cond b (record { dn_type = x.dn_type; text = e.text } ∷ xs) (x ∷ pushed xs e.dn_type e.text) ≡ x ∷ xs ++ e ∷ []) [
      | true ↦ λ m. absurd cc
      | false ↦ λ m. ap (λ (y : List Entry). x ∷ y) (goes_last xs e m)
    ] h

none_more : (p : Entry → Bool) (xs : List Entry) (x : Entry) → list_any p xs ≡ false → p x ≡ false → list_any p (xs ++ x ∷ []) ≡ false
none_more p [] x h k = rw k refl
none_more p (y ∷ ys) x h k =
    elim (p y) as (λ b. (b || list_any p ys) ≡ false → (b || list_any p (ys ++ x ∷ [])) ≡ false) [
      | true ↦ λ m. absurd cc
      | false ↦ λ m. none_more p ys x m k
    ] h

-- none of the attributes has a type of the name
abbrev NoneIn : List Entry → List Entry → Type 0
NoneIn n es = AllByRecursion (λ y. list_any (has_type y.dn_type) n ≡ false) es

one_more : (n : List Entry) (e : Entry) (es : List Entry) → NoneIn n es → AllByRecursion (λ u. same_type e.dn_type u ≡ false) (map (λ y. y.dn_type) es)
    → NoneIn (n ++ e ∷ []) es
one_more n e [] h k = tt
one_more n e (y ∷ ys) h k = (none_more (has_type y.dn_type) n e h.0 k.0, one_more n e ys h.1 k.1)

none_in_nothing : (es : List Entry) → NoneIn [] es
none_in_nothing [] = tt
none_in_nothing (e ∷ es) = (refl, none_in_nothing es)

kept_behind : (n es : List Entry) → NoneIn n es → HasDistinctTypes es → fold (λ m e. pushed m e.dn_type e.text) n es ≡ n ++ es
unfolding IsDistinct
kept_behind n [] h d = sym (append-nil n)
kept_behind n (e ∷ es) h d =
    ap (λ (x : List Entry). fold (λ m e. pushed m e.dn_type e.text) x es) (goes_last n e h.0)
    ∙ kept_behind (n ++ e ∷ []) es (one_more n e es h.1 d.0) d.1 ∙ append_assoc n (e ∷ []) es

pub kept : (es : List Entry) → HasDistinctTypes es → all_pushed es ≡ es
kept es d = kept_behind [] es (none_in_nothing es) d

-- ---- identifiers

arcs_at : ℕ → List ℕ → List ℕ
arcs_at place given =
    cond (nat_eq place 0) (id_at 6) (cond (nat_eq place 1) (id_at 7) (cond (nat_eq place 2) (id_at 8) (cond (nat_eq place 3) (id_at 10)
    (cond (nat_eq place 4) (id_at 11) (cond (nat_eq place 5) (id_at 3) given)))))

arcs_are : (t : Kind) → type_arcs t ≡ arcs_at (type_place t) (given_arcs t)
unfolding arcs_at
arcs_are country_name = refl
arcs_are locality_name = refl
arcs_are state_or_province_name = refl
arcs_are organization_name = refl
arcs_are organizational_unit_name = refl
arcs_are common_name = refl
arcs_are (custom arcs) = refl

same_arcs : (t u : Kind) → same_type t u ≡ true → type_arcs t ≡ type_arcs u
same_arcs t u h =
    let p = and_true (nat_eq (type_place t) (type_place u)) (pointwise nat_eq (given_arcs t) (given_arcs u)) h in
    arcs_are t ∙ ap (λ (x : ℕ). arcs_at x (given_arcs t)) (eqb-true (type_place t) (type_place u) p.0)
    ∙ ap (arcs_at (type_place u)) (same_text (given_arcs t) (given_arcs u) (sym p.1)) ∙ sym (arcs_are u)

other_type : (t u : Kind) → pointwise nat_eq (type_arcs t) (type_arcs u) ≡ false → same_type t u ≡ false
other_type t u h =
    elim (same_type t u) as (λ b. same_type t u ≡ b → b ≡ false) [
      | true ↦ λ m.
          let one : pointwise nat_eq (type_arcs u) (type_arcs u) ≡ true = nat_list_eq_equiv.refl (type_arcs u) in
          let two : pointwise nat_eq (type_arcs u) (type_arcs u) ≡ false =
          sym (ap (λ (x : List ℕ). pointwise nat_eq x (type_arcs u)) (same_arcs t u m)) ∙ h in
          absurd cc
      | false ↦ λ m. refl
    ] refl

each_other : (t : Kind) (es : List Entry) → AllByRecursion (λ y. pointwise nat_eq (type_arcs t) y ≡ false) (map (λ e. type_arcs e.dn_type) es)
    → AllByRecursion (λ u. same_type t u ≡ false) (map (λ e. e.dn_type) es)
each_other t [] h = tt
each_other t (e ∷ es) h = (other_type t e.dn_type h.0, each_other t es h.1)

-- where no identifier occurs twice, no type does
pub by_identifiers : (es : List Entry) → IsDistinct (pointwise nat_eq) (map (λ e. type_arcs e.dn_type) es) → HasDistinctTypes es
unfolding IsDistinct
by_identifiers [] h = tt
by_identifiers (e ∷ es) h = (each_other e.dn_type es h.0, by_identifiers es h.1)
