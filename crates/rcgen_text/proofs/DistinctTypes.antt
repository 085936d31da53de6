-- The types of a name's attributes stay different.
use Rattle.std.specs.Prelude.{◌≡◌, true, false, cond, List, [], ◌∷◌, map, refl}
use Rattle.std.specs.List.{IsDistinct, AllByRecursion}
use Rattle.std.proofs.Common.{subst, sym}
use Rattle.rcgen_text.specs.DnTypes.{Kind, same_type}
use Rattle.rcgen_text.specs.DnValues.{Text}
use Rattle.rcgen_text.specs.Names.{Entry, pushed, removed, HasDistinctTypes}

abbrev types : List Entry → List Kind
types es = map (λ e. e.dn_type) es

pub none_distinct : HasDistinctTypes []
unfolding IsDistinct
none_distinct = tt

all_pushed : (P : Kind → Type 0) (es : List Entry) (t : Kind) (x : Text) → AllByRecursion P (types es) → P t → AllByRecursion P (types (pushed es t x))
all_pushed P [] t x h p = (p, tt)
all_pushed P (e ∷ es) t x h p =
    elim (same_type e.dn_type t) as (λ b. AllByRecursion P (types (cond b (record { dn_type = e.dn_type; text = x } ∷ es) (e ∷ pushed es t x)))) [
      | true ↦ h
      | false ↦ (h.0, all_pushed P es t x h.1 p)
    ]

pushed_keeps : (es : List Entry) (t : Kind) (x : Text) → HasDistinctTypes es → HasDistinctTypes (pushed es t x)
unfolding IsDistinct
pushed_keeps [] t x h = (tt, tt)
pushed_keeps (e ∷ es) t x h =
    elim (same_type e.dn_type t) as (λ b. same_type e.dn_type t ≡ b
    → HasDistinctTypes (cond b (record { dn_type = e.dn_type; text = x } ∷ es) (e ∷ pushed es t x))) [
      | true ↦ λ s. h
      | false ↦ λ s. (all_pushed (λ u. same_type e.dn_type u ≡ false) es t x h.0 s, pushed_keeps es t x h.1)
    ] refl

pub pushed_distinct : (es fs : List Entry) (t : Kind) (x : Text) → HasDistinctTypes es → fs ≡ pushed es t x → HasDistinctTypes fs
pushed_distinct es fs t x h e = subst HasDistinctTypes (sym e) (pushed_keeps es t x h)

all_removed : (P : Kind → Type 0) (es : List Entry) (t : Kind) → AllByRecursion P (types es) → AllByRecursion P (types (removed es t))
all_removed P [] t h = tt
all_removed P (e ∷ es) t h =
    elim (same_type e.dn_type t) as (λ b. AllByRecursion P (types (cond b es (e ∷ removed es t)))) [
      | true ↦ h.1
      | false ↦ (h.0, all_removed P es t h.1)
    ]

removed_keeps : (es : List Entry) (t : Kind) → HasDistinctTypes es → HasDistinctTypes (removed es t)
unfolding IsDistinct
removed_keeps [] t h = tt
removed_keeps (e ∷ es) t h =
    elim (same_type e.dn_type t) as (λ b. HasDistinctTypes (cond b es (e ∷ removed es t))) [
      | true ↦ h.1
      | false ↦ (all_removed (λ u. same_type e.dn_type u ≡ false) es t h.0, removed_keeps es t h.1)
    ]

pub removed_distinct : (es fs : List Entry) (t : Kind) → HasDistinctTypes es → fs ≡ removed es t → HasDistinctTypes fs
removed_distinct es fs t h e = subst HasDistinctTypes (sym e) (removed_keeps es t h)
