-- Types of attributes and their arcs.
use Rattle.std.specs.Prelude.{◌≡◌, ℕ, Bool, true, false, cond, List, nat_eq, refl}
use Rattle.std.specs.Cmp.Lexicographic.{pointwise, same_text}
use Rattle.std.proofs.Common.{sym, ◌∙◌}
use Rattle.rcgen_text.specs.DnTypes.{Kind, country_name, locality_name, state_or_province_name, organization_name, organizational_unit_name}
use Rattle.rcgen_text.specs.DnTypes.{common_name, custom, type_arcs, type_of_arcs, same_type, IsNamed, id_at}

by_test : (arcs ours : List ℕ) (this other : Kind) (b : Bool) → type_arcs this ≡ ours → b ≡ pointwise nat_eq arcs ours → type_arcs other ≡ arcs
    → type_arcs (cond b this other) ≡ arcs
by_test arcs ours this other true e h k = e ∙ sym (same_text arcs ours h)
by_test arcs ours this other false e h k = k

-- a type that is chosen where the arcs are its own keeps them
named : (arcs : List ℕ) (arc : ℕ) (this other : Kind) → type_arcs this ≡ id_at arc → type_arcs other ≡ arcs
    → type_arcs (cond (pointwise nat_eq arcs (id_at arc)) this other) ≡ arcs
named arcs arc this other e k = by_test arcs (id_at arc) this other (pointwise nat_eq arcs (id_at arc)) e refl k

pub is_another : (arcs : List ℕ) (kind : Kind) → IsNamed kind → same_type (custom arcs) kind ≡ false
is_another arcs country_name h = refl
is_another arcs locality_name h = refl
is_another arcs state_or_province_name h = refl
is_another arcs organization_name h = refl
is_another arcs organizational_unit_name h = refl
is_another arcs common_name h = refl
is_another arcs (custom other) h = absurd h

pub keeps_arcs : (arcs : List ℕ) → type_arcs (type_of_arcs arcs) ≡ arcs
unfolding type_of_arcs
keeps_arcs arcs =
    named arcs 6 country_name _ refl
    (named arcs 7 locality_name _ refl
    (named arcs 8 state_or_province_name _ refl
    (named arcs 10 organization_name _ refl
    (named arcs 11 organizational_unit_name _ refl
    (named arcs 3 common_name _ refl refl)))))
