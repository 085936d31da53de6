-- Types of attributes and their arcs (RFC 5280, appendix A.1; X.520).
use Rattle.std.specs.Prelude.{ℕ, Bool, List, [], ◌∷◌, nat_eq, if◌then◌else◌}
use Rattle.std.specs.Ordering.{on, eq_of_both}
use Rattle.std.specs.Cmp.{IsEquivalence}
use Rattle.std.specs.Cmp.Lexicographic.{pointwise}
use Rattle.std.proofs.lemmas.Cmp.{on_equiv, and_equiv, nat_eq_equiv, nat_list_eq_equiv}
use Rattle.rcgen_text.specs.declared.dn_type.DnType.{DnType}
use Rattle.rcgen_text.specs.declared.dn_type.DnType.TheVariants as types

-- a type of attributes: one that has a name, or one that is given by its arcs
pub data Kind : Type 0 where
  country_name : Kind
  locality_name : Kind
  state_or_province_name : Kind
  organization_name : Kind
  organizational_unit_name : Kind
  common_name : Kind
  custom : List ℕ → Kind

abbrev pub kind_of : DnType → Kind
kind_of types.CountryName = country_name
kind_of types.LocalityName = locality_name
kind_of types.StateOrProvinceName = state_or_province_name
kind_of types.OrganizationName = organization_name
kind_of types.OrganizationalUnitName = organizational_unit_name
kind_of types.CommonName = common_name
kind_of (types.CustomDnType arcs) = custom arcs.items

-- the arcs of an attribute type below id-at
abbrev pub id_at : ℕ → List ℕ
id_at arc = 2 ∷ 5 ∷ 4 ∷ arc ∷ []

abbrev pub type_arcs : Kind → List ℕ
type_arcs country_name = id_at 6
type_arcs locality_name = id_at 7
type_arcs state_or_province_name = id_at 8
type_arcs organization_name = id_at 10
type_arcs organizational_unit_name = id_at 11
type_arcs common_name = id_at 3
type_arcs (custom arcs) = arcs

-- the type with a name that has these arcs, or else the custom one
unfoldable pub type_of_arcs : List ℕ → Kind
type_of_arcs arcs =
    if pointwise nat_eq arcs (id_at 6) then country_name
    else if pointwise nat_eq arcs (id_at 7) then locality_name
    else if pointwise nat_eq arcs (id_at 8) then state_or_province_name
    else if pointwise nat_eq arcs (id_at 10) then organization_name
    else if pointwise nat_eq arcs (id_at 11) then organizational_unit_name
    else if pointwise nat_eq arcs (id_at 3) then common_name
    else custom arcs

-- ---- equality, as Rust's `==`

-- the place of a type among all
abbrev pub type_place : Kind → ℕ
type_place country_name = 0
type_place locality_name = 1
type_place state_or_province_name = 2
type_place organization_name = 3
type_place organizational_unit_name = 4
type_place common_name = 5
type_place (custom arcs) = 6

-- the arcs that are given
abbrev pub given_arcs : Kind → List ℕ
given_arcs (custom arcs) = arcs
given_arcs _ = []

abbrev pub same_type : Kind → Kind → Bool
same_type = eq_of_both (on type_place nat_eq) (on given_arcs (pointwise nat_eq))

pub same_type_equiv : IsEquivalence same_type
same_type_equiv = and_equiv (on_equiv type_place nat_eq_equiv) (on_equiv given_arcs nat_list_eq_equiv)

-- the type has a name
abbrev pub IsNamed : Kind → Type 0
IsNamed (custom arcs) = ⊥
IsNamed _ = Unit {0}
