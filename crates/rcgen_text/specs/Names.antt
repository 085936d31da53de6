-- Names as lists of attributes (RFC 5280, 4.1.2.4).
use Rattle.std.specs.Prelude.{ℕ, Bool, List, [], ◌∷◌, Option, map, option_map, find, position, if◌then◌else◌}
use Rattle.std.specs.List.{IsDistinct, fold}
use Rattle.std.specs.Ordering.{on, eq_of_both}
use Rattle.std.specs.Cmp.{IsEquivalence}
use Rattle.std.specs.Cmp.Lexicographic.{pointwise}
use Rattle.std.proofs.lemmas.Cmp.{on_equiv, and_equiv}
use Rattle.rcgen_text.specs.declared.dn_type.DnType.{DnType}
use Rattle.rcgen_text.specs.declared.dn_value.DnValue.{DnValue}
use Rattle.rcgen_text.specs.DnTypes.{Kind, common_name, kind_of, same_type, same_type_equiv}
use Rattle.rcgen_text.specs.DnValues.{Text, utf8_string, text_of, same_text, same_text_equiv}

-- an attribute
pub record Entry : Type 0 where
  pub dn_type : Kind
  pub text : Text

abbrev pub entry_of : DnType × DnValue → Entry
entry_of e = record { dn_type = kind_of e.0; text = text_of e.1 }

abbrev pub entries_of : List (DnType × DnValue) → List Entry
entries_of es = map entry_of es

-- the name that has this common name alone
abbrev pub common_name_alone : List ℕ → List Entry
common_name_alone text = record { dn_type = common_name; text = utf8_string text } ∷ []

abbrev pub same_entry : Entry → Entry → Bool
same_entry = eq_of_both (on (λ e. e.dn_type) same_type) (on (λ e. e.text) same_text)

pub same_entry_equiv : IsEquivalence same_entry
same_entry_equiv = and_equiv (on_equiv (λ e. e.dn_type) same_type_equiv) (on_equiv (λ e. e.text) same_text_equiv)

abbrev pub same_entries : List Entry → List Entry → Bool
same_entries = pointwise same_entry

-- the attribute has this type
abbrev pub has_type : Kind → Entry → Bool
has_type t e = same_type e.dn_type t

-- no two attributes have the same type
abbrev pub HasDistinctTypes : List Entry → Type 0
HasDistinctTypes es = IsDistinct same_type (map (λ e. e.dn_type) es)

-- the text of the attribute of this type
abbrev pub text_of_type : List Entry → Kind → Option Text
text_of_type es t = option_map (λ e. e.text) (find (has_type t) es)

-- a type that is there keeps its place and gets the text; one that isn't goes last
abbrev pub pushed : List Entry → Kind → Text → List Entry
pushed [] t x = record { dn_type = t; text = x } ∷ []
pushed (e ∷ es) t x = if has_type t e then record { dn_type = e.dn_type; text = x } ∷ es else e ∷ pushed es t x

-- the name of these attributes, pushed one after the other
abbrev pub all_pushed : List Entry → List Entry
all_pushed es = fold (λ name e. pushed name e.dn_type e.text) [] es

-- where the attribute of the type occurs
abbrev pub place_of_type : Kind → List Entry → Option ℕ
place_of_type t es = position (has_type t) es

-- the attribute of the type is taken out, and those after it move up
abbrev pub removed : List Entry → Kind → List Entry
removed [] t = []
removed (e ∷ es) t = if has_type t e then es else e ∷ removed es t
