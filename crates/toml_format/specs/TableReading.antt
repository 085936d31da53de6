-- What is read of a table, key by key, and which reasons hold in it. The value at a key is taken out of the table
-- when it is read; a key that is left at the end is unknown.
use Rattle.std.specs.Prelude.{ℕ, if◌then◌else◌, List, [], ◌∷◌, ◌++◌, Option, Some, None, Result, Ok, Err, option_to_list}
use Rattle.std.specs.Option.{ok_or}
use Rattle.std.specs.Result.{result_err}
use Rattle.toml.specs.Data.{Data, Members, no_members, member, get_member, same_key, as_table}
use Rattle.toml_format.specs.Outcome.{both, and_then, mapped, reasons_in, later_reasons}
use Rattle.toml_format.specs.declared.reason.Reason.{Reason}
use Rattle.toml_format.specs.declared.reason.Reason.TheVariants.{UnknownKey, MissingKey, WrongType}

-- what was read of a table, and the members that are left of it
pub record Reading (A : Type 0) : Type 0 where
  pub left : Members
  pub read : Result A Reason

-- the members but for the one at a key
abbrev pub without : List ℕ → Members → Members
without key no_members = no_members
without key (member k d rest) = if same_key key k then rest else member k d (without key rest)

-- ---- one key

abbrev pub required_at : {A : Type 0} → (Data → Result A Reason) → Option Data → Result A Reason
required_at read (Some d) = read d
required_at read None = Err MissingKey

abbrev pub optional_at : {A : Type 0} → (Data → Result A Reason) → Option Data → Result (Option A) Reason
optional_at read (Some d) = mapped (read d) Some
optional_at read None = Ok None

abbrev pub defaulted_at : {A : Type 0} → (Data → Result A Reason) → A → Option Data → Result A Reason
defaulted_at read default (Some d) = read d
defaulted_at read default None = Ok default

unfoldable pub read_required : {A : Type 0} → List ℕ → (Data → Result A Reason) → Members → Reading A
read_required key read table = record { left = without key table; read = required_at read (get_member key table) }

unfoldable pub read_optional : {A : Type 0} → List ℕ → (Data → Result A Reason) → Members → Reading (Option A)
read_optional key read table = record { left = without key table; read = optional_at read (get_member key table) }

unfoldable pub read_defaulted : {A : Type 0} → List ℕ → (Data → Result A Reason) → A → Members → Reading A
read_defaulted key read default table = record { left = without key table; read = defaulted_at read default (get_member key table) }

-- the reasons at a key that must be there
abbrev pub required_reasons : List ℕ → (Data → List Reason) → Members → List Reason
required_reasons key reasons table = reasons_in (get_member key table) (MissingKey ∷ []) reasons

-- the reasons at a key that may be there
abbrev pub optional_reasons : List ℕ → (Data → List Reason) → Members → List Reason
optional_reasons key reasons table = reasons_in (get_member key table) [] reasons

-- ---- several keys

unfoldable pub read_none : Members → Reading (Unit {0})
read_none table = record { left = table; read = Ok tt }

unfoldable pub then_read : {A B : Type 0} → Reading A → (Members → Reading B) → Reading (A × B)
then_read r f = record { left = (f r.left).left; read = both r.read (f r.left).read }

unfoldable pub read_checked : {A B : Type 0} → Reading A → (A → Result B Reason) → Reading B
read_checked r f = record { left = r.left; read = and_then r.read f }

unfoldable pub read_fields : {A B : Type 0} → (Members → Reading A) → (A → Result B Reason) → Members → Reading B
read_fields read of_keys table = read_checked (read table) of_keys

-- the reasons at some keys, and at those that are read after them
abbrev pub then_reasons : {A : Type 0} → (Members → Reading A) → (Members → List Reason) → (Members → List Reason) → Members → List Reason
then_reasons read reasons later table = reasons table ++ later (read table).left

-- the reasons at some keys, and the one against what they are together, which is asked where each has a value
abbrev pub fields_reasons : {A B : Type 0} → (Members → Reading A) → (Members → List Reason) → (A → Result B Reason) → Members → List Reason
fields_reasons read reasons of_keys table = reasons table ++ later_reasons (read table).read of_keys

-- ---- keys that depend on a choice

-- the keys of what was chosen; where nothing was, all keys, and the least reason
abbrev pub read_choice : {A B C : Type 0} → Result C Reason → (C → Members → Reading A) → (Members → Reading B) → Members → Reading A
read_choice (Ok choice) own all table = own choice table
read_choice (Err reason) own all table = record { left = (all table).left; read = mapped (both (Err reason) (all table).read) (λ x. x.0) }

unfoldable pub read_chosen : {A B C : Type 0} → (Members → Reading C) → (C → Members → Reading A) → (Members → Reading B) → Members → Reading A
read_chosen choice own all table = read_choice (choice table).read own all (choice table).left

abbrev pub choice_reasons : {C : Type 0} → Result C Reason → (C → Members → List Reason) → (Members → List Reason) → Members → List Reason
choice_reasons (Ok choice) own all table = own choice table
choice_reasons (Err reason) own all table = all table

abbrev pub chosen_reasons : {C : Type 0} → (Members → Reading C) → (Members → List Reason) → (C → Members → List Reason) → (Members → List Reason)
    → Members → List Reason
chosen_reasons choice reasons own all table = reasons table ++ choice_reasons (choice table).read own all (choice table).left

-- ---- a whole table

abbrev pub no_more : Members → Result (Unit {0}) Reason
no_more no_members = Ok tt
no_more (member k d rest) = Err UnknownKey

-- what was read, where no key is left
unfoldable pub closed : {A : Type 0} → Reading A → Result A Reason
closed r = mapped (both r.read (no_more r.left)) (λ x. x.0)

-- each reason that holds in a table with these keys and no other
abbrev pub closed_reasons : {A : Type 0} → (Members → Reading A) → (Members → List Reason) → Members → List Reason
closed_reasons read reasons table = reasons table ++ option_to_list (result_err (no_more (read table).left))

unfoldable pub read_table : {A : Type 0} → (Members → Reading A) → Data → Result A Reason
read_table read d = and_then (ok_or (as_table d) WrongType) (λ table. closed (read table))

abbrev pub table_reasons : {A : Type 0} → (Members → Reading A) → (Members → List Reason) → Data → List Reason
table_reasons read reasons d = reasons_in (as_table d) (WrongType ∷ []) (closed_reasons read reasons)
