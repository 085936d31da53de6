-- That what is read of a table tells the least reason in it.
use Rattle.std.specs.Prelude.{ℕ, List, [], ◌∷◌, Option, Some, None, Result, Ok, Err, ◌++◌, option_to_list, refl}
use Rattle.std.specs.Result.{result_err}
use Rattle.toml.specs.Data.{Data, Members, get_member, as_table}
use Rattle.toml_format.specs.Outcome.{both, TellsLeast, reasons_in}
use Rattle.toml_format.specs.TableReading.{Reading, required_at, optional_at, defaulted_at, read_required, read_optional, read_defaulted}
use Rattle.toml_format.specs.TableReading.{required_reasons, optional_reasons, read_none, then_read, read_checked, read_fields}
use Rattle.toml_format.specs.TableReading.{then_reasons, fields_reasons, no_more, closed, closed_reasons, read_table, table_reasons, read_choice, read_chosen, choice_reasons, chosen_reasons}
use Rattle.toml_format.specs.declared.reason.Reason.{Reason}
use Rattle.toml_format.specs.declared.reason.Reason.TheVariants.{MissingKey, WrongType}
use Rattle.toml_format.specs.laws.LeastReasons.{tells_one, tells_both, tells_mapped, tells_later, tells_in, tells_next}

-- ---- one key

module _ {A : Type 0} (read : Data → Result A Reason) (reasons : Data → List Reason) (tells : (d : Data) → TellsLeast (read d) (reasons d)) where
  required_at_tells : (o : Option Data) → TellsLeast (required_at read o) (reasons_in o (MissingKey ∷ []) reasons)
  required_at_tells (Some d) = tells d
  required_at_tells None = refl

  optional_at_tells : (o : Option Data) → TellsLeast (optional_at read o) (reasons_in o [] reasons)
  optional_at_tells (Some d) = tells_mapped (read d) Some (reasons d) (tells d)
  optional_at_tells None = refl

  defaulted_at_tells : (default : A) (o : Option Data) → TellsLeast (defaulted_at read default o) (reasons_in o [] reasons)
  defaulted_at_tells default (Some d) = tells d
  defaulted_at_tells default None = refl

  pub required_tells : (key : List ℕ) (table : Members) → TellsLeast (read_required key read table).read (required_reasons key reasons table)
  unfolding read_required
  required_tells key table = required_at_tells (get_member key table)

  pub optional_tells : (key : List ℕ) (table : Members) → TellsLeast (read_optional key read table).read (optional_reasons key reasons table)
  unfolding read_optional
  optional_tells key table = optional_at_tells (get_member key table)

  pub defaulted_tells : (key : List ℕ) (default : A) (table : Members)
      → TellsLeast (read_defaulted key read default table).read (optional_reasons key reasons table)
  unfolding read_defaulted
  defaulted_tells key default table = defaulted_at_tells default (get_member key table)

-- ---- several keys

pub none_tells : (table : Members) → TellsLeast (read_none table).read []
unfolding read_none
none_tells table = refl

module _ {A : Type 0} (read : Members → Reading A) (reasons : Members → List Reason) (tells : (t : Members) → TellsLeast (read t).read (reasons t)) where
  pub then_tells : {B : Type 0} (next : Members → Reading B) (later : Members → List Reason) → ((t : Members) → TellsLeast (next t).read (later t))
      → (table : Members) → TellsLeast (then_read (read table) next).read (then_reasons read reasons later table)
  unfolding then_read
  then_tells next later next_tells table = tells_both (read table).read (next (read table).left).read
      (reasons table) (later (read table).left) (tells table) (next_tells (read table).left)

  pub fields_tell : {B : Type 0} (of_keys : A → Result B Reason) (table : Members)
      → TellsLeast (read_fields read of_keys table).read (fields_reasons read reasons of_keys table)
  unfolding read_fields read_checked
  fields_tell of_keys table = tells_later (read table).read of_keys (reasons table) (tells table)

  -- ---- a whole table

  pub closed_tells : (table : Members) → TellsLeast (closed (read table)) (closed_reasons read reasons table)
  unfolding closed
  closed_tells table = tells_mapped (both (read table).read (no_more (read table).left)) (λ x. x.0) (closed_reasons read reasons table)
      (tells_both (read table).read (no_more (read table).left) (reasons table)
      (option_to_list (result_err (no_more (read table).left))) (tells table) (tells_one (no_more (read table).left)))

  pub table_tells : (d : Data) → TellsLeast (read_table read d) (table_reasons read reasons d)
  unfolding read_table
  table_tells d = tells_in (as_table d) WrongType (λ table. closed (read table)) (closed_reasons read reasons) closed_tells

-- ---- keys that depend on a choice

choice_tells : {A B C : Type 0} (r : Result C Reason) (reasons : List Reason) → TellsLeast r reasons
    → (own : C → Members → Reading A) (own_reasons : C → Members → List Reason) → ((c : C) (t : Members) → TellsLeast (own c t).read (own_reasons c t))
    → (all : Members → Reading B) (all_reasons : Members → List Reason) → ((t : Members) → TellsLeast (all t).read (all_reasons t))
    → (table : Members) → TellsLeast (read_choice r own all table).read (reasons ++ choice_reasons r own_reasons all_reasons table)
choice_tells (Ok c) reasons h own own_reasons own_tells all all_reasons all_tells table =
    tells_next c (own c table).read reasons (own_reasons c table) h (own_tells c table)
choice_tells {A = A} (Err e) reasons h own own_reasons own_tells all all_reasons all_tells table =
    let chosen : Result A Reason = Err e in
    tells_mapped (both chosen (all table).read) (λ x. x.0) (reasons ++ all_reasons table)
    (tells_both chosen (all table).read reasons (all_reasons table) h (all_tells table))

pub chosen_tells : {A B C : Type 0} (choice : Members → Reading C) (reasons : Members → List Reason) → ((t : Members) → TellsLeast (choice t).read (reasons t))
    → (own : C → Members → Reading A) (own_reasons : C → Members → List Reason) → ((c : C) (t : Members) → TellsLeast (own c t).read (own_reasons c t))
    → (all : Members → Reading B) (all_reasons : Members → List Reason) → ((t : Members) → TellsLeast (all t).read (all_reasons t))
    → (table : Members) → TellsLeast (read_chosen choice own all table).read (chosen_reasons choice reasons own_reasons all_reasons table)
unfolding read_chosen
chosen_tells choice reasons tells own own_reasons own_tells all all_reasons all_tells table =
    choice_tells (choice table).read (reasons table) (tells table) own own_reasons own_tells all all_reasons all_tells (choice table).left
