-- Formats of tables of a TOML document.
use Rattle.std.specs.Prelude.{ℕ, List, [], Option, Result}
use Rattle.toml.specs.Data.{Members}
use Rattle.toml_format.specs.Outcome.{TellsLeast}
use Rattle.toml_format.specs.TableReading.{Reading, read_required, read_optional, read_defaulted, required_reasons, optional_reasons}
use Rattle.toml_format.specs.TableReading.{read_none, then_read, read_fields, then_reasons, fields_reasons, read_chosen, chosen_reasons, read_table, table_reasons}
use Rattle.toml_format.specs.Values.{ValueFormat, array_of}
use Rattle.toml_format.specs.declared.reason.Reason.{Reason}
use Rattle.toml_format.specs.laws.Tables.{required_tells, optional_tells, defaulted_tells, none_tells, then_tells, fields_tell, chosen_tells, table_tells}

-- what is read at some keys of a table, and which reasons hold in it
pub record TableFormat (A : Type 0) : Type 0 where
  pub read : Members → Reading A
  -- each reason that holds at one of the keys, or in some part of the value there
  pub reasons : Members → List Reason
  pub tells : (table : Members) → TellsLeast (read table).read (reasons table)

-- a key that must be there
abbrev pub required : {A : Type 0} → List ℕ → ValueFormat A → TableFormat A
required key f = record {
  read = read_required key f.read;
  reasons = required_reasons key f.reasons;
  tells = required_tells f.read f.reasons f.tells key;
}

-- a key that may be there
abbrev pub optional : {A : Type 0} → List ℕ → ValueFormat A → TableFormat (Option A)
optional key f = record {
  read = read_optional key f.read;
  reasons = optional_reasons key f.reasons;
  tells = optional_tells f.read f.reasons f.tells key;
}

-- a key that may be there, and what holds where it isn't
abbrev pub defaulted : {A : Type 0} → List ℕ → ValueFormat A → A → TableFormat A
defaulted key f default = record {
  read = read_defaulted key f.read default;
  reasons = optional_reasons key f.reasons;
  tells = defaulted_tells f.read f.reasons f.tells key default;
}

-- a key that may hold an array of values of one format; where it isn't there, there are none
abbrev pub listed : {A : Type 0} → List ℕ → ValueFormat A → TableFormat (List A)
listed key f = defaulted key (array_of f) []

-- no key yet
abbrev pub no_keys : TableFormat (Unit {0})
no_keys = record { read = read_none; reasons = λ table. []; tells = none_tells }

-- some keys, and then others
infixl 5 ◌&◌
abbrev pub ◌&◌ : {A B : Type 0} → TableFormat A → TableFormat B → TableFormat (A × B)
f & g = record {
  read = λ table. then_read (f.read table) g.read;
  reasons = then_reasons f.read f.reasons g.reasons;
  tells = then_tells f.read f.reasons f.tells g.read g.reasons g.tells;
}

-- the values at some keys, and what they are together, or a reason against that
abbrev pub fields : {A B : Type 0} → TableFormat A → (A → Result B Reason) → TableFormat B
fields keys of_keys = record {
  read = read_fields keys.read of_keys;
  reasons = fields_reasons keys.read keys.reasons of_keys;
  tells = fields_tell keys.read keys.reasons keys.tells of_keys;
}

-- The keys of a choice, and then those that go with what was chosen. Where nothing was, all keys are known, and read.
abbrev pub chosen : {A B C : Type 0} → TableFormat C → (C → TableFormat A) → TableFormat B → TableFormat A
chosen choice own all = record {
  read = read_chosen choice.read (λ c. (own c).read) all.read;
  reasons = chosen_reasons choice.read choice.reasons (λ c. (own c).reasons) all.reasons;
  tells = chosen_tells choice.read choice.reasons choice.tells (λ c. (own c).read) (λ c. (own c).reasons) (λ c. (own c).tells) all.read all.reasons all.tells;
}

-- a table with these keys and no other
abbrev pub table_of : {A : Type 0} → TableFormat A → ValueFormat A
table_of f = record {
  read = read_table f.read;
  reasons = table_reasons f.read f.reasons;
  tells = table_tells f.read f.reasons f.tells;
}
